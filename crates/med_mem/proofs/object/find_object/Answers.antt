use Rattle.std.proofs.Common.{◌∙◌, Some, ap}
use Rattle.med_mem.specs.Objects.{object_of}
use Rattle.med_mem.proofs.Places.{find_there, find_gap}
use Rattle.med_mem.proofs.object.find_object.Goals as goal

pub returns-in-Ok : goal.returns-in-Ok
returns-in-Ok c =
    ap (λ o. Some (object_of o)) c.index-objects-i.is
    ∙ find_there _ _ _ c.index-objects-i.result c.in-Ok.ensures.found

pub returns-in-Err : goal.returns-in-Err
returns-in-Err c = find_gap _ _ _ c.in-Err.ensures.gap
