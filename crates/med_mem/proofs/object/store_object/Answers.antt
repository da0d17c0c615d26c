use Rattle.std.proofs.Common.{◌∙◌, refl, ap}
use Rattle.med_mem.specs.declared.object.MemObject.{MemObject}
use Rattle.med_mem.specs.Objects.{pairs}
use Rattle.med_mem.proofs.Places.{replaced, inserted}
use Rattle.med_mem.proofs.object.store_object.Goals as goal

pub returns-in-Ok-clause-ok : goal.returns-in-Ok-clause-ok
returns-in-Ok-clause-ok c =
    let there = rw (c.as_slice.ensures.value, c.as_str.ensures) at c.in-Ok.ensures.found in
    replaced _ _ _ refl _ _ c.index_mut-there.result.now
    (ap (λ (o : MemObject). o.path) c.index_mut-there.ensures.value) there

pub returns-in_ok-insert-in-Err-clause-ok : goal.returns-in_ok-insert-in-Err-clause-ok
returns-in_ok-insert-in-Err-clause-ok c =
    let gap = rw (c.as_slice.ensures.value, c.as_str.ensures) at c.in-Err.ensures.gap in
    ap pairs c.in_ok-insert-in-Err.ensures.items ∙ inserted _ _ _ refl refl _ _ gap
