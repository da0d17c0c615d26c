use Rattle.std.proofs.Common.{◌∙◌, sym}
use Rattle.med_mem.proofs.FirstPlaceLemmas.{found_none, found_some}
use Rattle.med_mem.proofs.indexed.find_bytes.Goals as goal

pub returns-in-Some : goal.returns-in-Some
returns-in-Some c =
    c.bytes_at.ensures
    ∙ sym (found_some c.args.index.now c.args.files.now c.requires c.args.key.now
    c.in-Some.first.now (sym c.in-Some.ensures.value))

pub returns-in-None : goal.returns-in-None
returns-in-None c =
    sym (found_none c.args.index.now c.args.files.now c.requires c.args.key.now
    (sym c.in-None.ensures.value))
