use Rattle.std.proofs.Common.{refl, arith}
use Rattle.med_mem.proofs.Notes.{no_entries}
use Rattle.med_mem.proofs.store.MemStore.new.Goals as goal

pub invariant_of-result : goal.invariant_of-result
invariant_of-result c = (
  rw (c.new.ensures.items, c.new-2.ensures.items)
      record { same = no_entries; made_by = refl; in_order = refl },
  omega (arith, c.new-2.result.ok.1),
)
