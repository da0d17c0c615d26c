use Rattle.med_mem.proofs.Notes.{held_entries}
use Rattle.med_mem.proofs.store.MemStore.content.Goals as goal

pub returns : goal.returns
returns c =
    rw (← c.self.view_is, ← held_entries _ _ _ c.self.invariant.0, ← c.as_slice.ensures.value)
    c.copy_objects.ensures
