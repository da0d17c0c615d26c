use Rattle.std.proofs.Common.{Ok, refl, ap}
use Rattle.med_mem.proofs.Notes.{tells_later, tells_same, tells_removal, room_stays}
use Rattle.med_mem.proofs.Moments.{only_reads, only_reads_again, makes_removal}
use Rattle.med_mem.proofs.CallLemmas.{counts_ok, counts_memory, goes_on, leaves_done, leaves_at_once, leaves_memory}
use Rattle.med_mem.proofs.store.MemStoreStorage.delete.Goals as goal

pub invariant_of-self : goal.invariant_of-self
invariant_of-self c =
    let (told, room) = c.self.invariant in
    (tells_later _ _ _ _ c.begin_delete.ensures.bound told, room)

pub returns-in_err-fails-clause-err : goal.returns-in_err-fails-clause-err
returns-in_err-fails-clause-err c =
    let set = rw (c.as_slice.ensures.value) at c.in_err-fails.ensures.failed in
    rw (← c.self.view_is)
    (leaves_at_once _ _ _ _ set
    (only_reads _ _ _ _ _ _ _ _ c.self.invariant.0.made_by c.begin_delete.ensures.bound))

pub invariant_of-self-in_err-was_there : goal.invariant_of-self-in_err-was_there
invariant_of-self-in_err-was_there c =
    let same = c.in_err-was_there.ensures in
    let (told, room) = c.self.invariant in (
      tells_same _ _ _ _ _ _ c.begin_delete.ensures.bound same.same_notes same.same_objects told,
      room_stays c.self.inside.changes c.remove_object.new.changes _ 0 same.capacity room
          same.same_notes,
    )

pub returns-in_err-was_there-clause-err : goal.returns-in_err-was_there-clause-err
returns-in_err-was_there-clause-err c =
    rw (← c.self.view_is)
    (leaves_memory _ _ _ _ c.from_residual-in_err-was_there.ensures
    (only_reads_again _ _ _ _ _ _ _ _ _ c.self.invariant.0.made_by
    c.in_err-was_there.ensures.same_notes c.begin_delete.ensures.bound))

pub invariant_of-self-then-fails : goal.invariant_of-self-then-fails
invariant_of-self-then-fails c =
    let done = c.in_ok-was_there.ensures in
    let (told, room) = c.self.invariant in
    let removed = rw (c.as_str-text.ensures) at done.removed in
    tells_removal _ _ c.self.inside.changes c.remove_object.new.changes _ _ _ _ _
    c.in_ok-was_there.was_there c.begin_delete.ensures.bound removed c.room_left-self-inside.ensures
    done.capacity told room

pub invariant_of-self-else-fails : goal.invariant_of-self-else-fails
invariant_of-self-else-fails c =
    let done = c.in_ok-was_there.ensures in
    let (told, room) = c.self.invariant in
    let removed = rw (c.as_str-text.ensures) at done.removed in
    tells_removal _ _ c.self.inside.changes c.remove_object.new.changes _ _ _ _ _
    c.in_ok-was_there.was_there c.begin_delete.ensures.bound removed c.room_left-self-inside.ensures
    done.capacity told room

pub returns-then-fails-clause-err : goal.returns-then-fails-clause-err
returns-then-fails-clause-err c =
    let removed = rw (c.as_str-text.ensures) at c.in_ok-was_there.ensures.removed in
    let begun = rw (c.as_slice.ensures.value) at c.in_ok-fails.ensures in
    rw (← c.self.view_is)
    (leaves_done _ _ _ (begun.lands (ap Ok c.if-fails.true))
    (makes_removal _ _ c.self.inside.changes.items c.remove_object.new.changes.items _ _ _ _ _ _ _
    _ c.args.path.now c.in_ok-was_there.was_there c.self.invariant.0 begun.ok removed
    c.room_left-self-inside.ensures))

pub returns-clause-ok : goal.returns-clause-ok
returns-clause-ok c =
    let removed = rw (c.as_str-text.ensures) at c.in_ok-was_there.ensures.removed in
    rw (← c.self.view_is)
    (makes_removal _ _ c.self.inside.changes.items c.remove_object.new.changes.items _ _ _ _ _ _ _
    _ c.args.path.now c.in_ok-was_there.was_there c.self.invariant.0 c.in_ok-fails.ensures.ok
    removed c.room_left-self-inside.ensures)

pub returns-in_err-was_there-clause-counts : goal.returns-in_err-was_there-clause-counts
returns-in_err-was_there-clause-counts c =
    let begun = rw (c.as_slice.ensures.value) at c.in_ok-fails.ensures in
    rw (← c.self.view_is)
    (counts_memory _ _ _ begun.counts refl begun.cause _ _
    c.from_residual-in_err-was_there.ensures (goes_on _ _ begun.none begun.lands))

pub returns-clause-counts : goal.returns-clause-counts
returns-clause-counts c =
    let begun = rw (c.as_slice.ensures.value) at c.in_ok-fails.ensures in
    rw (← c.self.view_is)
    (counts_ok _ _ _ begun.counts refl begun.cause _ _ (begun.none (ap Ok c.if-fails.false)))
