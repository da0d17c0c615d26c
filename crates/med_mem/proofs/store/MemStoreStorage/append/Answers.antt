use Rattle.std.proofs.Common.{refl}
use Rattle.med_mem.specs.Objects.{noted}
use Rattle.med_mem.proofs.Notes.{tells_later}
use Rattle.med_mem.proofs.Moments.{reads_on_err, only_reads}
use Rattle.med_mem.proofs.CallLemmas.{counts_ok, counts_memory, not_set}
use Rattle.med_mem.proofs.store.MemStoreStorage.append.Goals as goal

pub invariant_of-self : goal.invariant_of-self
invariant_of-self c =
    let (told, room) = c.self.invariant in
    (tells_later _ _ _ _ c.begin_look.ensures.bound told, room)

pub returns-in_err-begin_look-clause-err : goal.returns-in_err-begin_look-clause-err
returns-in_err-begin_look-clause-err c =
    rw (← c.self.view_is, c.take-upload.ensures.after)
    (reads_on_err _ _ _ _ _ _ _ _ _ _ c.self.invariant.0.made_by c.begin_look.ensures.bound)

pub invariant_of-self-2 : goal.invariant_of-self-2
invariant_of-self-2 c =
    let (told, room) = c.self.invariant in
    (tells_later _ _ _ _ c.begin_look.ensures.bound told, room)

pub invariant_of-self-in_err-self-inside : goal.invariant_of-self-in_err-self-inside
invariant_of-self-in_err-self-inside c =
    let (told, room) = c.self.invariant in
    (tells_later _ _ _ _ c.begin_look.ensures.bound told, room)

pub returns-in_err-self-inside-clause-err : goal.returns-in_err-self-inside-clause-err
returns-in_err-self-inside-clause-err c =
    rw (← c.self.view_is, c.take-upload.ensures.after)
    (reads_on_err _ (noted c.self.inside.changes.items) _
    c.self.inside.calls c.begin_look.new.calls _ _ _ _ _ c.self.invariant.0.made_by
    c.begin_look.ensures.bound)

pub returns-clause-ok : goal.returns-clause-ok
returns-clause-ok c =
    rw (← c.self.view_is, c.in_ok-self-inside.ensures, c.take-upload.ensures.value)
    (only_reads _ _ _ _ _ _ _ _ c.self.invariant.0.made_by c.begin_look.ensures.bound)

pub returns-in_err-self-inside-clause-counts : goal.returns-in_err-self-inside-clause-counts
returns-in_err-self-inside-clause-counts c =
    let begun = c.in_ok-begin_look.ensures in
    let none = rw (c.as_slice.ensures.value) at begun.none in
    rw (← c.self.view_is)
    (counts_memory _ _ _ begun.counts refl begun.cause _ _
    c.from_residual-in_err-self-inside.ensures (not_set _ none))

pub returns-clause-counts : goal.returns-clause-counts
returns-clause-counts c =
    let begun = c.in_ok-begin_look.ensures in
    let none = rw (c.as_slice.ensures.value) at begun.none in
    rw (← c.self.view_is) (counts_ok _ _ _ begun.counts refl begun.cause _ _ none)
