use Rattle.std.proofs.Common.{◌∙◌, refl, ap, option_map}
use Rattle.med_base.specs.Content.{Object}
use Rattle.med_outside.specs.Pieces.{piece_at}
use Rattle.med_mem.proofs.Notes.{tells_later, found_held}
use Rattle.med_mem.proofs.Moments.{only_reads}
use Rattle.med_mem.proofs.CallLemmas.{counts_ok, counts_memory, not_set}
use Rattle.med_mem.proofs.store.MemStoreStorage.get_piece.Goals as goal

pub invariant_of-self : goal.invariant_of-self
invariant_of-self c =
    let (told, room) = c.self.invariant in
    (tells_later _ _ _ _ c.begin_look.ensures.bound told, room)

pub returns-in_err-begin_look-clause-looks : goal.returns-in_err-begin_look-clause-looks
returns-in_err-begin_look-clause-looks c =
    rw (← c.self.view_is)
    (only_reads _ _ _ _ _ _ _ _ c.self.invariant.0.made_by c.begin_look.ensures.bound)

pub invariant_of-self-in_err-copy_piece : goal.invariant_of-self-in_err-copy_piece
invariant_of-self-in_err-copy_piece c =
    let (told, room) = c.self.invariant in
    (tells_later _ _ _ _ c.begin_look.ensures.bound told, room)

pub invariant_of-self-2 : goal.invariant_of-self-2
invariant_of-self-2 c =
    let (told, room) = c.self.invariant in
    (tells_later _ _ _ _ c.begin_look.ensures.bound told, room)

pub returns-in_err-copy_piece-clause-looks : goal.returns-in_err-copy_piece-clause-looks
returns-in_err-copy_piece-clause-looks c =
    rw (← c.self.view_is)
    (only_reads _ _ _ _ _ _ _ _ c.self.invariant.0.made_by c.begin_look.ensures.bound)

pub returns-clause-looks : goal.returns-clause-looks
returns-clause-looks c =
    rw (← c.self.view_is)
    (only_reads _ _ _ _ _ _ _ _ c.self.invariant.0.made_by c.begin_look.ensures.bound)

pub returns-clause-answer : goal.returns-clause-answer
returns-clause-answer c =
    let read =
    rw (c.as_slice-2.ensures.value, c.as_str.ensures) at c.in_ok-copy_piece.ensures.piece in
    rw (← c.self.view_is)
    (read
    ∙ ap (option_map (λ (o : Object). piece_at c.args.from o.bytes))
    (found_held _ _ _ _ c.self.invariant.0))

pub returns-in_err-copy_piece-clause-counts : goal.returns-in_err-copy_piece-clause-counts
returns-in_err-copy_piece-clause-counts c =
    let begun = c.in_ok-begin_look.ensures in
    let none = rw (c.as_slice.ensures.value) at begun.none in
    rw (← c.self.view_is)
    (counts_memory _ _ _ begun.counts refl begun.cause _ _
    c.from_residual-in_err-copy_piece.ensures (not_set _ none))

pub returns-clause-counts : goal.returns-clause-counts
returns-clause-counts c =
    let begun = c.in_ok-begin_look.ensures in
    let none = rw (c.as_slice.ensures.value) at begun.none in
    rw (← c.self.view_is) (counts_ok _ _ _ begun.counts refl begun.cause _ _ none)
