use Rattle.std.proofs.Common.{refl}
use Rattle.med_mem.proofs.Notes.{tells_later, held_entries}
use Rattle.med_mem.proofs.Moments.{only_reads}
use Rattle.med_mem.proofs.PageLemmas.{is_page, counts_down}
use Rattle.med_mem.proofs.CallLemmas.{counts_ok, counts_memory, not_set}
use Rattle.med_mem.proofs.store.MemStoreStorage.list_page.Goals as goal

pub invariant_of-self : goal.invariant_of-self
invariant_of-self c =
    let (told, room) = c.self.invariant in
    (tells_later _ _ _ _ c.begin_look.ensures.bound told, room)

pub returns-in_err-begin_look-clause-looks : goal.returns-in_err-begin_look-clause-looks
returns-in_err-begin_look-clause-looks c =
    rw (← c.self.view_is)
    (only_reads _ _ _ _ _ _ _ _ c.self.invariant.0.made_by c.begin_look.ensures.bound)

pub invariant_of-self-in_err-page_under : goal.invariant_of-self-in_err-page_under
invariant_of-self-in_err-page_under c =
    let (told, room) = c.self.invariant in
    (tells_later _ _ _ _ c.begin_look.ensures.bound told, room)

pub invariant_of-self-2 : goal.invariant_of-self-2
invariant_of-self-2 c =
    let (told, room) = c.self.invariant in
    (tells_later _ _ _ _ c.begin_look.ensures.bound told, room)

pub returns-in_err-page_under-clause-looks : goal.returns-in_err-page_under-clause-looks
returns-in_err-page_under-clause-looks c =
    rw (← c.self.view_is)
    (only_reads _ _ _ _ _ _ _ _ c.self.invariant.0.made_by c.begin_look.ensures.bound)

pub returns-clause-looks : goal.returns-clause-looks
returns-clause-looks c =
    rw (← c.self.view_is)
    (only_reads _ _ _ _ _ _ _ _ c.self.invariant.0.made_by c.begin_look.ensures.bound)

pub returns-clause-page : goal.returns-clause-page
returns-clause-page c =
    let first = rw (c.as_slice-2.ensures.value) at c.in_ok-page_under.ensures in
    rw (← c.self.view_is)
    (is_page c.args.under.now _ _ _ _ (held_entries _ _ _ c.self.invariant.0) first)

pub returns-clause-left : goal.returns-clause-left
returns-clause-left c =
    let first = rw (c.as_slice-2.ensures.value) at c.in_ok-page_under.ensures in
    let page = is_page c.args.under.now _ _ _ _ (held_entries _ _ _ c.self.invariant.0) first in
    counts_down c.args.under.now _ _ _ page (rw (← c.self.view_is) at c.requires)

pub returns-in_err-page_under-clause-counts : goal.returns-in_err-page_under-clause-counts
returns-in_err-page_under-clause-counts c =
    let begun = c.in_ok-begin_look.ensures in
    let none = rw (c.as_slice.ensures.value) at begun.none in
    rw (← c.self.view_is)
    (counts_memory _ _ _ begun.counts refl begun.cause _ _
    c.from_residual-in_err-page_under.ensures (not_set _ none))

pub returns-clause-counts : goal.returns-clause-counts
returns-clause-counts c =
    let begun = c.in_ok-begin_look.ensures in
    let none = rw (c.as_slice.ensures.value) at begun.none in
    rw (← c.self.view_is) (counts_ok _ _ _ begun.counts refl begun.cause _ _ none)
