use Rattle.std.proofs.Common.{◌∙◌, ap, arith}
use Rattle.med_mem.specs.Objects.{pairs, listed_under}
use Rattle.med_mem.proofs.PageLemmas.{listed_those, has_first}
use Rattle.med_mem.proofs.page.page_under.Goals as goal

pub returns : goal.returns
returns c =
    let text = c.args.under.now in
    let all =
    ap (λ os. listed_under text (pairs os)) c.split_at.ensures.back
    ∙ ap (listed_under text) c.place_behind.ensures.behind
    ∙ listed_those text _ _ in
    has_first _ _ _ _ all c.in_ok-entries.ensures
    (omega (arith, c.saturating_sub-left.ensures, c.count_under.ensures))
    (rw (c.as_slice.ensures.value) at c.in_ok-end.ensures)
