use Rattle.std.proofs.Common.{[]}
use Rattle.med_outside.specs.Pages.{CountsRight}
use Rattle.med_outside.specs.State.{IsReady}
use Rattle.med_suite_rows.proofs.pages.pages_text.Given as goal

abbrev pub invariant-loop : goal.invariant-loop
invariant-loop g l =
    IsReady [] (g.S.Storage.state l.store)
    × CountsRight l.under l.end (g.S.Storage.state l.store).content
