use Rattle.med_outside.specs.Pages.{shown}
use Rattle.med_outside.proofs.Paging.{counts_next}
use Rattle.med_suite_rows.proofs.pages.append_page.Goals as goal

pub returns-in_ok-ok-in-Ok-clause-left : goal.returns-in_ok-ok-in-Ok-clause-left
returns-in_ok-ok-in-Ok-clause-left g c =
    counts_next c.args.under.now (shown c.args.after) (g.S.Storage.state c.args.store.now).content
    (g.S.Storage.state c.list_page.new.self).content c.in-Ok.page
    c.in-Ok.ensures.looks.moves.passes.content c.in-Ok.ensures.page
