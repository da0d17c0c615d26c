use Rattle.std.proofs.Common.{◌++◌, ℕ, List, subst}
use Rattle.med_base.specs.Content.{Content}
use Rattle.med_outside.specs.declared.storage.Entry.{Entry}
use Rattle.med_outside.specs.Pages.{shown}
use Rattle.med_index.proofs.Walking.{page_found, page_counts}
use Rattle.med_index.proofs.pages.visit_page.Goals as goal

pub returns-in-Ok-visit_all-clause-found : goal.returns-in-Ok-visit_all-clause-found
returns-in-Ok-visit_all-clause-found g c =
    page_found (g.V.Visitor.found c.args.visitor.now c.args.layout.now)
    (g.V.Visitor.found c.visit_all.new.visitor c.args.layout.now) c.args.under.now
    (shown c.args.after) c.in-Ok.page (g.S.Storage.state c.args.store.now).content
    c.in-Ok.ensures.page
    (subst
    (λ (es : List Entry). (f : List ℕ) (d : Content) (rest : List Entry)
    → g.V.Visitor.found c.args.visitor.now c.args.layout.now f d (es ++ rest)
    → g.V.Visitor.found c.visit_all.new.visitor c.args.layout.now f d rest)
    c.as_slice.ensures.value c.in-Ok-visit_all.ensures.found)

pub returns-in-Ok-visit_all-clause-counts : goal.returns-in-Ok-visit_all-clause-counts
returns-in-Ok-visit_all-clause-counts g c =
    page_counts c.args.under.now (shown c.args.after) c.in-Ok.page
    (g.S.Storage.state c.args.store.now).content c.in-Ok.ensures.page
