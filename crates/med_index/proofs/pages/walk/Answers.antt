use Rattle.std.proofs.Common.{sym, subst}
use Rattle.med_outside.specs.Pages.{CountsRight}
use Rattle.med_index.proofs.Walking.{first_found, same_content}
use Rattle.med_index.proofs.pages.walk.Goals as goal

pub pages-init : goal.pages-init
pages-init g c =
    record {
      found =
          first_found (g.V.Visitor.found c.args.visitor.now c.args.layout.now)
          (g.V.Visitor.found c.visit_page.new.visitor c.args.layout.now) c.args.under.now
          c.in_ok-after.after (g.S.Storage.state c.args.store.now).content
          c.in_ok-after.ensures.found;
      held = c.in_ok-after.ensures.held;
      same = c.in_ok-after.ensures.same;
      counts =
          subst (CountsRight c.args.under.now c.in_ok-after.after)
          (sym (same_content _ _ _ _ c.in_ok-after.ensures.looks)) c.in_ok-after.ensures.counts;
      some_left = c.in_ok-after.ensures.some_left;
      looks = c.in_ok-after.ensures.looks;
      later = c.in_ok-after.ensures.cause.later;
    }
