use Rattle.std.proofs.Common.{◌≡◌, ◌≤◌, ◌<◌, ℕ, List, IfSome}
use Rattle.med_outside.specs.Pages.{CountsRight, left_of}
use Rattle.med_outside.specs.State.{OnlyReads}
use Rattle.med_outside.specs.Storage.{listing}
use Rattle.med_index.specs.Visits.{left_behind}
use Rattle.med_index.proofs.pages.walk.Given as goal

-- what comes behind the page is still to come
abbrev pub invariant-pages : goal.invariant-pages
invariant-pages g l = record {
  found : IfSome (g.S.Storage.state l.fn.store).content
      (λ c. (f : List ℕ)
      → g.V.Visitor.found l.fn.visitor l.layout f c (listing l.under c)
      → g.V.Visitor.found l.visitor l.layout f c (left_behind l.under l.after c));
  held : (f n : List ℕ) → g.V.Visitor.held l.fn.visitor l.layout f n
      → g.V.Visitor.held l.visitor l.layout f n;
  same : g.V.Visitor.terms l.visitor ≡ g.V.Visitor.terms l.fn.visitor;
  counts : CountsRight l.under l.after (g.S.Storage.state l.store).content;
  some_left : IfSome l.after (λ e. 0 < e.left);
  looks : OnlyReads (g.S.Storage.state l.fn.store) (g.S.Storage.state l.store)
      (g.S.Storage.stood l.fn.store) (g.S.Storage.stood l.store);
  later : (g.S.Storage.state l.fn.store).faults ≤ (g.S.Storage.state l.store).faults;
}

abbrev pub decreases-pages : goal.decreases-pages
decreases-pages g l = left_of l.after
