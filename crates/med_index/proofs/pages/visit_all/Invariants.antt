use Rattle.std.proofs.Common.{◌≡◌, ◌++◌, ℕ, List, drop}
use Rattle.med_base.specs.Content.{Content}
use Rattle.med_outside.specs.declared.storage.Entry.{Entry}
use Rattle.med_index.proofs.pages.visit_all.Given as goal

-- the entries from this one on are still to come
abbrev pub invariant-loop-entry : goal.invariant-loop-entry
invariant-loop-entry g l = record {
  found : (f : List ℕ) (c : Content) (rest : List Entry)
      → g.V.Visitor.found l.fn.visitor l.layout f c (l.entries ++ rest)
      → g.V.Visitor.found l.visitor l.layout f c (drop l.entry-index l.entries ++ rest);
  held : (f n : List ℕ) → g.V.Visitor.held l.fn.visitor l.layout f n
      → g.V.Visitor.held l.visitor l.layout f n;
  same : g.V.Visitor.terms l.visitor ≡ g.V.Visitor.terms l.fn.visitor;
}
