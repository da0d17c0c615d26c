use Rattle.std.proofs.Common.{sym}
use Rattle.med_index.proofs.Finding.{no_meta, node_noted, then_ok}
use Rattle.med_index.proofs.nodes.NodesVisitor.visit.Goals as goal

pub returns-in-None-clause-found : goal.returns-in-None-clause-found
returns-in-None-clause-found c = λ f d rest old.
    no_meta c.args.self.now.found c.args.layout.now d c.args.entry.now rest
    (sym c.in-None.ensures.meta) old

pub returns-in-Some-clause-found : goal.returns-in-Some-clause-found
returns-in-Some-clause-found c =
    then_ok c.note.result
    (λ updates f d rest old.
    node_noted c.args.self.now.found c.note.new.found c.args.layout.now d c.args.entry.now rest
    _ _ _ c.in-Some.ensures.valid.0 c.in-Some.ensures.valid.1 (sym c.in-Some.ensures.meta)
    updates old)
    c.note.ensures
