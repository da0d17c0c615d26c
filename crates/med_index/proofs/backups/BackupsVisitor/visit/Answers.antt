use Rattle.std.proofs.Common.{◌∙◌, ℕ, List, Some, sym, subst, ap}
use Rattle.med_base.specs.Kinds.{IsFqdn}
use Rattle.med_index.proofs.Finding.{passed_over, noted, none_told, other_told, then_ok, same_text, other_text}
use Rattle.med_index.proofs.backups.BackupsVisitor.visit.Goals as goal

pub returns-in_default-clause-found : goal.returns-in_default-clause-found
returns-in_default-clause-found c = λ f d rest old.
    passed_over c.args.self.now.node.now c.args.self.now.found c.args.layout.now f d
    c.args.entry.now rest
    (none_told c.args.layout.now c.args.entry.now.path f
    (subst IsFqdn old.node_is c.as_str-node.ensures.fits) (sym c.in_default.ensures.meta)) old

pub returns-then-eq-clause-found : goal.returns-then-eq-clause-found
returns-then-eq-clause-found c =
    then_ok c.note.result
    (λ updates f d rest old.
    noted c.args.self.now.node.now c.args.self.now.found c.note.new.found c.args.layout.now f d
    c.args.entry.now rest c.in-Some.backup.now c.in-Some.kind
    (subst IsFqdn old.node_is c.as_str-node.ensures.fits) c.in-Some.ensures.valid.1
    (sym c.in-Some.ensures.meta
    ∙ ap (λ (g : List ℕ). Some (g, (c.in-Some.backup.now, c.in-Some.kind)))
    (same_text c.in-Some.owner.now c.as_str-node.result.now (sym c.eq.ensures ∙ c.if-eq.true)
    ∙ c.as_str-node.ensures.value ∙ old.node_is)) updates old)
    c.note.ensures

pub returns-else-eq-clause-found : goal.returns-else-eq-clause-found
returns-else-eq-clause-found c = λ f d rest old.
    passed_over c.args.self.now.node.now c.args.self.now.found c.args.layout.now f d
    c.args.entry.now rest
    (other_told c.args.layout.now c.args.entry.now.path f c.in-Some.owner.now c.in-Some.backup.now
    c.in-Some.kind (subst IsFqdn old.node_is c.as_str-node.ensures.fits)
    (sym c.in-Some.ensures.meta)
    (λ same. other_text c.in-Some.owner.now c.as_str-node.result.now
    (sym c.eq.ensures ∙ c.if-eq.false)
    (same ∙ sym old.node_is ∙ sym c.as_str-node.ensures.value))) old
