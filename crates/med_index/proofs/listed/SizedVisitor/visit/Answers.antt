use Rattle.std.proofs.Common.{◌∙◌, List, ℕ, Some, sym, subst}
use Rattle.std.specs.BTreeMap.{Updates}
use Rattle.med_base.specs.NameOrder.{name_cmp}
use Rattle.med_index.proofs.SizeLemmas.{sized_more, sized_over, sizing_more}
use Rattle.med_index.proofs.listed.SizedVisitor.visit.Goals as goal

pub returns-in_ok-insert-clause-found : goal.returns-in_ok-insert-clause-found
returns-in_ok-insert-clause-found c = λ f d rest old.
    let sizes = c.args.self.now.sizes in
    let new = c.insert.new.self in
    sized_more c.args.layout.now c.args.self.now.node.now d c.args.entry.now rest sizes old new
    (subst (λ (p : List ℕ). Updates name_cmp sizes new p (Some c.args.entry.now.size))
    c.in_ok-copy.ensures c.in_ok-insert.ensures.updates)

pub returns-in_ok-insert-clause-held : goal.returns-in_ok-insert-clause-held
returns-in_ok-insert-clause-held c = λ f n old.
    let sizes = c.args.self.now.sizes in
    let new = c.insert.new.self in
    sizing_more c.args.layout.now f c.args.self.now.node.now c.args.entry.now.path
    c.args.entry.now.size sizes new (sym c.is_node_entry.ensures ∙ c.if-is_node_entry.true)
    (subst (λ (p : List ℕ). Updates name_cmp sizes new p (Some c.args.entry.now.size))
    c.in_ok-copy.ensures c.in_ok-insert.ensures.updates) old

pub returns-else-is_node_entry-clause-found : goal.returns-else-is_node_entry-clause-found
returns-else-is_node_entry-clause-found c = λ f d rest old.
    sized_over c.args.layout.now c.args.self.now.node.now d c.args.entry.now rest
    c.args.self.now.sizes old (sym c.is_node_entry.ensures ∙ c.if-is_node_entry.false)
