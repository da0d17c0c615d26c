use Rattle.std.proofs.Common.{◌∙◌, sym, subst}
use Rattle.med_removal.specs.Going.{AddsOne}
use Rattle.med_removal.proofs.Picks.{holds_more, ok_with, picked_more}
use Rattle.med_removal.proofs.picking.PickedVisitor.visit.Goals as goal

pub returns-clause-found : goal.returns-clause-found
returns-clause-found c =
    let before = c.args.layout.now in
    let p = c.args.self.now in
    let e = c.args.entry.now in
    let is = sym c.goes.ensures ∙ c.if-not-goes.false in
    ok_with
    (λ adds f d rest. picked_more before f d p.which e rest p.node.now p.going c.add.new.self is
    (subst (λ size. AddsOne e.path size p.going c.add.new.self) c.data_size.ensures
    (subst (λ path. AddsOne path c.data_size.result p.going c.add.new.self)
    c.in_ok-path.ensures adds))) c.add.result c.add.ensures

pub returns-clause-held : goal.returns-clause-held
returns-clause-held c =
    let before = c.args.layout.now in
    let p = c.args.self.now in
    let e = c.args.entry.now in
    let is = sym c.goes.ensures ∙ c.if-not-goes.false in
    ok_with
    (λ adds f n. holds_more before f p.which e p.node.now c.data_size.result p.going
    c.add.new.self is
    (subst (λ path. AddsOne path c.data_size.result p.going c.add.new.self)
    c.in_ok-path.ensures adds)) c.add.result c.add.ensures
