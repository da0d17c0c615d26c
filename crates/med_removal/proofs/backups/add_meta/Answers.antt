use Rattle.std.proofs.Common.{◌≡◌, ◌∙◌, None, subst}
use Rattle.med_base.specs.Classify.{kind_of}
use Rattle.med_base.specs.Kinds.{Meta}
use Rattle.med_removal.specs.Going.{AddsOne}
use Rattle.med_removal.proofs.Gone.{adds_found, meta_removable}
use Rattle.med_removal.proofs.Picks.{ok_with}
use Rattle.med_removal.proofs.backups.add_meta.Goals as goal

pub returns-clause-told : goal.returns-clause-told
returns-clause-told c =
    let before = c.args.layout.now in
    let f = c.args.node.now in
    let n = c.args.name.now in
    let path = c.in_ok-path.ensures in
    ok_with
    (λ adds d found. adds_found before f d n c.args.kind c.in-Some.field-0 c.args.going.now
    c.add.new.self (found ∙ c.in-Some.is)
    (subst (λ p. kind_of before p ≡ Meta f n c.args.kind) path.path path.kind)
    (subst (λ p. AddsOne p None c.args.going.now c.add.new.self) path.path adds)) c.add.result
    c.add.ensures

pub returns-clause-within : goal.returns-clause-within
returns-clause-within c =
    let before = c.args.layout.now in
    let f = c.args.node.now in
    let n = c.args.name.now in
    let path = c.in_ok-path.ensures in
    ok_with
    (λ adds call removing was. meta_removable before f n c.args.kind call c.args.going.now
    c.add.new.self (subst (λ p. kind_of before p ≡ Meta f n c.args.kind) path.path path.kind)
    removing (subst (λ p. AddsOne p None c.args.going.now c.add.new.self) path.path adds) was)
    c.add.result c.add.ensures
