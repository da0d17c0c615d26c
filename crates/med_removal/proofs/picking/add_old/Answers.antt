use Rattle.std.proofs.Common.{◌∙◌, refl, ap}
use Rattle.med_base.specs.Classify.{kind_of}
use Rattle.med_base.specs.Content.{is_under}
use Rattle.med_removal.proofs.Adding.{suited}
use Rattle.med_removal.proofs.Listing.{shared_lies}
use Rattle.med_removal.proofs.picking.add_old.Goals as goal

pub pick-requires : goal.pick-requires
pick-requires g c = λ path test.
    let before = c.args.layout.now in
    ap (λ text. is_under text path) (c.as_str.ensures.value ∙ c.in-Ok.ensures)
    ∙ shared_lies before c.args.node.now path (kind_of before path) refl test

pub returns-clause-within : goal.returns-clause-within
returns-clause-within g c =
    suited c.args.layout.now c.args.node.now c.args.going.now c.pick.new.going c.pick.result
    c.pick.ensures.within
