use Rattle.std.proofs.Common.{◌∙◌, refl, ap}
use Rattle.med_base.specs.Classify.{kind_of}
use Rattle.med_base.specs.Content.{is_under}
use Rattle.med_removal.proofs.Listing.{content_lies}
use Rattle.med_removal.proofs.picking.add_content.Goals as goal

pub pick-requires : goal.pick-requires
pick-requires g c = λ path test.
    let before = c.args.layout.now in
    ap (λ text. is_under text path) (c.as_str.ensures.value ∙ c.in-Ok.ensures)
    ∙ content_lies before c.args.node.now c.args.name.now path (kind_of before path) refl test
