use Rattle.std.proofs.Common.{◌∙◌, ap}
use Rattle.std.specs.List.{list_any}
use Rattle.med_base.specs.NameOrder.{name_eq}
use Rattle.med_shelf.specs.Shelf.{ShelfState}
use Rattle.med_shelf.proofs.Names.{runs_iff}
use Rattle.med_shelf.proofs.claiming.is_running.Goals as goal

pub returns : goal.returns
returns c =
    runs_iff c.args.shelf.now.node c.args.name.now c.args.shelf.now.running c.contains.result
    (c.contains.ensures.value
    ∙ ap (list_any (λ n. name_eq n c.args.name.now)) c.as_slice.ensures.value
    ∙ ap (λ (s : ShelfState). list_any (λ n. name_eq n c.args.name.now) s.running)
    c.shelf.view_is)
