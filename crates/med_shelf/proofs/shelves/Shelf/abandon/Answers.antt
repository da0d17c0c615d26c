use Rattle.std.proofs.Common.{rules, ◌∙◌, not, map, ap}
use Rattle.std.proofs.lemmas.Fn.{filter_same}
use Rattle.med_base.specs.NameOrder.{name_eq}
use Rattle.med_core.specs.Run.{without}
use Rattle.med_shelf.specs.Shelf.{ShelfState, running_of}
use Rattle.med_shelf.proofs.Names.{left}
use Rattle.med_shelf.proofs.shelves.Shelf.abandon.Goals as goal

pub returns-clause-running : goal.returns-clause-running
returns-clause-running c =
    ap (map (λ n. (c.self.inside.node, n)))
    (filter_same _ (λ m. not (name_eq m c.args.claim.name)) _ (λ x b f' k. search rules) _ _
    c.retain.ensures.filtered)
    ∙ left c.self.inside.node c.args.claim.name c.self.inside.running.items
    ∙ ap (λ (s : ShelfState). without (s.node, c.args.claim.name) (running_of s))
    c.self.view_is
