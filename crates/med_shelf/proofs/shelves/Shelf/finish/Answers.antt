use Rattle.std.proofs.Common.{rules, ◌∙◌, not, map, ap, subst}
use Rattle.std.proofs.lemmas.Fn.{filter_same}
use Rattle.med_base.specs.Key.{IsKey}
use Rattle.med_base.specs.NameOrder.{name_eq}
use Rattle.med_core.specs.declared.records.Record.{Record}
use Rattle.med_core.specs.Run.{without}
use Rattle.med_manifest.specs.Manifest.{IsPathOf}
use Rattle.med_outside.specs.Snapshot.{HasKey, Snapshot}
use Rattle.med_shelf.specs.Finishes.{Finishes}
use Rattle.med_shelf.specs.Shelf.{ClaimState, ShelfState, running_of}
use Rattle.med_shelf.proofs.ClaimSteps.{shelf_of}
use Rattle.med_shelf.proofs.FinishSections.{finishes}
use Rattle.med_shelf.proofs.FinishSteps.{all_moved, once_moved, rising_sorted, sorted_of, told_moved}
use Rattle.med_shelf.proofs.Names.{left}
use Rattle.med_shelf.proofs.shelves.Shelf.finish.Goals as goal

pub finish_sorted-requires-clause-held : goal.finish_sorted-requires-clause-held
finish_sorted-requires-clause-held g c =
    told_moved (λ (s : Snapshot) (r : Record). HasKey r.file.key s)
    (g.P.Snap.state c.args.snap.now).held c.claim.inside.records.items
    c.sort_records.new.records.items c.sort_records.ensures.same
    (rw (← c.claim.view_is) at c.requires.keys)

pub finish_sorted-requires-clause-rising : goal.finish_sorted-requires-clause-rising
finish_sorted-requires-clause-rising g c =
    rising_sorted c.sort_records.new.records.items c.sort_records.ensures.order
    (once_moved c.claim.inside.records.items c.sort_records.new.records.items
    c.sort_records.ensures.same c.claim.invariant.once)

pub finish_sorted-requires-clause-files : goal.finish_sorted-requires-clause-files
finish_sorted-requires-clause-files g c =
    all_moved
    (λ (r : Record). IsKey r.file.key
    × IsPathOf c.claim.inside.layout c.claim.inside.node c.claim.inside.name r.file.key r.file.path)
    c.claim.inside.records.items c.sort_records.new.records.items c.sort_records.ensures.same
    c.claim.invariant.each

pub returns-clause-finishes : goal.returns-clause-finishes
returns-clause-finishes g c =
    let inside = c.claim.inside in
    let shelf = c.self.inside in
    let claim : ClaimState = record {
      layout = inside.layout;
      node = inside.node;
      name = inside.name;
      mode = inside.mode;
      records = inside.records.items;
    } in
    let rs = inside.records.items in
    let sorted = c.sort_records.new.records.items in
    let same = c.sort_records.ensures.same in
    let now : ShelfState = shelf_of shelf.layout shelf.node c.retain.new.self.items in
    subst
    (λ (claim : ClaimState). Finishes c.args.self.now now claim
    (g.P.Snap.state c.args.snap.now).held c.finish_sorted.result
    (g.S.Storage.state c.args.store.now) (g.S.Storage.state c.finish_sorted.new.store)
    (g.S.Storage.stood c.args.store.now) (g.S.Storage.stood c.finish_sorted.new.store)
    c.args.trace.now c.finish_sorted.new.trace) c.claim.view_is
    (finishes c.args.self.now now claim (g.P.Snap.state c.args.snap.now).held
    (g.S.Storage.state c.args.store.now) (g.S.Storage.state c.finish_sorted.new.store)
    (g.S.Storage.stood c.args.store.now) (g.S.Storage.stood c.finish_sorted.new.store)
    c.args.trace.now c.finish_sorted.new.trace c.names_keep_rules.ensures.node
    c.names_keep_rules.ensures.name (rw (← c.claim.view_is) at c.requires.claim) sorted
    (sorted_of inside.layout inside.node inside.name rs sorted same
    c.sort_records.ensures.order c.claim.invariant)
    (all_moved
    (λ (r : Record). IsKey r.file.key
    × IsPathOf inside.layout inside.node inside.name r.file.key r.file.path) rs sorted same
    c.claim.invariant.each)
    (ap (λ (s : ShelfState). s.layout) c.self.view_is)
    (ap (λ (s : ShelfState). s.node) c.self.view_is)
    (ap (map (λ n. (shelf.node, n)))
    (filter_same _ (λ m. not (name_eq m inside.name)) _ (λ x b f' k. search rules) _ _
    c.retain.ensures.filtered)
    ∙ left shelf.node inside.name shelf.running.items
    ∙ ap (λ (s : ShelfState). without (s.node, inside.name) (running_of s)) c.self.view_is)
    c.finish_sorted.result c.finish_sorted.ensures.finishes)
