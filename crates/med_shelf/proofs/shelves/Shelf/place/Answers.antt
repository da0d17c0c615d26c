use Rattle.std.proofs.Common.{◌≡◌, ◌∙◌, List, [], ◌∷◌, ◌++◌, ap}
use Rattle.med_core.specs.declared.records.Record.{Record}
use Rattle.med_index.specs.Modes.{is_differential}
use Rattle.med_outside.specs.declared.copy_fault.CopyFault.TheVariants.{Memory}
use Rattle.med_outside.proofs.Passing.{moves_at_rest}
use Rattle.med_shelf.specs.Shelf.{ClaimState}
use Rattle.med_shelf.proofs.Acting.{placed_not, placed_recorded, records_on}
use Rattle.med_shelf.proofs.PlaceLemmas.{none_placed}
use Rattle.med_shelf.proofs.shelves.Shelf.place.Goals as goal

pub returns-in-Err-clause-places : goal.returns-in-Err-clause-places
returns-in-Err-clause-places g c =
    let state = g.S.Storage.state c.args.store.now in
    let stood = g.S.Storage.stood c.args.store.now in
    let inside = c.claim.inside in
    let held = (g.P.Snap.state c.args.snap.now).held in
    let claim : ClaimState = record {
      layout = inside.layout;
      node = inside.node;
      name = inside.name;
      mode = inside.mode;
      records = inside.records.items;
    } in
    rw (← c.claim.view_is)
    (placed_not c.args.self.now claim c.args.key.now held state state stood stood c.args.trace.now
    c.args.trace.now c.are_names.ensures.node c.are_names.ensures.name c.are_names.ensures.key
    (rw (← c.claim.view_is) at c.requires.claim) Memory _
    (λ i. record {
      layout = inside.layout;
      node = inside.node;
      name = inside.name;
      mode = inside.mode;
      records = c.reserve.ensures.items i;
    })
    (none_placed inside.layout inside.node inside.name (is_differential inside.mode) c.args.key.now
    held state stood c.args.trace.now Memory c.requires.key.has c.requires.may.sure
    (moves_at_rest state stood)))

pub invariant_of-claim-in-Ok-place_file : goal.invariant_of-claim-in-Ok-place_file
invariant_of-claim-in-Ok-place_file g c =
    let inside = c.claim.inside in
    let placed = c.in-Ok-place_file.ensures.places.record_is in
    records_on inside.layout inside.node inside.name inside.records.items
    c.add_record.new.records.items c.in-Ok-place_file.record c.args.key.now c.claim.invariant
    (rw (← c.claim.view_is) at c.requires.key).fresh placed.key_is c.are_names.ensures.key
    placed.path_is
    (c.add_record.ensures
    ∙ ap (λ (l : List Record). l ++ c.in-Ok-place_file.record ∷ []) c.reserve.ensures.items)

pub returns-in-Ok-place_file-clause-places : goal.returns-in-Ok-place_file-clause-places
returns-in-Ok-place_file-clause-places g c =
    let inside = c.claim.inside in
    let claim : ClaimState = record {
      layout = inside.layout;
      node = inside.node;
      name = inside.name;
      mode = inside.mode;
      records = inside.records.items;
    } in
    let more : c.add_record.new.records.items
    ≡ inside.records.items ++ c.in-Ok-place_file.record ∷ [] =
    c.add_record.ensures
    ∙ ap (λ (l : List Record). l ++ c.in-Ok-place_file.record ∷ []) c.reserve.ensures.items in
    rw (← c.claim.view_is)
    (placed_recorded c.args.self.now claim c.args.key.now (g.P.Snap.state c.args.snap.now).held
    (g.S.Storage.state c.args.store.now) (g.S.Storage.state c.place_file.new.store)
    (g.S.Storage.stood c.args.store.now) (g.S.Storage.stood c.place_file.new.store)
    c.args.trace.now c.place_file.new.trace c.are_names.ensures.node c.are_names.ensures.name
    c.are_names.ensures.key (rw (← c.claim.view_is) at c.requires.claim) c.in-Ok-place_file.record _
    (λ i. record {
      layout = inside.layout;
      node = inside.node;
      name = inside.name;
      mode = inside.mode;
      records = more i;
    }) c.in-Ok-place_file.ensures.places)

pub returns-in-Err-place_file-clause-places : goal.returns-in-Err-place_file-clause-places
returns-in-Err-place_file-clause-places g c =
    let inside = c.claim.inside in
    let claim : ClaimState = record {
      layout = inside.layout;
      node = inside.node;
      name = inside.name;
      mode = inside.mode;
      records = inside.records.items;
    } in
    rw (← c.claim.view_is)
    (placed_not c.args.self.now claim c.args.key.now (g.P.Snap.state c.args.snap.now).held
    (g.S.Storage.state c.args.store.now) (g.S.Storage.state c.place_file.new.store)
    (g.S.Storage.stood c.args.store.now) (g.S.Storage.stood c.place_file.new.store)
    c.args.trace.now c.place_file.new.trace c.are_names.ensures.node c.are_names.ensures.name
    c.are_names.ensures.key (rw (← c.claim.view_is) at c.requires.claim) c.in-Err-place_file.fault _
    (λ i. record {
      layout = inside.layout;
      node = inside.node;
      name = inside.name;
      mode = inside.mode;
      records = c.reserve.ensures.items i;
    }) c.in-Err-place_file.ensures.places)
