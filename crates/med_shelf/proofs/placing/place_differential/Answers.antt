use Rattle.std.proofs.Common.{◌∙◌, true, ap}
use Rattle.med_base.specs.Classify.{is_data}
use Rattle.med_base.proofs.DataLaw.{builders_of_data}
use Rattle.med_outside.specs.declared.copy_fault.CopyFault.TheVariants.{Memory}
use Rattle.med_outside.proofs.Passing.{moves_at_rest}
use Rattle.med_shelf.specs.declared.sending.Paths.{Paths}
use Rattle.med_shelf.proofs.PlaceLemmas.{differential_placed, none_placed}
use Rattle.med_shelf.proofs.placing.place_differential.Goals as goal

pub returns-in-Err-clause-places : goal.returns-in-Err-clause-places
returns-in-Err-clause-places g c =
    let state = g.S.Storage.state c.args.store.now in
    let stood = g.S.Storage.stood c.args.store.now in
    none_placed c.args.layout.now c.args.node.now c.args.name.now true c.args.key.now
    (g.P.Snap.state c.args.snap.now).held state stood c.args.trace.now Memory c.requires.key
    c.requires.sure (moves_at_rest state stood)

pub place_shared-requires-clause-shared : goal.place_shared-requires-clause-shared
place_shared-requires-clause-shared g c =
    ap (λ layout. is_data layout c.in-Ok.paths.shared) c.requires.ready.layout_is
    ∙ ap (λ (paths : Paths). is_data c.args.layout.now paths.shared) c.in-Ok.ensures
    ∙ builders_of_data.shared c.args.layout.now c.args.node.now c.args.key.now
    c.are_names.ensures.node c.are_names.ensures.key

pub place_shared-requires-clause-own : goal.place_shared-requires-clause-own
place_shared-requires-clause-own g c =
    ap (λ layout. is_data layout c.in-Ok.paths.own) c.requires.ready.layout_is
    ∙ ap (λ (paths : Paths). is_data c.args.layout.now paths.own) c.in-Ok.ensures
    ∙ builders_of_data.own c.args.layout.now c.args.node.now c.args.name.now c.args.key.now
    c.are_names.ensures.node c.are_names.ensures.name c.are_names.ensures.key

pub returns-in-Ok-place_shared-clause-places : goal.returns-in-Ok-place_shared-clause-places
returns-in-Ok-place_shared-clause-places g c =
    differential_placed c.args.layout.now c.args.node.now c.args.name.now c.args.key.now
    (g.P.Snap.state c.args.snap.now).held (g.S.Storage.state c.args.store.now)
    (g.S.Storage.state c.place_shared.new.store) (g.S.Storage.stood c.args.store.now)
    (g.S.Storage.stood c.place_shared.new.store) c.args.trace.now c.place_shared.new.trace
    c.in-Ok.paths c.in-Ok.ensures c.in-Ok-place_shared.placed c.record_of.result
    c.record_of.ensures c.in-Ok-place_shared.ensures.sends
