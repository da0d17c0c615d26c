use Rattle.std.proofs.Common.{◌∙◌, false, ap}
use Rattle.med_base.specs.Classify.{is_data}
use Rattle.med_base.proofs.DataLaw.{builders_of_data}
use Rattle.med_outside.specs.declared.copy_fault.CopyFault.TheVariants.{Memory}
use Rattle.med_outside.proofs.Passing.{moves_at_rest}
use Rattle.med_shelf.proofs.PlaceLemmas.{none_placed}
use Rattle.med_shelf.proofs.placing.place_full.Goals as goal

pub returns-in-Err-clause-places : goal.returns-in-Err-clause-places
returns-in-Err-clause-places g c =
    let state = g.S.Storage.state c.args.store.now in
    let stood = g.S.Storage.stood c.args.store.now in
    none_placed c.args.layout.now c.args.node.now c.args.name.now false c.args.key.now
    (g.P.Snap.state c.args.snap.now).held state stood c.args.trace.now Memory c.requires.key
    c.requires.sure (moves_at_rest state stood)

pub returns-in-Err-copy-clause-places : goal.returns-in-Err-copy-clause-places
returns-in-Err-copy-clause-places g c =
    let state = g.S.Storage.state c.args.store.now in
    let stood = g.S.Storage.stood c.args.store.now in
    none_placed c.args.layout.now c.args.node.now c.args.name.now false c.args.key.now
    (g.P.Snap.state c.args.snap.now).held state stood c.args.trace.now Memory c.requires.key
    c.requires.sure (moves_at_rest state stood)

pub send_file-requires-clause-data : goal.send_file-requires-clause-data
send_file-requires-clause-data g c =
    ap (λ layout. is_data layout c.in-Ok.path) c.requires.ready.layout_is
    ∙ ap (is_data c.args.layout.now) c.in-Ok.ensures
    ∙ builders_of_data.own c.args.layout.now c.args.node.now c.args.name.now c.args.key.now
    c.are_names.ensures.node c.are_names.ensures.name c.are_names.ensures.key
