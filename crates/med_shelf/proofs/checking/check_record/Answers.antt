use Rattle.std.proofs.Common.{◌∙◌, ap}
use Rattle.med_index.specs.Modes.{is_differential}
use Rattle.med_shelf.specs.Places.{stands_as}
use Rattle.med_shelf.proofs.CheckLemmas.{again_checked, none_checked, stays_checked}
use Rattle.med_shelf.proofs.checking.check_record.Goals as goal

pub returns-in-Err-clause-checks : goal.returns-in-Err-clause-checks
returns-in-Err-clause-checks g c =
    none_checked c.args.layout.now c.args.node.now c.args.name.now (is_differential c.args.mode)
    c.args.recorded (g.P.Snap.state c.args.snap.now).held (g.S.Storage.state c.args.store.now)
    (g.S.Storage.state c.stat.new.self) (g.S.Storage.stood c.args.store.now)
    (g.S.Storage.stood c.stat.new.self) c.args.trace.now c.requires.sure c.in-Err.ensures.looks
    c.of_store.result c.requires.key

pub returns-then-stands-clause-checks : goal.returns-then-stands-clause-checks
returns-then-stands-clause-checks g c =
    stays_checked c.args.layout.now c.args.node.now c.args.name.now (is_differential c.args.mode)
    c.args.recorded (g.P.Snap.state c.args.snap.now).held (g.S.Storage.state c.args.store.now)
    (g.S.Storage.state c.stat.new.self) (g.S.Storage.stood c.args.store.now)
    (g.S.Storage.stood c.stat.new.self) c.args.trace.now c.requires.sure c.in-Ok.ensures.looks
    c.in-Ok.found c.in-Ok.ensures.answer c.requires.key c.requires.path
    (c.if-stands.ensures
    ∙ ap (λ o. stands_as o c.args.recorded.file.fingerprint) c.print_of-standing.ensures)

pub returns-clause-checks : goal.returns-clause-checks
returns-clause-checks g c =
    again_checked c.args.layout.now c.args.node.now c.args.name.now (is_differential c.args.mode)
    c.args.recorded (g.P.Snap.state c.args.snap.now).held (g.S.Storage.state c.args.store.now)
    (g.S.Storage.state c.stat.new.self) (g.S.Storage.stood c.args.store.now)
    (g.S.Storage.stood c.stat.new.self) c.args.trace.now c.requires.sure c.in-Ok.ensures.looks
    c.in-Ok.found c.in-Ok.ensures.answer (g.S.Storage.state c.place_file.new.store)
    (g.S.Storage.stood c.place_file.new.store) c.place_file.new.trace
    (c.if-stands.ensures
    ∙ ap (λ o. stands_as o c.args.recorded.file.fingerprint) c.print_of-standing.ensures)
    c.place_file.result c.place_file.ensures.places
