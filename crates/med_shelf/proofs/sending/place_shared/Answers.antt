use Rattle.std.proofs.Common.{None, Some}
use Rattle.med_shelf.proofs.SendLemmas.{not_beside, sent_beside}
use Rattle.med_shelf.proofs.sending.place_shared.Goals as goal

pub returns-in-Ok-None-clause-sends : goal.returns-in-Ok-None-clause-sends
returns-in-Ok-None-clause-sends g c =
    sent_beside c.args.paths.now.shared c.args.paths.now.own c.args.key.now
    (g.P.Snap.state c.args.snap.now).held (g.S.Storage.state c.args.store.now)
    (g.S.Storage.state c.stat.new.self) (g.S.Storage.stood c.args.store.now)
    (g.S.Storage.stood c.stat.new.self) c.args.trace.now c.requires.sure
    (g.S.Storage.state c.send_file.new.store) (g.S.Storage.stood c.send_file.new.store)
    c.send_file.new.trace c.in-Ok-None.ensures.looks None
    (rw c.in-Ok-None.field-0-is at c.in-Ok-None.ensures.answer)
    c.send_file.result c.send_file.ensures.sends

pub returns-in-Ok-Some-clause-sends : goal.returns-in-Ok-Some-clause-sends
returns-in-Ok-Some-clause-sends g c =
    sent_beside c.args.paths.now.shared c.args.paths.now.own c.args.key.now
    (g.P.Snap.state c.args.snap.now).held (g.S.Storage.state c.args.store.now)
    (g.S.Storage.state c.stat.new.self) (g.S.Storage.stood c.args.store.now)
    (g.S.Storage.stood c.stat.new.self) c.args.trace.now c.requires.sure
    (g.S.Storage.state c.place_beside.new.store) (g.S.Storage.stood c.place_beside.new.store)
    c.place_beside.new.trace c.in-Ok-Some.ensures.looks (Some c.in-Ok-Some.stat)
    (rw c.in-Ok-Some.field-0-is at c.in-Ok-Some.ensures.answer) c.place_beside.result c.place_beside.ensures.sends

pub returns-in-Err-clause-sends : goal.returns-in-Err-clause-sends
returns-in-Err-clause-sends g c =
    not_beside c.args.paths.now.shared c.args.paths.now.own c.args.key.now
    (g.P.Snap.state c.args.snap.now).held (g.S.Storage.state c.args.store.now)
    (g.S.Storage.state c.stat.new.self) (g.S.Storage.stood c.args.store.now)
    (g.S.Storage.stood c.stat.new.self) c.args.trace.now c.requires.sure c.of_store.result
    c.requires.key c.in-Err.ensures.looks.moves
