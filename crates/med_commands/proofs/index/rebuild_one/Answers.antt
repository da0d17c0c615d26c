use Rattle.med_commands.proofs.IndexSteps.{one_refused}
use Rattle.med_commands.proofs.index.rebuild_one.Goals as goal

pub returns-in-Err-clause-err : goal.returns-in-Err-clause-err
returns-in-Err-clause-err g c =
    let (xs, is, makes) = c.in-Err.ensures.makes in
    rw (c.fault_of_rebuild.ensures)
    (one_refused c.args.layout.now c.args.node.now c.in-Err.error xs
    (g.S.Storage.state c.args.store.now) (g.S.Storage.state c.rebuild.new.store)
    (g.S.Storage.stood c.args.store.now) (g.S.Storage.stood c.rebuild.new.store) c.args.trace.now
    c.rebuild.new.trace is makes c.in-Err.ensures.cause.failed)
