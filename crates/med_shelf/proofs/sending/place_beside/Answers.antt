use Rattle.std.proofs.Common.{Some, sym}
use Rattle.med_outside.proofs.Passing.{moves_at_rest}
use Rattle.med_shelf.proofs.SendLemmas.{named_only, not_sent}
use Rattle.med_shelf.proofs.sending.place_beside.Goals as goal

pub returns-in-Err-clause-sends : goal.returns-in-Err-clause-sends
returns-in-Err-clause-sends g c =
    let state = g.S.Storage.state c.args.store.now in
    let stood = g.S.Storage.stood c.args.store.now in
    not_sent (Some c.args.standing) c.args.own.now c.args.key.now
    (g.P.Snap.state c.args.snap.now).held state state stood stood c.args.trace.now c.requires.sure
    (moves_at_rest state stood) c.of_snap.result c.requires.key

pub returns-then-stands-clause-sends : goal.returns-then-stands-clause-sends
returns-then-stands-clause-sends g c =
    let state = g.S.Storage.state c.args.store.now in
    let stood = g.S.Storage.stood c.args.store.now in
    let print = c.in-Ok.ensures.ok in
    named_only (Some c.args.standing) c.args.own.now c.args.key.now
    (g.P.Snap.state c.args.snap.now).held state state stood stood c.args.trace.now c.requires.sure
    (moves_at_rest state stood) print.bytes c.in-Ok.fingerprint print.file_is print.print_is
    (sym c.if-stands.ensures)
