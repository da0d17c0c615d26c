use Rattle.std.proofs.Common.{sym}
use Rattle.med_shelf.proofs.SendLemmas.{not_sent, put_denied, sent_kept, sent_put}
use Rattle.med_shelf.proofs.sending.send_file.Goals as goal

pub returns-in-Err-clause-sends : goal.returns-in-Err-clause-sends
returns-in-Err-clause-sends g c =
    not_sent c.args.standing c.args.path.now c.args.key.now (g.P.Snap.state c.args.snap.now).held
    (g.S.Storage.state c.args.store.now) (g.S.Storage.state c.upload_file.new.store)
    (g.S.Storage.stood c.args.store.now) (g.S.Storage.stood c.upload_file.new.store)
    c.args.trace.now c.requires.sure c.in-Err.ensures.err.moves c.in-Err.fault c.requires.key

pub returns-then-stands-clause-sends : goal.returns-then-stands-clause-sends
returns-then-stands-clause-sends g c =
    sent_kept c.args.standing c.args.path.now c.args.key.now (g.P.Snap.state c.args.snap.now).held
    (g.S.Storage.state c.args.store.now) (g.S.Storage.state c.upload_file.new.store)
    (g.S.Storage.state c.drop_upload.new.self) (g.S.Storage.stood c.args.store.now)
    (g.S.Storage.stood c.upload_file.new.store) (g.S.Storage.stood c.drop_upload.new.self)
    c.args.trace.now c.args.trace.now c.in-Ok.fingerprint c.requires.rest.upload c.in-Ok.ensures.ok
    c.requires.sure (sym c.if-stands.ensures) c.drop_upload.ensures.looks

pub returns-in-Ok-commit_recorded-clause-sends : goal.returns-in-Ok-commit_recorded-clause-sends
returns-in-Ok-commit_recorded-clause-sends g c =
    sent_put c.args.standing c.args.path.now c.args.key.now (g.P.Snap.state c.args.snap.now).held
    (g.S.Storage.state c.args.store.now) (g.S.Storage.state c.upload_file.new.store)
    (g.S.Storage.state c.commit_recorded.new.store) (g.S.Storage.stood c.args.store.now)
    (g.S.Storage.stood c.upload_file.new.store) (g.S.Storage.stood c.commit_recorded.new.store)
    c.args.trace.now c.commit_recorded.new.trace c.in-Ok.fingerprint c.requires.rest.upload
    c.in-Ok.ensures.ok (sym c.if-stands.ensures) c.in-Ok-commit_recorded.field-0
    c.how_stored-how.result c.how_stored-how.ensures c.in-Ok-commit_recorded.ensures.makes

pub returns-in-Err-commit_recorded-clause-sends : goal.returns-in-Err-commit_recorded-clause-sends
returns-in-Err-commit_recorded-clause-sends g c =
    put_denied c.args.standing c.args.path.now c.args.key.now (g.P.Snap.state c.args.snap.now).held
    (g.S.Storage.state c.args.store.now) (g.S.Storage.state c.upload_file.new.store)
    (g.S.Storage.state c.commit_recorded.new.store) (g.S.Storage.stood c.args.store.now)
    (g.S.Storage.stood c.upload_file.new.store) (g.S.Storage.stood c.commit_recorded.new.store)
    c.args.trace.now c.commit_recorded.new.trace c.in-Ok.fingerprint c.requires.rest.upload
    c.in-Ok.ensures.ok (sym c.if-stands.ensures) c.in-Err-commit_recorded.denied
    c.of_store.result c.of_store.ensures
    c.in-Err-commit_recorded.ensures.makes
