use Rattle.std.proofs.Common.{◌≡◌, ◌∙◌, Some, option_map, ap, subst}
use Rattle.med_base.specs.Fingerprint.{fingerprint_of}
use Rattle.med_outside.specs.Pieces.{begun, with_piece}
use Rattle.med_outside.proofs.Answered.{from_ok, from_err, on_err}
use Rattle.med_outside.proofs.Sending.{given_up, is_under_way, uploaded_all}
use Rattle.med_outside.proofs.send.upload_file.Goals as goal

pub send_pieces-requires-clause-upload : goal.send_pieces-requires-clause-upload
send_pieces-requires-clause-upload g c =
    let began = from_ok c.begin.result c.in_ok-map_err.ensures.variant c.begin.ensures.ok in
    is_under_way c.args.path.now (g.S.Storage.state c.begin.new.self).upload began.moves.upload

pub returns-in_err-map_err-clause-err : goal.returns-in_err-map_err-clause-err
returns-in_err-map_err-clause-err g c =
    on_err _ (from_err c.begin.result c.in_err-map_err.ensures.variant c.begin.ensures.err)

pub returns-in_err-send_pieces-clause-err : goal.returns-in_err-send_pieces-clause-err
returns-in_err-send_pieces-clause-err g c =
    let began = from_ok c.begin.result c.in_ok-map_err.ensures.variant c.begin.ensures.ok in
    on_err _ (given_up (g.S.Storage.state c.args.store.now) (g.S.Storage.state c.begin.new.self)
    (g.S.Storage.state c.send_pieces.new.store) (g.S.Storage.stood c.args.store.now)
    (g.S.Storage.stood c.begin.new.self) (g.S.Storage.stood c.send_pieces.new.store)
    (Some (begun c.args.path.now)) c.requires.none began c.in_err-send_pieces.ensures.err)

pub returns-clause-ok : goal.returns-clause-ok
returns-clause-ok g c =
    let began = from_ok c.begin.result c.in_ok-map_err.ensures.variant c.begin.ensures.ok in
    uploaded_all (g.P.Snap.state c.args.snap.now).held c.args.key.now c.args.path.now
    (g.S.Storage.state c.args.store.now) (g.S.Storage.state c.begin.new.self)
    (g.S.Storage.state c.send_pieces.new.store) (g.S.Storage.state c.uploaded.new.self)
    (g.S.Storage.stood c.args.store.now) (g.S.Storage.stood c.begin.new.self)
    (g.S.Storage.stood c.send_pieces.new.store) (g.S.Storage.stood c.uploaded.new.self)
    began c.in_ok-send_pieces.ensures.ok c.in-Some.ensures.looks c.in-Some.fingerprint
    c.in-Some.ensures.answer
