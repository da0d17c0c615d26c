use Rattle.std.proofs.Common.{◌∙◌, ◌+◌, [], ◌++◌, length, length-append, refl, sym, ap, arith}
use Rattle.med_outside.proofs.Answered.{on_err}
use Rattle.med_outside.proofs.Sending.{all_read, looks_on, still_some, piece_on, nothing_sent, nothing_read, reads_on}
use Rattle.med_outside.specs.Pieces.{with_piece}
use Rattle.med_outside.proofs.send.send_pieces.Goals as goal

pub loop-more-init : goal.loop-more-init
loop-more-init g c = record {
  bytes = [];
  size = refl;
  read = nothing_read (g.P.Snap.state c.args.snap.now).held c.args.key.now c.requires.key;
  looks = nothing_sent (g.S.Storage.state c.args.store.now) (g.S.Storage.stood c.args.store.now);
  same = record { held = refl; of = refl };
  snap_later = omega arith;
  store_later = omega arith;
}

pub send_piece-requires-clause-upload : goal.send_piece-requires-clause-upload
send_piece-requires-clause-upload g c =
    rw c.loop-more.invariant.looks.moves.upload (still_some c.loop-more.invariant.bytes
    (g.S.Storage.state c.args.store.now).upload c.requires.upload)

pub loop-more-preserved : goal.loop-more-preserved
loop-more-preserved g c =
    let inv = c.loop-more.invariant in
    let added = rw inv.same.held at c.in_ok-more.ensures.ok in
    record {
      bytes = inv.bytes ++ added.piece;
      size = added.to_is ∙ ap (λ n. n + length added.piece) inv.size
          ∙ sym (length-append inv.bytes added.piece);
      read = reads_on (g.P.Snap.state c.args.snap.now).held c.args.key.now c.loop-more.more
          c.in_ok-more.more inv.bytes added.piece (inv.bytes ++ added.piece)
          c.loop-more-test.true inv.read (rw inv.size at added.is) refl;
      looks = piece_on (g.S.Storage.state c.args.store.now)
          (g.S.Storage.state c.loop-more.store) (g.S.Storage.state c.send_piece.new.store)
          (g.S.Storage.stood c.args.store.now) (g.S.Storage.stood c.loop-more.store)
          (g.S.Storage.stood c.send_piece.new.store) inv.bytes added.piece inv.looks added.looks;
      same = record {
        held = c.send_piece.ensures.asks.same.held ∙ inv.same.held;
        of = c.send_piece.ensures.asks.same.of ∙ inv.same.of;
      };
      snap_later = omega (arith, inv.snap_later, c.send_piece.ensures.asks.snap_later);
      store_later = omega (arith, inv.store_later, c.send_piece.ensures.asks.store_later);
    }
