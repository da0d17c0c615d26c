use Rattle.std.proofs.Common.{◌≡◌, ◌≤◌, ◌-◌, ◌^◌, ℕ, List, length, if◌then◌else◌}
use Rattle.med_outside.specs.Pieces.{with_piece, with_upload}
use Rattle.med_outside.specs.Snapshot.{StaysOpen}
use Rattle.med_outside.specs.State.{OnlyReads}
use Rattle.med_outside.proofs.Sending.{IsReadOf}
use Rattle.med_outside.proofs.send.send_pieces.Given as goal

-- the upload has what was sent, which is what was read of the file
abbrev pub invariant-loop-more : goal.invariant-loop-more
invariant-loop-more g l = record {
  bytes : List ℕ;
  size : l.sent ≡ length bytes;
  read : IsReadOf (g.P.Snap.state l.fn.snap).held l.key l.more bytes;
  looks : OnlyReads
      (with_upload (with_piece bytes (g.S.Storage.state l.fn.store).upload)
      (g.S.Storage.state l.fn.store))
      (g.S.Storage.state l.store) (g.S.Storage.stood l.fn.store) (g.S.Storage.stood l.store);
  same : StaysOpen (g.P.Snap.state l.fn.snap) (g.P.Snap.state l.snap);
  snap_later : (g.P.Snap.state l.fn.snap).faults ≤ (g.P.Snap.state l.snap).faults;
  store_later : (g.S.Storage.state l.fn.store).faults ≤ (g.S.Storage.state l.store).faults;
}

-- the bytes that may still come, where there may be any
abbrev pub decreases-loop-more : goal.decreases-loop-more
decreases-loop-more g l = if l.more then 2 ^ 64 - l.sent else 0
