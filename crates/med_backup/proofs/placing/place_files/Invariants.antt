use Rattle.std.proofs.Common.{◌≡◌, ◌≤◌, ◌++◌}
use Rattle.std.specs.Vec.Iter.{into_iter_items}
use Rattle.med_outside.specs.Snapshot.{StaysOpen}
use Rattle.med_backup.specs.Placing.{PlacedAll}
use Rattle.med_backup.proofs.placing.place_files.Given as goal

-- the files of the keys so far were placed, and these are left
abbrev pub invariant-loop-key : goal.invariant-loop-key
invariant-loop-key g l = record {
  left : l.fn.keys.items ≡ l.yielded ++ into_iter_items l.key-iterator;
  so : PlacedAll l.fn.shelf l.shelf l.fn.claim l.claim l.yielded (g.P.Snap.state l.fn.snap).held
      (g.S.Storage.state l.fn.store) (g.S.Storage.state l.store) (g.S.Storage.stood l.fn.store)
      (g.S.Storage.stood l.store) l.fn.trace l.trace;
  same : StaysOpen (g.P.Snap.state l.fn.snap) (g.P.Snap.state l.snap);
  snap_later : (g.P.Snap.state l.fn.snap).faults ≤ (g.P.Snap.state l.snap).faults;
  store_later : (g.S.Storage.state l.fn.store).faults ≤ (g.S.Storage.state l.store).faults;
}
