use Rattle.std.proofs.Common.{◌≡◌, ◌≤◌, ◌++◌}
use Rattle.std.specs.Vec.Iter.{into_iter_items}
use Rattle.med_index.specs.Modes.{is_differential}
use Rattle.med_outside.specs.Snapshot.{StaysOpen}
use Rattle.med_shelf.proofs.CheckedSoFar.{SoFar}
use Rattle.med_shelf.proofs.checking.check_records.Given as goal

-- the records so far were looked at, and these are left
abbrev pub invariant-loop-recorded : goal.invariant-loop-recorded
invariant-loop-recorded g l = record {
  left : l.fn.records.items ≡ l.yielded ++ into_iter_items l.recorded-iterator;
  so : SoFar l.layout l.node l.name (is_differential l.mode) l.fn.records.items l.yielded
      l.kept.items (g.P.Snap.state l.fn.snap).held (Unit {0}) ⊥ (g.S.Storage.state l.fn.store)
      (g.S.Storage.state l.store) (g.S.Storage.stood l.fn.store) (g.S.Storage.stood l.store)
      l.fn.trace l.trace;
  same : StaysOpen (g.P.Snap.state l.fn.snap) (g.P.Snap.state l.snap);
  snap_later : (g.P.Snap.state l.fn.snap).faults ≤ (g.P.Snap.state l.snap).faults;
  store_later : (g.S.Storage.state l.fn.store).faults ≤ (g.S.Storage.state l.store).faults;
}
