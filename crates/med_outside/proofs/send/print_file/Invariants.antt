use Rattle.std.proofs.Common.{◌≤◌, ◌-◌, ◌^◌, length, if◌then◌else◌}
use Rattle.med_outside.specs.Snapshot.{StaysOpen}
use Rattle.med_outside.proofs.Sending.{IsReadOf}
use Rattle.med_outside.proofs.send.print_file.Given as goal

-- the flow has what was read of the file
abbrev pub invariant-loop-more : goal.invariant-loop-more
invariant-loop-more g l = record {
  read : IsReadOf (g.P.Snap.state l.fn.snap).held l.key l.more l.flow;
  same : StaysOpen (g.P.Snap.state l.fn.snap) (g.P.Snap.state l.snap);
  later : (g.P.Snap.state l.fn.snap).faults ≤ (g.P.Snap.state l.snap).faults;
}

-- the bytes that may still come, where there may be any
abbrev pub decreases-loop-more : goal.decreases-loop-more
decreases-loop-more g l = if l.more then 2 ^ 64 - length l.flow else 0
