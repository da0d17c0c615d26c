use Rattle.std.proofs.Common.{◌≤◌, ◌-◌, length, take}
use Rattle.med_commands.specs.Printed.{Wrote}
use Rattle.med_commands.proofs.print.write_whole.Given as goal

abbrev pub invariant-loop-done : goal.invariant-loop-done
invariant-loop-done g l = record {
  bound : l.done ≤ length l.bytes;
  told : Wrote (take l.done l.bytes) (g.O.Sink.state l.fn.out).taken (g.O.Sink.state l.out).taken;
  later : (g.O.Sink.state l.fn.out).faults ≤ (g.O.Sink.state l.out).faults;
}

abbrev pub decreases-loop-done : goal.decreases-loop-done
decreases-loop-done g l = length l.initial.bytes - l.done
