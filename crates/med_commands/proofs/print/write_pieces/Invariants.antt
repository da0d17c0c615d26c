use Rattle.std.proofs.Common.{◌≤◌, take, map}
use Rattle.std.specs.List.{concat}
use Rattle.std.specs.Borrow.{Bor}
use Rattle.std.proofs.Common.{List, ℕ}
use Rattle.med_commands.specs.Printed.{Wrote}
use Rattle.med_commands.proofs.print.write_pieces.Given as goal

abbrev pub invariant-loop-piece : goal.invariant-loop-piece
invariant-loop-piece g l = record {
  told : Wrote (concat (map (λ (x : Bor (List ℕ)). x.now) (take l.piece-index l.pieces)))
      (g.O.Sink.state l.fn.out).taken (g.O.Sink.state l.out).taken;
  later : (g.O.Sink.state l.fn.out).faults ≤ (g.O.Sink.state l.out).faults;
}
