use Rattle.std.proofs.Common.{arith, length-drop}
use Rattle.std.proofs.Math.Seq.{take-add}
use Rattle.med_commands.proofs.Printing.{wrote_on, tail_from}
use Rattle.med_commands.proofs.print.write_whole.Goals as goal

pub loop-done-preserved : goal.loop-done-preserved
loop-done-preserved g c =
    let bytes = c.args.bytes.now in
    let bound = rw tail_from at c.in_ok-n.ensures.bound in
    let told = rw tail_from at c.in_ok-n.ensures.ok in
    record {
      bound = omega (arith, length-drop c.loop-done.done bytes);
      told = rw (take-add c.loop-done.done c.in_ok-n.n bytes)
          (wrote_on _ _ _ _ _ c.loop-done.invariant.told told);
      later = omega arith;
    }
