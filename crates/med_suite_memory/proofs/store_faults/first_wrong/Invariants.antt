use Rattle.std.proofs.Common.{[]}
use Rattle.med_outside.specs.State.{IsReady}
use Rattle.med_mem.specs.Told.{state_of}
use Rattle.med_suite_memory.proofs.store_faults.first_wrong.Given as goal

abbrev pub invariant-loop-row : goal.invariant-loop-row
invariant-loop-row l =
    (goal.iterator-loop-row).can_next l.row-iterator
    × (goal.iterator-loop-row).is_finite l.row-iterator
    × IsReady [] (state_of l.store)
