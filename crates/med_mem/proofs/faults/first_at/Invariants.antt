use Rattle.std.proofs.Common.{◌≡◌, drop}
use Rattle.med_mem.specs.Faults.{is_step, first_lands}
use Rattle.med_mem.proofs.faults.first_at.Given as goal

-- none of those so far is the call
abbrev pub invariant-loop-fault : goal.invariant-loop-fault
invariant-loop-fault l =
    first_lands (is_step l.step) (drop l.fault-index l.faults)
    ≡ first_lands (is_step l.step) l.faults
