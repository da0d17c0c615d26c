use Rattle.std.proofs.Common.{◌≡◌, ◌||◌, drop}
use Rattle.med_mem.specs.declared.faults.MemWhen.{MemWhen}
use Rattle.med_mem.specs.Faults.{is_step, is_put, first_lands}
use Rattle.med_mem.proofs.faults.first_put.Given as goal

-- none of those so far is the put
abbrev pub invariant-loop-fault : goal.invariant-loop-fault
invariant-loop-fault l =
    first_lands (λ (when : MemWhen). is_step l.step when || is_put l.path when)
    (drop l.fault-index l.faults)
    ≡ first_lands (λ (when : MemWhen). is_step l.step when || is_put l.path when) l.faults
