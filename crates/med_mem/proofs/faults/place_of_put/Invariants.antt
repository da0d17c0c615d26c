use Rattle.std.proofs.Common.{◌≡◌}
use Rattle.med_mem.specs.Faults.{after_put}
use Rattle.med_mem.proofs.FaultLemmas.{after_put_from}
use Rattle.med_mem.proofs.faults.place_of_put.Given as goal

-- none of those so far is a put of the path
abbrev pub invariant-loop-i : goal.invariant-loop-i
invariant-loop-i l = after_put_from l.i l.path l.faults ≡ after_put l.path l.faults
