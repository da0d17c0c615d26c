use Rattle.std.proofs.Common.{take}
use Rattle.med_index.specs.Marks.{IsSetOf}
use Rattle.med_index.proofs.running.set_of.Given as goal

-- the set has the names so far
abbrev pub invariant-loop-name : goal.invariant-loop-name
invariant-loop-name l = IsSetOf (take l.name-index l.names) l.set
