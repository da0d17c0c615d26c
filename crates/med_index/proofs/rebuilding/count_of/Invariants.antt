use Rattle.std.proofs.Common.{◌≡◌, ◌+◌, ◌≤◌, drop}
use Rattle.med_index.specs.Plans.{count_of}
use Rattle.med_index.proofs.rebuilding.count_of.Given as goal

-- so many were counted so far
abbrev pub invariant-loop-planned : goal.invariant-loop-planned
invariant-loop-planned l =
    (l.count + count_of l.puts (drop l.planned-index l.plan) ≡ count_of l.puts l.plan)
    × (l.count ≤ l.planned-index)
