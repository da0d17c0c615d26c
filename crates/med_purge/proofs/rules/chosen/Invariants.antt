use Rattle.med_purge.proofs.Choosing.{IsSoFar}
use Rattle.med_purge.proofs.rules.chosen.Given as goal

-- so far the finished rows were counted, and the names of those that go were chosen
abbrev pub invariant-loop-row : goal.invariant-loop-row
invariant-loop-row l =
    IsSoFar l.sorted l.now l.age_days l.count l.row-index l.finished l.names
