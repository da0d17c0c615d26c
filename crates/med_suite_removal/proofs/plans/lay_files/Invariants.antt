use Rattle.std.proofs.Common.{[]}
use Rattle.med_outside.specs.State.{IsReady}
use Rattle.med_suite_removal.proofs.plans.lay_files.Given as goal

-- the storage is at rest between two puts
abbrev pub invariant-loop-number : goal.invariant-loop-number
invariant-loop-number g l = IsReady [] (g.S.Storage.state l.store)
