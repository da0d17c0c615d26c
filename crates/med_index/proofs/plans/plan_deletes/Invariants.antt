use Rattle.std.proofs.Common.{◌≡◌, ◌++◌}
use Rattle.std.specs.Map.{keys_of}
use Rattle.med_index.specs.Plans.{deletes_of}
use Rattle.med_index.proofs.plans.plan_deletes.Given as goal

-- what is planned of the entries so far
abbrev pub invariant-loop-path : goal.invariant-loop-path
invariant-loop-path l = l.plan.items ≡ l.fn.plan.items ++ deletes_of l.given (keys_of l.yielded)
