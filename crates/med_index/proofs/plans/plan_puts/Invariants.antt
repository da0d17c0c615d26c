use Rattle.std.proofs.Common.{◌≡◌, ◌++◌}
use Rattle.med_index.specs.Plans.{puts_of}
use Rattle.med_index.proofs.plans.plan_puts.Given as goal

-- what is planned of the entries so far
abbrev pub invariant-loop-path : goal.invariant-loop-path
invariant-loop-path l = l.plan.items ≡ l.fn.plan.items ++ puts_of l.yielded
