use Rattle.med_core.proofs.Joined.{leaves_what_is_after}
use Rattle.med_core.proofs.Removals.{after_one}
use Rattle.med_core.proofs.laws.removal_leaves_after.Goals as goal

pub returns-clause-after : goal.returns-clause-after
returns-clause-after c = leaves_what_is_after

pub returns-clause-one : goal.returns-clause-one
returns-clause-one c = after_one
