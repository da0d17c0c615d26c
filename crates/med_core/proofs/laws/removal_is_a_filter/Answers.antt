use Rattle.med_core.proofs.Joined.{leaves_by_filter}
use Rattle.med_core.proofs.laws.removal_is_a_filter.Goals as goal

pub returns : goal.returns
returns c = leaves_by_filter
