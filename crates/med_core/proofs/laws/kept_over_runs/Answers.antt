use Rattle.med_core.proofs.Joined.{kept_through}
use Rattle.med_core.proofs.laws.kept_over_runs.Goals as goal

pub returns : goal.returns
returns c = kept_through
