use Rattle.med_core.proofs.Refusals.{no_list}
use Rattle.med_core.proofs.laws.refused_calls_have_no_list.Goals as goal

pub returns : goal.returns
returns c = no_list
