use Rattle.med_core.proofs.Joined.{exact_stays, part_is_as_exact}
use Rattle.med_core.proofs.laws.index_stays_exact.Goals as goal

pub returns-clause-stays : goal.returns-clause-stays
returns-clause-stays c = exact_stays

pub returns-clause-part : goal.returns-clause-part
returns-clause-part c = part_is_as_exact
