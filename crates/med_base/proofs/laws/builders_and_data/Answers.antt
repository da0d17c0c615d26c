use Rattle.med_base.proofs.DataLaw.{data_is_told, builders_of_data}
use Rattle.med_base.proofs.laws.builders_and_data.Goals as goal

pub returns-clause-told : goal.returns-clause-told
returns-clause-told c = data_is_told

pub returns-clause-built : goal.returns-clause-built
returns-clause-built c = builders_of_data
