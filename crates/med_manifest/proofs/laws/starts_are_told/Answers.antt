use Rattle.med_manifest.proofs.Starts.{start_is_told, absence_is_told}
use Rattle.med_manifest.proofs.laws.starts_are_told.Goals as goal

pub returns-clause-told : goal.returns-clause-told
returns-clause-told c = start_is_told

pub returns-clause-none : goal.returns-clause-none
returns-clause-none c = absence_is_told
