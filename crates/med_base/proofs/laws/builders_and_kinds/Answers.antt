use Rattle.med_base.proofs.KindsMade.{built_is_told}
use Rattle.med_base.proofs.KindsLaw.{kinds_are_told, paths_are_apart}
use Rattle.med_base.proofs.Owners.{owners_are_told}
use Rattle.med_base.proofs.laws.builders_and_kinds.Goals as goal

pub returns-clause-told : goal.returns-clause-told
returns-clause-told c = kinds_are_told

pub returns-clause-built : goal.returns-clause-built
returns-clause-built c = built_is_told

pub returns-clause-apart : goal.returns-clause-apart
returns-clause-apart c = paths_are_apart

pub returns-clause-owners : goal.returns-clause-owners
returns-clause-owners c = owners_are_told
