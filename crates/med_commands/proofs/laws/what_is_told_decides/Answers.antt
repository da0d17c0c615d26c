use Rattle.med_commands.proofs.DecidedLemmas.{decided}
use Rattle.med_commands.proofs.laws.what_is_told_decides.Goals as goal

pub returns : goal.returns
returns g c = record { exact = decided _ _ }
