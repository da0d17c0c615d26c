use Rattle.med_core.proofs.Joined.{files_counted, bytes_counted}
use Rattle.med_core.proofs.laws.removal_counts_what_goes.Goals as goal

pub returns-clause-files : goal.returns-clause-files
returns-clause-files c = files_counted

pub returns-clause-bytes : goal.returns-clause-bytes
returns-clause-bytes c = bytes_counted
