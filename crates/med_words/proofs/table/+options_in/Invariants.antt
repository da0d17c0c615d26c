use Rattle.std.proofs.Common.{length}
use Rattle.med_words.proofs.table.+options_in.Given as goal

abbrev pub decreases-options_in : goal.decreases-options_in
decreases-options_in l = length l.rows.now
