use Rattle.std.proofs.Common.{length}
use Rattle.med_words.proofs.well_formed.+are_well_formed.Given as goal

abbrev pub decreases-are_well_formed : goal.decreases-are_well_formed
decreases-are_well_formed l = length l.words.now
