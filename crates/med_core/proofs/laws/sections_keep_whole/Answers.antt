use Rattle.med_core.proofs.Joined.{section_moments, section_ends_safe}
use Rattle.med_core.proofs.laws.sections_keep_whole.Goals as goal

pub returns-clause-moments : goal.returns-clause-moments
returns-clause-moments c = section_moments

pub returns-clause-end : goal.returns-clause-end
returns-clause-end c = section_ends_safe
