use Rattle.med_core.proofs.OverParts.{section_in_part}
use Rattle.med_core.proofs.laws.sections_see_their_part.Goals as goal

pub returns : goal.returns
returns c = section_in_part
