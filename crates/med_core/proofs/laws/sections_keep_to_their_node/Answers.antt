use Rattle.med_core.proofs.Joined.{lists_within, own_part_goes_on, other_parts_stay}
use Rattle.med_core.proofs.laws.sections_keep_to_their_node.Goals as goal

pub returns-clause-within : goal.returns-clause-within
returns-clause-within c = lists_within

pub returns-clause-own : goal.returns-clause-own
returns-clause-own c = own_part_goes_on

pub returns-clause-others : goal.returns-clause-others
returns-clause-others c = other_parts_stay
