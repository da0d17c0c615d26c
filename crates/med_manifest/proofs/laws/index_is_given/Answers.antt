use Rattle.med_manifest.proofs.Givens.{given_entries, entries_given, given_one}
use Rattle.med_manifest.proofs.IndexJoined.{exact_is_sound}
use Rattle.med_manifest.proofs.laws.index_is_given.Goals as goal

pub returns-clause-given : goal.returns-clause-given
returns-clause-given c = λ before content f.
    (given_entries before f content, entries_given before f content)

pub returns-clause-one : goal.returns-clause-one
returns-clause-one c = given_one

pub returns-clause-sound : goal.returns-clause-sound
returns-clause-sound c = exact_is_sound
