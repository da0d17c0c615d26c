use Rattle.med_manifest.proofs.IndexJoined.{reaches_exact, others_stay, nothing_left}
use Rattle.med_manifest.proofs.laws.rebuild_makes_exact.Goals as goal

pub returns-clause-reaches : goal.returns-clause-reaches
returns-clause-reaches c = reaches_exact

pub returns-clause-others : goal.returns-clause-others
returns-clause-others c = λ before content f path xs node is.
    others_stay before content f xs node is path

pub returns-clause-nothing : goal.returns-clause-nothing
returns-clause-nothing c = nothing_left
