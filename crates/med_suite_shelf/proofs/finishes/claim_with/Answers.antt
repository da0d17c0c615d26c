use Rattle.med_shelf.proofs.Callers.{stays_of}
use Rattle.med_suite_shelf.proofs.finishes.claim_with.Goals as goal

pub returns-in-Ok-place-clause-claim : goal.returns-in-Ok-place-clause-claim
returns-in-Ok-place-clause-claim g c =
    stays_of _ _ _ _ _ _ _ _ _ _ _ _ _ c.in-Ok-place.ensures.places c.in-Ok.ensures.claim
