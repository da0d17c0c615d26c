use Rattle.med_shelf.proofs.Callers.{stays_of}
use Rattle.med_suite_shelf.proofs.places.place_under.Goals as goal

pub abandon-requires : goal.abandon-requires
abandon-requires g c =
    stays_of _ _ _ _ _ _ _ _ _ _ _ _ _ c.place-answer.ensures.places c.in-Ok.ensures.claim
