use Rattle.med_suite_shelf.proofs.claims.is_running_then_taken.Goals as goal

pub abandon-requires : goal.abandon-requires
abandon-requires g c = c.try_claim-second.ensures.others c.in-Ok.claim c.in-Ok.ensures.claim
