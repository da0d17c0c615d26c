use Rattle.med_shelf.proofs.ClaimSteps.{no_records}
use Rattle.med_shelf.proofs.claiming.new_claim.Goals as goal

pub invariant_of-result : goal.invariant_of-result
invariant_of-result c =
    rw c.new.ensures.items
    (no_records c.in_ok-layout.layout c.in_ok-node.node c.in_ok-name.name)
