use Rattle.std.proofs.Common.{ℕ, Bool, List, Result, Ok, Err, IfOk}
use Rattle.med_core.specs.Section.{Claim}
use Rattle.med_outside.specs.declared.mode.Mode.{Mode}
use Rattle.med_outside.specs.declared.trace.Trace.{Trace}
use Rattle.med_outside.specs.State.{State, History}
use Rattle.med_shelf.specs.declared.errors.ClaimError.{ClaimError}
use Rattle.med_shelf.specs.Acts.{ActsAsClaim}
use Rattle.med_shelf.specs.Claims.{AnswersClaim}
use Rattle.med_shelf.specs.Shelf.{ClaimState, IsClaimOf, ShelfState}
use Rattle.med_shelf.proofs.Callers.{new_is_of, others_stay}
use Rattle.med_suite_shelf.proofs.claims.try_claim.Goals as goal

-- a claim that was made is one of the shelf as it is now
made_is_of : (shelf shelf_now : ShelfState) (n : List ℕ) (mode : Mode) (d : Bool)
    (schema ring : List ℕ) (s0 s1 : State) (p0 p1 : History) (t0 t1 : Trace)
    (result : Result ClaimState ClaimError)
    → ActsAsClaim shelf shelf_now (Claim n d schema ring) result s0 s1 p0 p1 t0 t1
    → AnswersClaim shelf n mode result → IfOk result (IsClaimOf shelf_now)
made_is_of shelf shelf_now n mode d schema ring s0 s1 p0 p1 t0 t1 (Ok claim) acts is =
    new_is_of shelf shelf_now n mode acts.layout_is acts.node_is acts.running_is claim is
made_is_of shelf shelf_now n mode d schema ring s0 s1 p0 p1 t0 t1 (Err error) acts is = tt

pub returns-clause-claim : goal.returns-clause-claim
returns-clause-claim g c =
    made_is_of c.args.shelf.now c.claim.new.self c.args.name.now c.args.mode _ _ _ _ _ _ _ _ _
    c.claim.result c.claim.ensures.acts c.claim.ensures.answer

pub returns-clause-others : goal.returns-clause-others
returns-clause-others g c =
    others_stay c.args.shelf.now c.claim.new.self _ _ _ _ _ _ _ _ _ _ c.claim.result
    c.claim.ensures.acts
