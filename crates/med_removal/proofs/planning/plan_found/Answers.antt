use Rattle.std.proofs.Common.{[], IfSome, refl, subst}
use Rattle.med_index.proofs.Walking.{same_content}
use Rattle.med_index.specs.Marks.{IsSetOf}
use Rattle.med_index.specs.Visits.{AreFound}
use Rattle.med_removal.specs.declared.planning.RemovalPlan.{RemovalPlan}
use Rattle.med_removal.specs.Named.{TellsUnreadOutside}
use Rattle.med_removal.specs.Plan.{IsGone}
use Rattle.med_removal.proofs.Plans.{over_told}
use Rattle.med_removal.proofs.planning.plan_found.Goals as goal

pub returns-in-Err-clause-err : goal.returns-in-Err-clause-err
returns-in-Err-clause-err g c =
    let before = c.args.layout.now in
    let f = c.args.node.now in
    subst
    (λ ns. IfSome (g.S.Storage.state c.args.store.now).content
    (λ d. AreFound f c.args.found.now before f d [] → IsSetOf ns c.args.cut.now
    → TellsUnreadOutside before d f ns c.in-Err.error)) c.as_slice-slice.ensures.value
    c.in-Err.ensures.err

pub returns-clause-ok : goal.returns-clause-ok
returns-clause-ok g c =
    let state = g.S.Storage.state in
    let before = c.args.layout.now in
    let f = c.args.node.now in
    let going = c.in-Ok.going in
    let plan : RemovalPlan = record {
      grace_days = c.args.grace_days;
      now = c.args.now;
      mend = c.in-Ok-plan_mend_outside.mend;
      paths = going.paths;
      removed = record { names = c.args.names; files = going.files; bytes = going.bytes };
    } in
    over_told before f c.args.found.now c.args.names.items c.args.cut.now c.args.grace_days
    c.args.now going plan (state c.args.store.now).content
    (state c.plan_paths.new.store).content (same_content _ _ _ _ c.in-Ok.ensures.looks) refl refl
    refl
    (subst
    (λ ns. IfSome (state c.args.store.now).content
    (λ d. AreFound f c.args.found.now before f d [] → IsSetOf ns c.args.cut.now
    → IsGone before d f ns c.args.grace_days c.args.now going)) c.as_slice-slice.ensures.value
    c.in-Ok.ensures.ok) c.in-Ok-plan_mend_outside.ensures.plan
