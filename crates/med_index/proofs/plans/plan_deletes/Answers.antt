use Rattle.med_index.proofs.RebuildLemmas.{deletes_push}
use Rattle.med_index.proofs.plans.plan_deletes.Goals as goal

pub loop-path-preserved : goal.loop-path-preserved
loop-path-preserved c =
    deletes_push c.args.given.now c.args.plan.now.items c.loop-path.plan.items
    c.plan_delete.new.plan.items c.loop-path.yielded c.in-Some.path c.in-Some.field-0-1
    c.loop-path.invariant c.in_ok-plan_delete.ensures
