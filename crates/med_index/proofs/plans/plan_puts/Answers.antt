use Rattle.med_index.proofs.RebuildLemmas.{puts_push}
use Rattle.med_index.proofs.plans.plan_puts.Goals as goal

pub loop-path-preserved : goal.loop-path-preserved
loop-path-preserved c =
    puts_push c.args.plan.now.items c.loop-path.plan.items c.plan_put.new.plan.items
    c.loop-path.yielded c.in-Some.path c.in-Some.bytes c.loop-path.invariant
    c.in_ok-plan_put.ensures
