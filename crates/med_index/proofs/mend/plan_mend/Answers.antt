use Rattle.med_index.proofs.MendLemmas.{all_planned}
use Rattle.med_index.proofs.mend.plan_mend.Goals as goal

pub returns-clause-plan : goal.returns-clause-plan
returns-clause-plan g c =
    all_planned c.args.layout.now c.args.node.now (λ plan. plan.items)
    (g.S.Storage.state c.args.store.now).content c.args.node.now c.args.found.now c.no_names-none.result
    c.plan_mend_outside.result c.no_names-none.ensures c.plan_mend_outside.ensures.plan
