use Rattle.med_index.proofs.MendLemmas.{none_planned, some_planned}
use Rattle.med_index.proofs.mend.plan_mend_outside.Goals as goal

pub returns-in-None-clause-plan : goal.returns-in-None-clause-plan
returns-in-None-clause-plan g c =
    none_planned c.args.layout.now c.args.node.now (λ plan. plan.items)
    (g.S.Storage.state c.args.store.now).content c.args.node.now c.args.found.now
    c.args.but.now c.plan_latest.result c.in-None.ensures c.plan_latest.ensures.plan

pub returns-in-Some-clause-plan : goal.returns-in-Some-clause-plan
returns-in-Some-clause-plan g c =
    some_planned c.args.layout.now c.args.node.now (λ plan. plan.items)
    (g.S.Storage.state c.args.store.now).content c.args.node.now c.args.found.now
    c.args.but.now c.plan_newest.result (c.in-Some.field-0-0, c.in-Some.name.now) c.in-Some.ensures
    c.plan_newest.ensures.kind c.plan_newest.ensures.plan
