use Rattle.med_index.proofs.MendLemmas.{found_planned}
use Rattle.med_index.proofs.Walking.{same_content}
use Rattle.med_index.proofs.mend.find_mend.Goals as goal

pub returns-clause-plan : goal.returns-clause-plan
returns-clause-plan g c =
    found_planned c.args.layout.now c.args.node.now (λ plan. plan.items)
    (g.S.Storage.state c.args.store.now).content
    (g.S.Storage.state c.find_backups.new.store).content c.args.node.now c.in_ok-found.found
    c.plan_mend.result (same_content _ _ _ _ c.in_ok-found.ensures.looks)
    c.in_ok-found.ensures.found c.plan_mend.ensures.plan
