use Rattle.std.proofs.Common.{◌∙◌, ℕ, List, Some, Bor, option_map, ap}
use Rattle.med_index.proofs.MendLemmas.{newest_planned}
use Rattle.med_index.proofs.Walking.{same_content}
use Rattle.med_index.proofs.mend.plan_newest.Goals as goal

pub returns-clause-plan : goal.returns-clause-plan
returns-clause-plan g c =
    newest_planned c.args.layout.now c.args.node.now (λ plan. plan.items) c.args.name.now
    (g.S.Storage.state c.args.store.now).content
    (g.S.Storage.state c.tokenmap_of.new.store).content (Some c.as_bytes.result.now)
    (option_map (λ (bytes : Bor (List ℕ)). bytes.now) c.lent.result)
    (option_map (λ bytes. bytes.items) c.in_ok-ring.ring) c.plan_latest.result
    (same_content _ _ _ _ c.in_ok-ring.ensures.looks)
    (ap Some (c.as_bytes.ensures.value ∙ c.as_str.ensures.value)) c.lent.ensures
    c.in_ok-ring.ensures.answer c.plan_latest.ensures.plan
