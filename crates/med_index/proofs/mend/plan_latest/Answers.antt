use Rattle.std.proofs.Common.{ℕ, List, Bor, option_map}
use Rattle.med_index.proofs.MendLemmas.{latest_planned}
use Rattle.med_index.proofs.Walking.{same_content}
use Rattle.med_index.proofs.mend.plan_latest.Goals as goal

pub returns-in-Ok-clause-plan : goal.returns-in-Ok-clause-plan
returns-in-Ok-clause-plan g c =
    latest_planned c.args.layout.now c.args.node.now (g.S.Storage.state c.args.store.now).content
    (g.S.Storage.state c.plan_object.new.store).content
    (option_map (λ (bytes : Bor (List ℕ)). bytes.now) c.args.name)
    (option_map (λ (bytes : Bor (List ℕ)). bytes.now) c.args.ring) c.in_ok-first.first
    c.in_ok-second.second c.in-Ok.plan.items (same_content _ _ _ _ c.in_ok-first.ensures.looks)
    c.in-Ok.ensures c.in_ok-first.ensures.plan c.in_ok-second.ensures.plan
