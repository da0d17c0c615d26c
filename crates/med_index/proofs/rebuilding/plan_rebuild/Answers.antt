use Rattle.std.proofs.Common.{◌≡◌, ◌∙◌, ℕ, List, []}
use Rattle.med_base.specs.Effects.{Effect}
use Rattle.med_manifest.specs.Mend.{changes_of_mend}
use Rattle.med_index.specs.Gathered.{IsGathered, TellsUnread}
use Rattle.med_index.specs.Planned.{ArePlanned}
use Rattle.med_index.specs.Visits.{AreFound}
use Rattle.med_index.proofs.GatherSteps.{told_before}
use Rattle.med_index.proofs.PlanLemmas.{latest_in_index}
use Rattle.med_index.proofs.RebuildSteps.{entries_in, plan_made, told_on}
use Rattle.med_index.proofs.Walking.{same_content}
use Rattle.med_index.proofs.rebuilding.plan_rebuild.Goals as goal

pub returns-in-Err-gather-clause-err : goal.returns-in-Err-gather-clause-err
returns-in-Err-gather-clause-err g c =
    let state = g.S.Storage.state in
    let before = c.args.layout.now in
    let f = c.args.node.now in
    let told = (state c.args.store.now).content in
    let first = same_content _ _ _ _ c.in-Ok.ensures.looks in
    let second = same_content _ _ _ _ c.in-Ok-plan_mend.ensures.looks in
    told_on (λ d. AreFound f c.in-Ok.found before f d [])
    (λ d. AreFound f c.in-Ok.found before f d [] → TellsUnread before d f c.in-Err-gather.error)
    (λ d. TellsUnread before d f c.in-Err-gather.error) told (λ d there tells. tells there)
    c.in-Ok.ensures.found
    (told_before
    (λ d. AreFound f c.in-Ok.found before f d [] → TellsUnread before d f c.in-Err-gather.error)
    told (state c.plan_mend.new.store).content (second ∙ first) c.in-Err-gather.ensures.err)

pub returns-in-Ok-plan_entries-clause-plan : goal.returns-in-Ok-plan_entries-clause-plan
returns-in-Ok-plan_entries-clause-plan g c =
    let state = g.S.Storage.state in
    let before = c.args.layout.now in
    let f = c.args.node.now in
    let told = (state c.args.store.now).content in
    let found = c.in-Ok.found in
    let all = c.in-Ok-gather.gathered in
    let first = same_content _ _ _ _ c.in-Ok.ensures.looks in
    let second = same_content _ _ _ _ c.in-Ok-plan_mend.ensures.looks in
    plan_made before f told all.given all.sizes c.in-Ok-plan_mend.plan.items
    c.plan_entries.new.plan.items c.in-Ok-plan_entries.ensures.given
    c.in-Ok-plan_entries.ensures.sizes
    (told_on (λ d. AreFound f found before f d [])
    (λ d. AreFound f found before f d [] → IsGathered before f d all.given all.sizes)
    (λ d. IsGathered before f d all.given all.sizes) told (λ d there gives. gives there)
    c.in-Ok.ensures.found
    (told_before
    (λ d. AreFound f found before f d [] → IsGathered before f d all.given all.sizes) told
    (state c.plan_mend.new.store).content (second ∙ first) c.in-Ok-gather.ensures.ok))
    (told_on (λ d. AreFound f found before f d [])
    (λ d. AreFound f found before f d [] → (xs : List Effect)
    → ArePlanned c.in-Ok-plan_mend.plan.items xs
    → (seconds : ℕ → ℕ) × (xs ≡ changes_of_mend before d f [] seconds))
    (λ d. (xs : List Effect) → ArePlanned c.in-Ok-plan_mend.plan.items xs
    → (seconds : ℕ → ℕ) × (xs ≡ changes_of_mend before d f [] seconds)) told
    (λ d there gives. gives there) c.in-Ok.ensures.found
    (told_before
    (λ d. AreFound f found before f d [] → (xs : List Effect)
    → ArePlanned c.in-Ok-plan_mend.plan.items xs
    → (seconds : ℕ → ℕ) × (xs ≡ changes_of_mend before d f [] seconds)) told
    (state c.find_backups.new.store).content first c.in-Ok-plan_mend.ensures.plan))
    c.in-Ok-plan_entries.ensures.plan

pub returns-in-Ok-plan_entries-clause-index : goal.returns-in-Ok-plan_entries-clause-index
returns-in-Ok-plan_entries-clause-index g c =
    let before = c.args.layout.now in
    let f = c.args.node.now in
    let all = c.in-Ok-gather.gathered in
    entries_in before f all.given all.sizes c.in-Ok-plan_mend.plan.items
    c.plan_entries.new.plan.items c.in-Ok-plan_entries.ensures.given
    c.in-Ok-plan_entries.ensures.sizes c.in-Ok-gather.ensures.given c.in-Ok-gather.ensures.sizes
    c.in-Ok-plan_entries.ensures.plan
    (latest_in_index before f c.in-Ok-plan_mend.plan.items c.in-Ok-plan_mend.ensures.latest)
