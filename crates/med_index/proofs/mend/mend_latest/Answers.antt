use Rattle.std.proofs.Common.{[], refl, sym, subst}
use Rattle.std.specs.List.{AllByRecursion}
use Rattle.med_outside.proofs.Making.{in_turn, nothing_yet}
use Rattle.med_index.specs.Planned.{ArePlanned, IsOfIndexPlan}
use Rattle.med_index.proofs.MendLemmas.{mend_made, some_mend}
use Rattle.med_index.proofs.PlanLemmas.{latest_in_index}
use Rattle.med_index.proofs.mend.mend_latest.Goals as goal

pub returns-in-Err-clause-makes : goal.returns-in-Err-clause-makes
returns-in-Err-clause-makes g c =
    let (xs, is) = some_mend c.args.layout.now (g.S.Storage.state c.args.store.now).content
    c.args.node.now c.as_str.ensures.fits in (
      xs,
      is,
      nothing_yet _ _ _ _ _ _ _ _ xs (λ e. absurd (cc e)) refl c.requires.sure
          c.in-Err.ensures.looks.moves,
    )

pub apply_all-requires-clause-index : goal.apply_all-requires-clause-index
apply_all-requires-clause-index g c =
    subst (AllByRecursion (IsOfIndexPlan c.args.layout.now c.args.node.now))
    (sym c.as_slice.ensures.value)
    (latest_in_index c.args.layout.now c.args.node.now c.in-Ok.plan.items c.in-Ok.ensures.latest)

pub returns-clause-makes : goal.returns-clause-makes
returns-clause-makes g c =
    let (xs, planned, makes) = c.apply_all.ensures.makes in
    let here = subst (λ l. ArePlanned l xs) c.as_slice.ensures.value planned in (
      xs,
      mend_made c.args.layout.now c.args.node.now c.in-Ok.plan.items
          (g.S.Storage.state c.args.store.now).content xs c.in-Ok.ensures.plan
          c.in-Ok.ensures.latest here,
      in_turn (Unit {0}) ⊥ _ _ [] xs _ _ _ _ _ _ _ _ _ tt
          (nothing_yet (Unit {0}) ⊥ _ _ _ _ _ _ [] (λ e. refl) refl c.requires.sure
          c.in-Ok.ensures.looks.moves) makes,
    )
