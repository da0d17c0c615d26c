use Rattle.std.proofs.Common.{◌+◌, ◌++◌, [], ◌∷◌, map, drop, refl, arith}
use Rattle.med_outside.proofs.Making.{cut_short, in_turn, nothing_yet, told_as}
use Rattle.med_outside.proofs.Passing.{moves_at_rest}
use Rattle.med_index.proofs.PlanLemmas.{effect_of, planned_next, planned_whole}
use Rattle.med_index.proofs.changes.apply_all.Goals as goal

pub loop-planned-init : goal.loop-planned-init
loop-planned-init g c =
    let state = g.S.Storage.state c.args.store.now in
    let stood = g.S.Storage.stood c.args.store.now in record {
      made = (
        [],
        tt,
        nothing_yet (Unit {0}) ⊥ state state stood stood c.args.trace.now c.args.trace.now []
            (λ e. refl) refl c.requires.sure (moves_at_rest state stood),
      );
      ready = c.requires.ready;
      sure = c.requires.sure;
      later = omega arith;
    }

pub returns-in-Err-clause-makes : goal.returns-in-Err-clause-makes
returns-in-Err-clause-makes g c =
    let (xs, planned, before) = c.loop-planned.invariant.made in
    let (x, one, makes) = c.in-Err.ensures.makes in
    let i = c.loop-planned.planned-index in
    let rest = map effect_of (drop (i + 1) c.args.plan.now) in (
      xs ++ x ∷ rest,
      planned_whole c.args.plan.now i c.planned-item.result c.loop-planned-test.true
          c.planned-item.is xs planned x one,
      in_turn (Unit {0}) ⊥ _ _ xs (x ∷ rest) _ _ _ _ _ _ _ _ _ tt before
          (cut_short _ _ _ _ (x ∷ []) rest _ _ _ _ _ _ (λ fine. absurd (cc fine))
          (λ fault. fault) makes),
    )

pub loop-planned-preserved : goal.loop-planned-preserved
loop-planned-preserved g c =
    let (xs, planned, before) = c.loop-planned.invariant.made in
    let (x, one, makes) = c.in-Ok.ensures.makes in record {
      made = (
        xs ++ x ∷ [],
        planned_next c.args.plan.now c.loop-planned.planned-index c.planned-item.result
            c.loop-planned-test.true c.planned-item.is xs planned x one,
        in_turn (Unit {0}) ⊥ (Unit {0}) ⊥ xs (x ∷ []) _ _ _ _ _ _ _ _ _ tt before
            (told_as _ _ (Unit {0}) ⊥ (x ∷ []) _ _ _ _ _ _ (λ u. refl) (λ f. f) makes),
      );
      ready = c.in-Ok.ensures.ready;
      sure = c.in-Ok.ensures.sure;
      later =
          let more = c.in-Ok.ensures.cause.later in
          let so_far = c.loop-planned.invariant.later in
          omega (arith, more, so_far);
    }
