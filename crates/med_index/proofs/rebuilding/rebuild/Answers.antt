use Rattle.std.proofs.Common.{◌∙◌, true, false, [], refl, ap, subst}
use Rattle.med_outside.proofs.Making.{in_turn, nothing_yet, told_as}
use Rattle.med_index.specs.Errors.{as_index_error}
use Rattle.med_index.specs.Planned.{ArePlanned}
use Rattle.med_index.specs.Plans.{count_of}
use Rattle.med_index.proofs.RebuildSteps.{cut_rebuild, done_rebuild, refused_rebuild}
use Rattle.med_index.proofs.rebuilding.rebuild.Goals as goal

pub returns-in-Err-clause-makes : goal.returns-in-Err-clause-makes
returns-in-Err-clause-makes g c = (
  [],
  refused_rebuild c.args.layout.now c.args.node.now (g.S.Storage.state c.args.store.now).content
      c.in-Err.error c.in-Err.ensures.err,
  nothing_yet _ _ _ _ _ _ _ _ [] (λ e. refl) refl c.requires.sure
      c.in-Err.ensures.looks.moves,
)

pub returns-in-Ok-apply_all-clause-makes : goal.returns-in-Ok-apply_all-clause-makes
returns-in-Ok-apply_all-clause-makes g c =
    let (xs, planned, makes) = c.in-Ok-apply_all.ensures.makes in
    let here = subst (λ l. ArePlanned l xs) c.as_slice-3.ensures.value planned in (
      xs,
      done_rebuild c.args.layout.now c.args.node.now
          (g.S.Storage.state c.args.store.now).content c.in-Ok.plan.items xs here
          c.in-Ok.ensures.index c.in-Ok.ensures.plan _
          (c.count_of-put.ensures ∙ ap (count_of true) c.as_slice.ensures.value)
          (c.count_of-deleted.ensures ∙ ap (count_of false) c.as_slice-2.ensures.value),
      in_turn (Unit {0}) ⊥ _ _ [] xs _ _ _ _ _ _ _ _ _ tt
          (nothing_yet (Unit {0}) ⊥ _ _ _ _ _ _ [] (λ e. refl) refl c.requires.sure
          c.in-Ok.ensures.looks.moves) makes,
    )

pub returns-clause-makes : goal.returns-clause-makes
returns-clause-makes g c =
    let (xs, planned, makes) = c.in-Err-apply_all.ensures.makes in
    let here = subst (λ l. ArePlanned l xs) c.as_slice-3.ensures.value planned in (
      xs,
      cut_rebuild c.args.layout.now c.args.node.now
          (g.S.Storage.state c.args.store.now).content c.in-Ok.plan.items xs here
          c.in-Ok.ensures.index c.in-Ok.ensures.plan c.in-Err-apply_all.error c.from.result
          c.from.ensures,
      told_as _ _ _ _ xs _ _ _ _ _ _ (λ fine. fine)
          (λ fault. c.from.ensures ∙ ap as_index_error fault)
          (in_turn (Unit {0}) ⊥ _ _ [] xs _ _ _ _ _ _ _ _ _ tt
          (nothing_yet (Unit {0}) ⊥ _ _ _ _ _ _ [] (λ e. refl) refl c.requires.sure
          c.in-Ok.ensures.looks.moves) makes),
    )
