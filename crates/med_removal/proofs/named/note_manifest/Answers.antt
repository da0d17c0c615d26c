use Rattle.std.proofs.Common.{rules, List, ℕ, option_map, subst}
use Rattle.med_manifest.specs.Refusals.{IsNoManifest, IsRefused}
use Rattle.med_outside.specs.Storage.{AnswersBytes}
use Rattle.med_removal.proofs.named.note_manifest.Goals as goal

pub returns-in-Ok-copy-clause-err : goal.returns-in-Ok-copy-clause-err
returns-in-Ok-copy-clause-err g c =
    let told = (g.S.Storage.state c.args.store.now).content in
    let before = c.args.layout.now in
    let f = c.args.node.now in
    let n = c.args.name.now in (
      c.in-Some.bytes.items,
      subst (λ o. AnswersBytes c.args.path.now told (option_map (λ b. b.items) o)) c.in-Some.is
          c.in-Ok.ensures.answer,
      (
        c.in-Ok-copy.ensures,
        subst (λ (b : List ℕ). IsRefused before f n b c.in-Err-Why.why) c.as_slice.ensures.value
            (search rules),
        subst (λ (b : List ℕ). IsNoManifest before f n b) c.as_slice.ensures.value (search rules),
      ),
    )
