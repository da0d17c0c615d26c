use Rattle.std.proofs.Common.{Ok, Err, refl}
use Rattle.med_outside.specs.declared.denied.Denied.TheVariants.{Failed, Memory}
use Rattle.med_shelf.proofs.EndLemmas.{entries_behind, manifest_refused}
use Rattle.med_shelf.proofs.ending.put_manifest.Goals as goal

pub returns-in-Err-clause-makes : goal.returns-in-Err-clause-makes
returns-in-Err-clause-makes g c =
    let (first, fits, said, makes) = c.in-Err.ensures.makes in
    manifest_refused c.args.layout.now c.args.node.now c.args.name.now c.args.text.now first fits _
    _ _ _ _ _ _ _ makes c.in-Err.denied (λ fault. fault)

pub returns-in-Ok-finish_entries-clause-makes : goal.returns-in-Ok-finish_entries-clause-makes
returns-in-Ok-finish_entries-clause-makes g c =
    let (first, fits, said, makes) = c.in-Ok.ensures.makes in
    let (entries, more) = c.in-Ok-finish_entries.ensures.makes in
    entries_behind c.args.layout.now c.args.node.now c.args.name.now c.args.text.now first fits _ _
    _ _ _ _ _ _ makes refl (Ok c.in-Ok.second) _ _ (λ fine. refl) (λ fault. absurd fault) _ _ _
    c.in-Ok.second said refl entries more

pub returns-in-Err-Store-clause-makes : goal.returns-in-Err-Store-clause-makes
returns-in-Err-Store-clause-makes g c =
    let (first, fits, said, makes) = c.in-Ok.ensures.makes in
    let (entries, more) = c.in-Err-Store.ensures.makes in
    entries_behind c.args.layout.now c.args.node.now c.args.name.now c.args.text.now first fits _ _
    _ _ _ _ _ _ makes refl (Err Failed) _ _ (λ fine. absurd (cc fine)) (λ fault. refl) _ _ _
    c.in-Ok.second said tt entries more

pub returns-in-Err-Memory-clause-makes : goal.returns-in-Err-Memory-clause-makes
returns-in-Err-Memory-clause-makes g c =
    let (first, fits, said, makes) = c.in-Ok.ensures.makes in
    let (entries, more) = c.in-Err-Memory.ensures.makes in
    entries_behind c.args.layout.now c.args.node.now c.args.name.now c.args.text.now first fits _ _
    _ _ _ _ _ _ makes refl (Err Memory) _ _ (λ fine. absurd (cc fine))
    (λ fault. absurd (cc (fault, c.in-Err-Memory.field-0-is))) _ _ _ c.in-Ok.second said tt
    entries more
