use Rattle.std.proofs.Common.{Ok, Err, refl}
use Rattle.med_outside.specs.declared.denied.Denied.TheVariants.{Failed, Memory}
use Rattle.med_shelf.proofs.EndLemmas.{mend_behind, puts_refused}
use Rattle.med_shelf.proofs.ending.end_backup.Goals as goal

pub returns-in-Err-clause-ends : goal.returns-in-Err-clause-ends
returns-in-Err-clause-ends g c =
    let (seconds, fits, said, makes) = c.in-Err.ensures.makes in
    puts_refused c.args.layout.now c.args.node.now c.args.name.now c.args.text.now seconds fits _ _
    _ _ _ _ _ _ makes c.names_keep_rules.ensures.node c.in-Err.denied (λ fault. fault)

pub returns-in-Ok-mend_latest-clause-ends : goal.returns-in-Ok-mend_latest-clause-ends
returns-in-Ok-mend_latest-clause-ends g c =
    let (seconds, fits, said, makes) = c.in-Ok.ensures.makes in
    let (mend, is, more) = c.in-Ok-mend_latest.ensures.makes in
    mend_behind c.args.layout.now c.args.node.now c.args.name.now c.args.text.now seconds fits _ _ _
    _ _ _ _ _ makes refl (Ok c.in-Ok.second) _ _ (λ fine. refl) (λ fault. absurd fault) _ _ _ said
    mend is more

pub returns-in-Err-Store-clause-ends : goal.returns-in-Err-Store-clause-ends
returns-in-Err-Store-clause-ends g c =
    let (seconds, fits, said, makes) = c.in-Ok.ensures.makes in
    let (mend, is, more) = c.in-Err-Store.ensures.makes in
    mend_behind c.args.layout.now c.args.node.now c.args.name.now c.args.text.now seconds fits _ _ _
    _ _ _ _ _ makes refl (Err Failed) _ _ (λ fine. absurd (cc fine)) (λ fault. refl) _ _ _ tt mend
    is more

pub returns-in-Err-Memory-clause-ends : goal.returns-in-Err-Memory-clause-ends
returns-in-Err-Memory-clause-ends g c =
    let (seconds, fits, said, makes) = c.in-Ok.ensures.makes in
    let (mend, is, more) = c.in-Err-Memory.ensures.makes in
    mend_behind c.args.layout.now c.args.node.now c.args.name.now c.args.text.now seconds fits _ _ _
    _ _ _ _ _ makes refl (Err Memory) _ _ (λ fine. absurd (cc fine))
    (λ fault. absurd (cc (fault, c.in-Err-Memory.field-0-is))) _ _ _ tt mend is more
