use Rattle.std.proofs.Common.{[], ◌∷◌, refl, get_or}
use Rattle.med_outside.proofs.Making.{in_turn, cut_short}
use Rattle.med_index.proofs.entries.finish_entries.Goals as goal

pub returns-in-Err-clause-makes : goal.returns-in-Err-clause-makes
returns-in-Err-clause-makes g c =
    let (at, fits, said, makes) = c.in-Err.ensures.makes in
    (λ i. at, cut_short _ _ _ _ _ _ _ _ _ _ _ _ (λ fine. absurd (cc fine)) (λ fault. fault) makes)

pub returns-in-Ok-put_entry-clause-makes : goal.returns-in-Ok-put_entry-clause-makes
returns-in-Ok-put_entry-clause-makes g c =
    let (first, fits, said, makes) = c.in-Ok.ensures.makes in
    let (next, fit, also, more) = c.in-Ok-put_entry.ensures.makes in
    (λ i. get_or (first ∷ next ∷ []) i 0, in_turn _ _ _ _ _ _ _ _ _ _ _ _ _ _ _ refl makes more)

pub returns-in-Err-put_entry-clause-makes : goal.returns-in-Err-put_entry-clause-makes
returns-in-Err-put_entry-clause-makes g c =
    let (first, fits, said, makes) = c.in-Ok.ensures.makes in
    let (next, fit, also, more) = c.in-Err-put_entry.ensures.makes in
    (λ i. get_or (first ∷ next ∷ []) i 0, in_turn _ _ _ _ _ _ _ _ _ _ _ _ _ _ _ refl makes more)
