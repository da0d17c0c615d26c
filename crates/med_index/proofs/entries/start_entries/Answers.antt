use Rattle.std.proofs.Common.{[], ◌∷◌, refl, get_or}
use Rattle.med_index.proofs.Refusals.{refused_first, refused_second, refused_mark}
use Rattle.med_index.specs.Modes.{is_differential}
use Rattle.med_outside.proofs.Making.{in_turn, cut_short, gained_all}
use Rattle.med_index.proofs.entries.start_entries.Goals as goal

pub returns-in-Err-clause-makes : goal.returns-in-Err-clause-makes
returns-in-Err-clause-makes g c =
    let (at, fits, said, makes) = c.in-Err.ensures.makes in
    (λ i. at, cut_short _ _ _ _ _ _ _ _ _ _ _ _ (λ fine. absurd (cc fine)) (λ fault. fault) makes)

pub returns-in-Err-put_entry-clause-makes : goal.returns-in-Err-put_entry-clause-makes
returns-in-Err-put_entry-clause-makes g c =
    let (first, fits, said, makes) = c.in-Ok.ensures.makes in
    let (next, fit, also, more) = c.in-Err-put_entry.ensures.makes in (
      λ i. get_or (first ∷ next ∷ []) i 0,
      in_turn _ _ _ _ _ _ _ _ _ _ _ _ _ _ _ refl makes
          (cut_short _ _ _ _ _ _ _ _ _ _ _ _ (λ fine. absurd (cc fine)) (λ fault. fault) more),
    )

pub returns-clause-makes : goal.returns-clause-makes
returns-clause-makes g c =
    let (first, fits, said, makes) = c.in-Ok.ensures.makes in
    let (next, fit, also, more) = c.in-Ok-put_entry.ensures.makes in
    let (last, rest) = c.put_mark.ensures.makes in (
      λ i. get_or (first ∷ next ∷ last ∷ []) i 0,
      in_turn _ _ _ _ _ _ _ _ _ _ _ _ _ _ _ refl makes
          (in_turn _ _ _ _ _ _ _ _ _ _ _ _ _ _ _ refl more rest),
    )

pub returns-in-Err-clause-err : goal.returns-in-Err-clause-err
returns-in-Err-clause-err g c =
    refused_first (is_differential c.args.mode) c.args.trace.now c.put_entry.new.trace
    c.in-Err.ensures.err

pub returns-in-Err-put_entry-clause-err : goal.returns-in-Err-put_entry-clause-err
returns-in-Err-put_entry-clause-err g c =
    let (first, fits, said, makes) = c.in-Ok.ensures.makes in
    refused_second (is_differential c.args.mode) c.args.trace.now c.put_entry.new.trace
    c.put_entry-2.new.trace (gained_all _ _ _ _ _ _ _ _ _ refl makes)
    c.in-Err-put_entry.ensures.err

pub returns-clause-err : goal.returns-clause-err
returns-clause-err g c =
    let (first, fits, said, makes) = c.in-Ok.ensures.makes in
    let (next, fit, also, more) = c.in-Ok-put_entry.ensures.makes in
    refused_mark (is_differential c.args.mode) c.args.trace.now c.put_entry.new.trace
    c.put_entry-2.new.trace c.put_mark.new.trace (gained_all _ _ _ _ _ _ _ _ _ refl makes)
    (gained_all _ _ _ _ _ _ _ _ _ refl more) c.put_mark.result c.put_mark.ensures.err
