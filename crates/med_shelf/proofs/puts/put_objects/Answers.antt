use Rattle.std.proofs.Common.{refl}
use Rattle.med_outside.proofs.Making.{in_turn, cut_short}
use Rattle.med_shelf.proofs.puts.put_objects.Goals as goal

pub returns-in-Err-clause-makes : goal.returns-in-Err-clause-makes
returns-in-Err-clause-makes g c =
    let (first, fits, said, makes) = c.in-Err.ensures.makes in (
      first,
      0,
      0,
      fits,
      tt,
      cut_short _ _ _ _ _ _ _ _ _ _ _ _ (λ fine. absurd (cc fine)) (λ fault. fault) makes,
    )

pub returns-in-Err-put_mark-clause-makes : goal.returns-in-Err-put_mark-clause-makes
returns-in-Err-put_mark-clause-makes g c =
    let (first, fits, said, makes) = c.in-Ok.ensures.makes in
    let (mark, more) = c.in-Err-put_mark.ensures.makes in (
      first,
      mark,
      0,
      fits,
      tt,
      in_turn _ _ _ _ _ _ _ _ _ _ _ _ _ _ _ refl makes
          (cut_short _ _ _ _ _ _ _ _ _ _ _ _ (λ fine. absurd (cc fine)) (λ fault. fault) more),
    )

pub returns-in-Err-put_meta-clause-makes : goal.returns-in-Err-put_meta-clause-makes
returns-in-Err-put_meta-clause-makes g c =
    let (first, fits, said, makes) = c.in-Ok.ensures.makes in
    let (mark, more) = c.in-Ok-put_mark.ensures.makes in
    let (last, fit, also, rest) = c.in-Err-put_meta.ensures.makes in (
      first,
      mark,
      last,
      fits,
      tt,
      in_turn _ _ _ _ _ _ _ _ _ _ _ _ _ _ _ refl makes
          (in_turn _ _ _ _ _ _ _ _ _ _ _ _ _ _ _ refl more rest),
    )

pub returns-in-Ok-put_meta-clause-makes : goal.returns-in-Ok-put_meta-clause-makes
returns-in-Ok-put_meta-clause-makes g c =
    let (first, fits, said, makes) = c.in-Ok.ensures.makes in
    let (mark, more) = c.in-Ok-put_mark.ensures.makes in
    let (last, fit, also, rest) = c.in-Ok-put_meta.ensures.makes in (
      first,
      mark,
      last,
      fits,
      said,
      in_turn _ _ _ _ _ _ _ _ _ _ _ _ _ _ _ refl makes
          (in_turn _ _ _ _ _ _ _ _ _ _ _ _ _ _ _ refl more rest),
    )
