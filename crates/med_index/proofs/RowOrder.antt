-- The order of rows.
use Rattle.std.proofs.Common.{◌≡◌, ◌∙◌, ◌+◌, ℕ, suc, true, false, List, [], ◌∷◌, slice_index_or, refl, ap, subst, arith}
use Rattle.std.proofs.lemmas.Cmp.{on_total, then_total}
use Rattle.std.specs.Cmp.{IsTotalOrder, nat_cmp_total}
use Rattle.std.specs.Cmp.Lexicographic.{nat_list_cmp_total}
use Rattle.std.specs.List.{IsDistinct}
use Rattle.std.specs.List.Sorted.{IsSorted}
use Rattle.std.specs.Ordering.{is_eq, is_lt, ordering_reverse, ordering_then, nat_cmp}
use Rattle.std.specs.declared.cmp.Ordering.{Ordering}
use Rattle.std.specs.declared.cmp.Ordering.TheVariants.{Less, Equal, Greater}
use Rattle.med_base.specs.NameOrder.{name_cmp, name_eq}
use Rattle.med_base.proofs.Lists.{all_with}
use Rattle.med_outside.specs.declared.backup_row.BackupRow.{BackupRow}
use Rattle.med_index.specs.Rows.{row_cmp, AreInOrder, AreApart}

pub row_total : IsTotalOrder row_cmp
row_total =
    then_total (on_total (λ (r : BackupRow). r.started) nat_cmp_total)
    (on_total (λ (r : BackupRow). r.name) nat_list_cmp_total)

second_equal : (a b : Ordering) → ordering_then a b ≡ Equal → b ≡ Equal
second_equal Less b e = absurd (cc)
second_equal Equal b e = e
second_equal Greater b e = absurd (cc)

same_name : (x y : List ℕ) → name_cmp y x ≡ Equal → name_eq x y ≡ true
same_name x y e = ap is_eq (nat_list_cmp_total.antisymm x y ∙ ap ordering_reverse e)

-- a row that isn't above the next, and has another name, is below it
below_next : (r q : BackupRow) → is_lt (row_cmp q r) ≡ false → name_eq r.name q.name ≡ false
    → row_cmp r q ≡ Less
below_next r q up apart = go (row_cmp q r) refl up
  where
    go : (o : Ordering) → row_cmp q r ≡ o → is_lt o ≡ false → row_cmp r q ≡ Less
    go Less e up = absurd (cc)
    go Equal e up =
        absurd
        (let same = same_name r.name q.name
        (second_equal (nat_cmp q.started r.started) (name_cmp q.name r.name) e) in
        cc (same, apart))
    go Greater e up = row_total.antisymm r q ∙ ap ordering_reverse e

tail_sorted : (r : BackupRow) (rs : List BackupRow) → IsSorted row_cmp (r ∷ rs)
    → IsSorted row_cmp rs
tail_sorted r rs sorted k d low high =
    let next : suc k + 1 ≡ suc (k + 1) = omega arith in
    subst
    (λ (n : ℕ). is_lt (row_cmp (slice_index_or (r ∷ rs) n d) (slice_index_or rs k d)) ≡ false) next
    (sorted (suc k) d (omega arith) (omega (arith, high)))

-- rows in order whose names differ are strictly in order
pub in_order : (rows : List BackupRow) → IsSorted row_cmp rows → AreApart rows → AreInOrder rows
unfolding IsDistinct
in_order [] sorted apart = tt
in_order (r ∷ []) sorted apart = (tt, tt)
in_order (r ∷ (q ∷ rs)) sorted apart =
    let first = below_next r q (sorted 0 r (omega arith) (omega arith)) apart.0.0 in
    let rest = in_order (q ∷ rs) (tail_sorted r (q ∷ rs) sorted) apart.1 in (
      (
        first,
        all_with (λ x. row_cmp q x ≡ Less) (λ x. row_cmp r x ≡ Less)
            (λ x less. row_total.trans r q x first less) rs rest.0,
      ),
      rest,
    )
