-- Rows from the last to the first: how many finished ones stand after each.
use Rattle.std.proofs.Common.{◌≡◌, ◌∙◌, ◌+◌, ◌<◌, ◌&&◌, ℕ, suc, Bool, Bor, true, false, cond, List, [], ◌∷◌, ◌++◌, length, take, drop, get_or, filter, sum_by, slice_index_or, is_some, refl, sym, ap, subst, arith}
use Rattle.std.proofs.lemmas.Cmp.{tied_itself}
use Rattle.std.proofs.lemmas.List.{get_or-map, length-map}
use Rattle.std.proofs.lemmas.List.Sorted.{IsPermutation-map, sum_by-IsPermutation}
use Rattle.std.proofs.lemmas.List.Sums.{sum_by-cons}
use Rattle.std.proofs.lemmas.Map.Keys.{IsDistinct-IsPermutation}
use Rattle.std.specs.Cmp.{eq_by_cmp_equiv}
use Rattle.std.specs.Cmp.Lexicographic.{nat_list_cmp_total}
use Rattle.std.specs.List.{AllByRecursion, IsDistinct}
use Rattle.std.specs.List.Sorted.{IsPermutation, IsSorted, IsSortedBy}
use Rattle.std.specs.Ordering.{is_eq, is_lt, nat_cmp, ordering_reverse, ordering_then}
use Rattle.std.specs.declared.cmp.Ordering.{Ordering}
use Rattle.std.specs.declared.cmp.Ordering.TheVariants.{Less, Equal, Greater}
use Rattle.med_base.proofs.Lists.{all_split, all_with, split_at}
use Rattle.med_base.specs.NameOrder.{name_cmp, name_eq}
use Rattle.med_index.proofs.RowOrder.{row_total}
use Rattle.med_index.specs.Rows.{AreApart, names_of, row_cmp}
use Rattle.med_outside.specs.declared.backup_row.BackupRow.{BackupRow}
use Rattle.med_purge.specs.Rule.{back_cmp, finished_after, is_finished_after, rows_of}

abbrev pub is_finished : BackupRow → Bool
is_finished row = is_some row.finished

-- ---- the order

-- each row stands after all that follow
abbrev pub AreBack : List BackupRow → Type 0
AreBack [] = Unit {0}
AreBack (r ∷ rs) = AllByRecursion (λ q. row_cmp q r ≡ Less) rs × AreBack rs

second_equal : (a b : Ordering) → ordering_then a b ≡ Equal → b ≡ Equal
second_equal Less b e = absurd (cc)
second_equal Equal b e = e
second_equal Greater b e = absurd (cc)

-- a row that doesn't stand after the one before it, and has another name, stands before it
below_last : (r q : BackupRow) → is_lt (row_cmp r q) ≡ false → name_eq r.name q.name ≡ false
    → row_cmp q r ≡ Less
below_last r q up apart = go (row_cmp r q) refl up
  where
    go : (o : Ordering) → row_cmp r q ≡ o → is_lt o ≡ false → row_cmp q r ≡ Less
    go Less e up = absurd (cc)
    go Equal e up =
        absurd
        (let same =
        ap is_eq
        (second_equal (nat_cmp r.started q.started) (name_cmp r.name q.name) e) in
        cc (same, apart))
    go Greater e up = row_total.antisymm q r ∙ ap ordering_reverse e

tail_sorted : (r : BackupRow) (rs : List BackupRow) → IsSorted back_cmp (r ∷ rs)
    → IsSorted back_cmp rs
tail_sorted r rs sorted k d low high =
    let next : suc k + 1 ≡ suc (k + 1) = omega arith in
    subst
    (λ (n : ℕ). is_lt (back_cmp (slice_index_or (r ∷ rs) n d) (slice_index_or rs k d)) ≡ false) next
    (sorted (suc k) d (omega arith) (omega (arith, high)))

-- sorted rows whose names differ are strictly in order
pub are_back : (rows : List BackupRow) → IsSorted back_cmp rows → AreApart rows → AreBack rows
unfolding IsDistinct
are_back [] sorted apart = tt
are_back (r ∷ []) sorted apart = (tt, tt)
are_back (r ∷ (q ∷ rs)) sorted apart =
    let first = below_last r q (sorted 0 r (omega arith) (omega arith)) apart.0.0 in
    let rest = are_back (q ∷ rs) (tail_sorted r (q ∷ rs) sorted) apart.1 in (
      (
        first,
        all_with (λ x. row_cmp x q ≡ Less) (λ x. row_cmp x r ≡ Less)
            (λ x less. row_total.trans x q r less first) rs rest.0,
      ),
      rest,
    )

-- references that are sorted by their rows
pub sorted_rows : (lent : List (Bor BackupRow))
    → IsSortedBy (λ (a b : Bor BackupRow). is_lt (back_cmp a.now b.now)) lent
    → IsSorted back_cmp (rows_of lent)
sorted_rows [] sorted k d low high = absurd (omega arith)
sorted_rows (r ∷ rs) sorted k d low high =
    let long = length-map (r ∷ rs) (λ (q : Bor BackupRow). q.now) in
    let at : k + 1 < length (r ∷ rs) = omega (arith, high, long) in
    rw (
      get_or-map (λ (q : Bor BackupRow). q.now) (r ∷ rs) k r d (omega arith),
      get_or-map (λ (q : Bor BackupRow). q.now) (r ∷ rs) (k + 1) r d at,
    )
    (sorted k r low at)

-- ---- what stands after a row

not_after : (row : BackupRow) (rs : List BackupRow)
    → AllByRecursion (λ q. is_lt (row_cmp row q) ≡ false) rs → filter (is_finished_after row) rs ≡ []
not_after row [] all = refl
not_after row (r ∷ rs) all = go (is_some r.finished) (is_lt (row_cmp row r)) all.0 (not_after row rs all.1)
  where
    go : (b c : Bool) → c ≡ false → filter (is_finished_after row) rs ≡ []
        → cond (b && c) (r ∷ filter (is_finished_after row) rs) (filter (is_finished_after row) rs)
        ≡ []
    go true true isnt none = absurd (cc)
    go true false isnt none = none
    go false c isnt none = none

less_not_back : (q r : BackupRow) → row_cmp q r ≡ Less → is_lt (row_cmp r q) ≡ false
less_not_back q r less = ap is_lt (row_total.antisymm r q ∙ ap ordering_reverse less)

not_itself : (r : BackupRow) → is_lt (row_cmp r r) ≡ false
not_itself r = ap is_lt (tied_itself row_total r)

-- of rows in order, the finished ones that stand after a row are those before it
after_is : (first : List BackupRow) (row : BackupRow) (rest : List BackupRow)
    → AreBack (first ++ row ∷ rest)
    → finished_after (first ++ row ∷ rest) row ≡ length (filter is_finished first)
after_is first row rest back = counts first back
  where
    counts : (rs : List BackupRow) → AreBack (rs ++ row ∷ rest)
        → length (filter (is_finished_after row) (rs ++ row ∷ rest)) ≡ length (filter is_finished rs)
    counts [] back =
        ap length
        (not_after row (row ∷ rest) (
          not_itself row,
          all_with (λ q. row_cmp q row ≡ Less) (λ q. is_lt (row_cmp row q) ≡ false)
              (λ q less. less_not_back q row less) rest back.0,
        ))
    counts (r ∷ rs) back =
        let less : row_cmp row r ≡ Less =
        (all_split (λ q. row_cmp q r ≡ Less) rs (row ∷ rest) back.0).1.0 in
        more (is_some r.finished) (is_lt (row_cmp row r)) (ap is_lt less) (counts rs back.1)
      where
        more : (b c : Bool) → c ≡ true
            → length (filter (is_finished_after row) (rs ++ row ∷ rest))
            ≡ length (filter is_finished rs)
            → length
            (cond (b && c) (r ∷ filter (is_finished_after row) (rs ++ row ∷ rest))
            (filter (is_finished_after row) (rs ++ row ∷ rest)))
            ≡ length (cond b (r ∷ filter is_finished rs) (filter is_finished rs))
        more true true is same = ap suc same
        more true false is same = absurd (cc)
        more false c is same = same

-- at a place of the list
pub after_at : (rows : List BackupRow) (i : ℕ) (row : BackupRow) → i < length rows
    → row ≡ get_or rows i row → AreBack rows
    → finished_after rows row ≡ length (filter is_finished (take i rows))
after_at rows i row lt at back =
    let cut = split_at rows i row lt at in
    ap (λ rs. finished_after rs row) cut
    ∙ after_is (take i rows) row (drop (i + 1) rows) (subst AreBack cut back)

-- ---- rows in another order

count_sum : (p : BackupRow → Bool) (rows : List BackupRow)
    → length (filter p rows) ≡ sum_by (λ r. cond (p r) 1 0) rows
count_sum p [] = refl
count_sum p (r ∷ rs) =
    go (p r) (count_sum p rs) ∙ sym (sum_by-cons (λ r. cond (p r) 1 0) r rs)
  where
    go : (b : Bool) → length (filter p rs) ≡ sum_by (λ r. cond (p r) 1 0) rs
        → length (cond b (r ∷ filter p rs) (filter p rs))
        ≡ cond b 1 0 + sum_by (λ r. cond (p r) 1 0) rs
    go true same = omega (arith, same)
    go false same = omega (arith, same)

module _ (rows sorted : List BackupRow) (same : IsPermutation rows sorted) where
  pub after_moved : (row : BackupRow) → finished_after sorted row ≡ finished_after rows row
  after_moved row =
      count_sum (is_finished_after row) sorted
      ∙ sum_by-IsPermutation (λ r. cond (is_finished_after row r) 1 0) rows sorted same
      ∙ sym (count_sum (is_finished_after row) rows)

  pub apart_moved : AreApart rows → AreApart sorted
  apart_moved apart =
      IsDistinct-IsPermutation name_eq (eq_by_cmp_equiv nat_list_cmp_total).symm (names_of rows)
      (names_of sorted) (IsPermutation-map (λ (r : BackupRow). r.name) rows sorted same) apart
