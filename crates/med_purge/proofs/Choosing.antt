-- The names of the rows that go, as they are chosen one by one.
use Rattle.std.proofs.Common.{◌≡◌, ◌∙◌, ◌+◌, ◌<◌, ◌≤◌, ◌⊎◌, inl, inr, ℕ, Bool, Bor, cond, true, false, List, [], ◌∷◌, ◌++◌, length, take, get_or, filter, Contains, IsTrue, refl, sym, ap, subst, arith, true≢false}
use Rattle.std.proofs.lemmas.List.{get_or-map, length-map, length-take, take_all}
use Rattle.std.proofs.lemmas.List.Elements.{Contains-append_left, Contains-push, Contains-push_cases, recursion_from_All}
use Rattle.std.proofs.lemmas.List.Filters.{length-filter_more}
use Rattle.std.proofs.lemmas.List.Sorted.{Contains-permutation, IsPermutation-sym}
use Rattle.std.proofs.lemmas.List.Sums.{count_by-le-length, length-filter}
use Rattle.std.proofs.lemmas.Map.Lookups.{exact_bytes}
use Rattle.std.proofs.lemmas.Map.Views.{All-set_contains, btree_set_contains_iff}
use Rattle.std.specs.BTreeMap.{is_at}
use Rattle.std.specs.BTreeSet.{BTreeSet, IsEmpty, IsOrdered, Updates, contains}
use Rattle.std.specs.Cmp.Lexicographic.{nat_list_cmp_total}
use Rattle.std.specs.Int.{from_bool}
use Rattle.std.specs.List.{list_any}
use Rattle.std.specs.List.Sorted.{IsPermutation, IsSorted, IsStrictlySortedBy}
use Rattle.med_base.proofs.Lists.{all_with, take_map}
use Rattle.med_base.specs.NameOrder.{name_cmp}
use Rattle.med_core.specs.Section.{AreInByteOrder}
use Rattle.med_index.proofs.Finding.{equal_of}
use Rattle.med_index.specs.Rows.{AreApart}
use Rattle.med_outside.specs.declared.backup_row.BackupRow.{BackupRow}
use Rattle.med_purge.proofs.Counts.{after_at, after_moved, are_back, is_finished}
use Rattle.med_purge.specs.Rule.{AreChosen, IsRule, IsToGo, IsToGoWith, back_cmp, finished_after, rows_of}

-- ---- a name is put into a set

module _ (s s' : BTreeSet (List ℕ)) (name : List ℕ) (put : Updates name_cmp s s' name true) where
  name_or_old : (n : List ℕ) → IsTrue (contains name_cmp s' n)
      → (name ≡ n) ⊎ IsTrue (contains name_cmp s n)
  name_or_old n has = go (is_at (name_cmp name) n) refl
    where
      go : (b : Bool) → is_at (name_cmp name) n ≡ b → (name ≡ n) ⊎ IsTrue (contains name_cmp s n)
      go true e = inl (exact_bytes name n (equal_of (name_cmp name n) e))
      go false e = inr (sym (put.2 n e) ∙ has)

  still : (n : List ℕ) → IsTrue (contains name_cmp s n) → IsTrue (contains name_cmp s' n)
  still n has = go (is_at (name_cmp name) n) refl
    where
      go : (b : Bool) → is_at (name_cmp name) n ≡ b → IsTrue (contains name_cmp s' n)
      go true e =
          subst (λ (q : List ℕ). IsTrue (contains name_cmp s' q))
          (exact_bytes name n (equal_of (name_cmp name n) e)) put.1
      go false e = put.2 n e ∙ has

-- ---- one row more

module _ (rows : List BackupRow) (now age count : ℕ) where
  -- none so far
  pub chosen_none : (s : BTreeSet (List ℕ)) → IsEmpty s → AreChosen rows now age count [] s
  chosen_none s empty = record {
    goes = λ row has to_go. absurd (omega (arith, has.1));
    only = λ n has.
        let none : contains name_cmp s n ≡ false = ap (list_any (is_at (name_cmp n))) empty in
        absurd (true≢false (sym has ∙ none));
  }

  module _ (first : List BackupRow) (row : BackupRow) (s : BTreeSet (List ℕ))
      (old : AreChosen rows now age count first s) where
    -- it goes
    pub chosen_more : (s' : BTreeSet (List ℕ)) → IsToGo rows now age count row
        → Updates name_cmp s s' row.name true → AreChosen rows now age count (first ++ row ∷ []) s'
    chosen_more s' is put = record {
      goes = λ r has to_go. elim (Contains-push_cases first row r has) [
        | inl was ↦ still s s' row.name put r.name (old.goes r was to_go)
        | inr same ↦
            subst (λ (q : BackupRow). IsTrue (contains name_cmp s' q.name)) same put.1
      ];
      only = λ n has. elim (name_or_old s s' row.name put n has) [
        | inl same ↦ (row, Contains-push first row, same, is)
        | inr was ↦
            let (r, there, named, goes) = old.only n was in
            (r, Contains-append_left first (row ∷ []) r there, named, goes)
      ];
    }

    -- it stays
    pub chosen_same : (IsToGo rows now age count row → ⊥)
        → AreChosen rows now age count (first ++ row ∷ []) s
    chosen_same isnt = record {
      goes = λ r has to_go. elim (Contains-push_cases first row r has) [
        | inl was ↦ old.goes r was to_go
        | inr same ↦ absurd (isnt (subst (IsToGo rows now age count) (sym same) to_go))
      ];
      only = λ n has.
          let (r, there, named, goes) = old.only n has in
          (r, Contains-append_left first (row ∷ []) r there, named, goes);
    }

-- ---- the rows so far

-- of the first rows, so many are finished, and the set has the names of those that go
pub record IsSoFar (lent : List (Bor BackupRow)) (now age count i finished : ℕ)
    (s : BTreeSet (List ℕ)) : Type 0 where
  pub counted : finished ≡ length (filter is_finished (take i (rows_of lent)))
  pub chosen : AreChosen (rows_of lent) now age count (take i (rows_of lent)) s

byte_is : (b : Bool) → from_bool b ≡ cond b 1 0
byte_is true = refl
byte_is false = refl

pub one_at_most : (b : Bool) (n : ℕ) → n ≡ from_bool b → n ≤ 1
one_at_most true n is = omega (arith, is)
one_at_most false n is = omega (arith, is)

abbrev lent_row : Bor BackupRow → BackupRow
lent_row b = b.now

module _ (lent : List (Bor BackupRow)) (now age count i finished : ℕ) (s : BTreeSet (List ℕ)) where
  -- no more than these rows are finished
  pub few : IsSoFar lent now age count i finished s → finished ≤ i
  few so_far =
      omega (
        arith,
        so_far.counted,
        length-filter is_finished (take i (rows_of lent)),
        count_by-le-length is_finished (take i (rows_of lent)),
        length-take i (rows_of lent),
      )

  -- the names of all rows that go were chosen
  pub chosen_all : IsSoFar lent now age count i finished s → length lent ≤ i
      → AreChosen (rows_of lent) now age count (rows_of lent) s
  chosen_all so_far le =
      subst (λ l. AreChosen (rows_of lent) now age count l s)
      (take_all i (rows_of lent) (omega (arith, length-map lent lent_row))) so_far.chosen

  module _ (b : Bor BackupRow) (lt : i < length lent) (at : b ≡ get_or lent i b)
      (so_far : IsSoFar lent now age count i finished s) where
    next : take (i + 1) (rows_of lent) ≡ take i (rows_of lent) ++ b.now ∷ []
    next = take_map lent_row lent i b lt at

    place : i < length (rows_of lent)
    place = omega (arith, length-map lent lent_row)

    row_at : b.now ≡ get_or (rows_of lent) i b.now
    row_at = ap lent_row at ∙ sym (get_or-map lent_row lent i b b.now lt)

    counted_next : length (filter is_finished (take (i + 1) (rows_of lent)))
        ≡ length (filter is_finished (take i (rows_of lent))) + cond (is_finished b.now) 1 0
    counted_next =
        length-filter_more is_finished (rows_of lent) i b.now place
        ∙ ap
        (λ r. length (filter is_finished (take i (rows_of lent))) + cond (is_finished r) 1 0)
        (sym row_at)

    pub counted_more : (more : ℕ) → more ≡ from_bool (is_finished b.now)
        → finished + more ≡ length (filter is_finished (take (i + 1) (rows_of lent)))
    counted_more more is =
        omega (arith, so_far.counted, counted_next, is, byte_is (is_finished b.now))

    module _ (order : IsSorted back_cmp (rows_of lent)) (apart : AreApart (rows_of lent)) where
      after_is_counted : finished ≡ finished_after (rows_of lent) b.now
      after_is_counted =
          so_far.counted
          ∙ sym (after_at (rows_of lent) i b.now place row_at (are_back (rows_of lent) order apart))

      pub next_more : (s' : BTreeSet (List ℕ)) → IsToGoWith now age count finished b.now
          → Updates name_cmp s s' b.now.name true
          → AreChosen (rows_of lent) now age count (take (i + 1) (rows_of lent)) s'
      next_more s' goes put =
          subst (λ l. AreChosen (rows_of lent) now age count l s') (sym next)
          (chosen_more (rows_of lent) now age count (take i (rows_of lent)) b.now s so_far.chosen s'
          (subst (λ after. IsToGoWith now age count after b.now) after_is_counted goes) put)

      pub next_same : (IsToGoWith now age count finished b.now → ⊥)
          → AreChosen (rows_of lent) now age count (take (i + 1) (rows_of lent)) s
      next_same stays =
          subst (λ l. AreChosen (rows_of lent) now age count l s) (sym next)
          (chosen_same (rows_of lent) now age count (take i (rows_of lent)) b.now s so_far.chosen
          (λ goes. stays
          (subst (λ after. IsToGoWith now age count after b.now) (sym after_is_counted) goes)))

-- ---- the names of the set

in_byte_order : (ns : List (List ℕ)) → IsStrictlySortedBy name_cmp ns → AreInByteOrder ns
unfolding IsStrictlySortedBy
in_byte_order [] ordered = tt
in_byte_order (n ∷ ns) ordered = (ordered.0, in_byte_order ns ordered.1)

module _ (rows sorted : List BackupRow) (now age count : ℕ) (s : BTreeSet (List ℕ))
    (same : IsPermutation rows sorted) where
  there : (row : BackupRow) → IsToGo rows now age count row → IsToGo sorted now age count row
  there row =
      subst (λ after. IsToGoWith now age count after row) (sym (after_moved rows sorted same row))

  back : (row : BackupRow) → IsToGo sorted now age count row → IsToGo rows now age count row
  back row =
      subst (λ after. IsToGoWith now age count after row) (after_moved rows sorted same row)

  pub rule_is : AreChosen sorted now age count sorted s → IsOrdered name_cmp s
      → IsRule rows now age count s.keys
  rule_is chosen ordered = record {
    order = in_byte_order s.keys ordered;
    goes = λ row has to_go.
        (btree_set_contains_iff nat_list_cmp_total exact_bytes s row.name).0
        (chosen.goes row (Contains-permutation rows sorted row same has) (there row to_go));
    only =
        all_with (λ n. contains name_cmp s n ≡ true)
        (λ n. (row : BackupRow) × Contains rows row × (row.name ≡ n) × IsToGo rows now age count row)
        (λ n has.
        let (row, has, named, goes) = chosen.only n has in (
          row,
          Contains-permutation sorted rows row (IsPermutation-sym rows sorted same) has,
          named,
          back row goes,
        ))
        s.keys
        (recursion_from_All (λ n. contains name_cmp s n ≡ true) s.keys
        (All-set_contains nat_list_cmp_total s));
  }
