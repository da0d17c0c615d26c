-- The newest finished backup of those that were found.
use Rattle.std.proofs.Common.{◌≡◌, ◌∙◌, inl, inr, ℕ, Bool, true, false, cond, List, [], ◌∷◌, ◌++◌, Option, Some, None, Contains, refl, sym, ap, subst}
use Rattle.std.proofs.lemmas.Cmp.{on_total, then_total, tied_itself, upto}
use Rattle.std.proofs.lemmas.List.Elements.{All-contains, All-from_recursion, Contains-append_left, Contains-push}
use Rattle.std.proofs.lemmas.Map.Lookups.{exact_bytes, exact_unsigned}
use Rattle.std.proofs.lemmas.Map.Views.{btree_map_get_iff}
use Rattle.std.proofs.lemmas.Option.{same_Some}
use Rattle.std.specs.BTreeSet.{BTreeSet, contains}
use Rattle.std.specs.BTreeMap.{BTreeMap, IsOrdered, get as lookup}
use Rattle.std.specs.Cmp.{IsTotalOrder, nat_cmp_total}
use Rattle.std.specs.Cmp.Lexicographic.{nat_list_cmp_total}
use Rattle.std.specs.List.{AllByRecursion}
use Rattle.std.specs.Ordering.{is_gt, nat_cmp, on, ordering_reverse, ordering_then, then_cmp}
use Rattle.std.specs.declared.cmp.Ordering.{Ordering}
use Rattle.std.specs.declared.cmp.Ordering.TheVariants.{Less, Equal, Greater}
use Rattle.med_base.proofs.Lists.{all_push, all_with}
use Rattle.med_base.specs.declared.layout.MetaKind.TheVariants.{Manifest}
use Rattle.med_base.specs.NameOrder.{name_cmp}
use Rattle.med_manifest.proofs.Members.{contains_first, contains_nothing}
use Rattle.med_manifest.specs.Mend.{is_later, later_of, latest_of}
use Rattle.med_index.specs.declared.marks.Marks.{Marks}
use Rattle.med_index.specs.Planned.{IsFinishedOutside, IsNewestFound, outside, with_found}
use Rattle.med_index.specs.Visits.{found_second}

-- ---- the order of finished backups

-- a second and the name of a backup
abbrev pub Finish : Type 0
Finish = ℕ × List ℕ

abbrev finish_cmp : Finish → Finish → Ordering
finish_cmp = then_cmp (on (λ (a : Finish). a.0) nat_cmp) (on (λ (a : Finish). a.1) name_cmp)

finish_total : IsTotalOrder finish_cmp
finish_total =
    then_total (on_total (λ (a : Finish). a.0) nat_cmp_total)
    (on_total (λ (a : Finish). a.1) nat_list_cmp_total)

not_itself : (a : Finish) → is_later a a ≡ false
not_itself a = ap is_gt (tied_itself finish_total a)

not_back : (a b : Finish) → is_later b a ≡ true → is_later a b ≡ false
not_back a b later = go (finish_cmp b a) refl later
  where
    go : (o : Ordering) → finish_cmp b a ≡ o → is_gt o ≡ true → is_later a b ≡ false
    go Less e is = absurd (cc)
    go Equal e is = absurd (cc)
    go Greater e is = ap is_gt (finish_total.antisymm a b ∙ ap ordering_reverse e)

both_equal : (a b : Ordering) → ordering_then a b ≡ Equal → (a ≡ Equal) × (b ≡ Equal)
both_equal Less b e = absurd (cc)
both_equal Equal b e = (refl, e)
both_equal Greater b e = absurd (cc)

same_number : (a b : ℕ) → nat_cmp a b ≡ Equal → a ≡ b
same_number a b e = exact_unsigned a b e

-- neither is later than the other, so they are the same
both_same : (a b : Finish) → is_later a b ≡ false → is_later b a ≡ false → a ≡ b
both_same a b isnt none = go (finish_cmp a b) refl isnt
  where
    go : (o : Ordering) → finish_cmp a b ≡ o → is_gt o ≡ false → a ≡ b
    go Less e is =
        absurd
        (let back : is_later b a ≡ true =
        ap is_gt (finish_total.antisymm b a ∙ ap ordering_reverse e) in
        cc (back, none))
    go Equal e is =
        let parts = both_equal (nat_cmp a.0 b.0) (name_cmp a.1 b.1) e in
        let second = same_number a.0 b.0 parts.0 in
        let name = exact_bytes a.1 b.1 parts.1 in
        λ i. (second i, name i)
    go Greater e is = absurd (cc)

-- ---- the newest of those that were found

module _ (but : BTreeSet (List ℕ)) where
  -- the second of an entry whose name isn't one of these
  abbrev pub second_of : List ℕ × Marks → Option ℕ
  second_of e = outside but e.0 e.1.manifest

  -- a backup that was found isn't later than this one, or isn't finished where there is none
  abbrev pub IsNoLater : Option Finish → List ℕ × Marks → Type 0
  IsNoLater None e = second_of e ≡ None
  IsNoLater (Some b) e =
      (second : ℕ) → second_of e ≡ Some second → is_later (second, e.0) b ≡ false

  -- it is one of these
  abbrev pub IsAmong : List (List ℕ × Marks) → Option Finish → Type 0
  IsAmong es None = Unit {0}
  IsAmong es (Some b) = (m : Marks) × Contains es (b.1, m) × (second_of (b.1, m) ≡ Some b.0)

  -- the newest finished backup of these
  pub record IsNewestOf (es : List (List ℕ × Marks)) (newest : Option Finish) : Type 0 where
    pub among : IsAmong es newest
    pub last : AllByRecursion (IsNoLater newest) es

  among_more : (es : List (List ℕ × Marks)) (newest : Option Finish) (e : List ℕ × Marks)
      → IsAmong es newest → IsAmong (es ++ e ∷ []) newest
  among_more es None e among = tt
  among_more es (Some b) e (m, has, is) =
      (m, Contains-append_left es (e ∷ []) (b.1, m) has, is)

  unfinished_no_later : (newest : Option Finish) (e : List ℕ × Marks) → second_of e ≡ None
      → IsNoLater newest e
  unfinished_no_later None e none = none
  unfinished_no_later (Some b) e none = λ second is. absurd (cc (none, is))

  module _ (es : List (List ℕ × Marks)) (n : List ℕ) (m : Marks) where
    -- where this one is the newest so far
    newest_here : (second : ℕ) → second_of (n, m) ≡ Some second
        → AllByRecursion (IsNoLater (Some (second, n))) es
        → IsNewestOf (es ++ (n, m) ∷ []) (Some (second, n))
    newest_here second is all = record {
      among = (m, Contains-push es (n, m), is);
      last = all_push (IsNoLater (Some (second, n))) es (n, m) all
          (λ other same.
          let e = same_Some other second (sym same ∙ is) in
          subst (λ s. is_later (s, n) (second, n) ≡ false) (sym e) (not_itself (second, n)));
    }

    -- where one before is at least as new
    newest_still : (b : Finish) (second : ℕ) → second_of (n, m) ≡ Some second
        → is_later (second, n) b ≡ false → IsNewestOf es (Some b)
        → IsNewestOf (es ++ (n, m) ∷ []) (Some b)
    newest_still b second is isnt old = record {
      among = among_more es (Some b) (n, m) old.among;
      last = all_push (IsNoLater (Some b)) es (n, m) old.last
          (λ other same.
          let e = same_Some other second (sym same ∙ is) in
          subst (λ s. is_later (s, n) b ≡ false) (sym e) isnt);
    }

    newest_next : (newest : Option Finish) (second : ℕ) → second_of (n, m) ≡ Some second
        → IsNewestOf es newest
        → IsNewestOf (es ++ (n, m) ∷ []) (Some (later_of (second, n) newest))
    newest_next None second is old =
        newest_here second is
        (all_with (IsNoLater None) (IsNoLater (Some (second, n)))
        (λ e none. unfinished_no_later (Some (second, n)) e none) es old.last)
    newest_next (Some b) second is old = go (is_later b (second, n)) refl
      where
        go : (t : Bool) → is_later b (second, n) ≡ t
            → IsNewestOf (es ++ (n, m) ∷ []) (Some (cond t b (second, n)))
        go true later = newest_still b second is (not_back (second, n) b later) old
        go false later =
            newest_here second is
            (all_with (IsNoLater (Some b)) (IsNoLater (Some (second, n)))
            (λ e isnt s finished.
            upto finish_total (s, e.0) b (second, n) (isnt s finished) later) es old.last)

    -- with one more that was found
    pub newest_more : (newest : Option Finish) → IsNewestOf es newest
        → IsNewestOf (es ++ (n, m) ∷ []) (with_found newest n (outside but n m.manifest))
    newest_more newest old = go (second_of (n, m)) refl
      where
        go : (o : Option ℕ) → second_of (n, m) ≡ o
            → IsNewestOf (es ++ (n, m) ∷ []) (with_found newest n o)
        go None is = record {
          among = among_more es newest (n, m) old.among;
          last = all_push (IsNoLater newest) es (n, m) old.last
              (unfinished_no_later newest (n, m) is);
        }
        go (Some second) is = newest_next newest second is old

-- ---- by look-ups

-- what was found of a backup that has a second
marks_found : (o : Option Marks) (second : ℕ) → found_second Manifest o ≡ Some second
    → (m : Marks) × (o ≡ Some m) × (m.manifest ≡ Some second)
marks_found None second is = absurd (cc)
marks_found (Some m) second is = (m, refl, is)

-- a second outside is that of the entry, whose name isn't one of these
pub is_outside : (but : BTreeSet (List ℕ)) (n : List ℕ) (second : Option ℕ) (s : ℕ) (t : Bool)
    → contains name_cmp but n ≡ t → cond t None second ≡ Some s
    → (contains name_cmp but n ≡ false) × (second ≡ Some s)
is_outside but n second s true e is = absurd (cc)
is_outside but n second s false e is = (e, is)

module _ (found : BTreeMap (List ℕ) Marks) (but : BTreeSet (List ℕ))
    (ordered : IsOrdered name_cmp found) where
  -- an entry of the map that is finished, and whose name isn't one of these
  entry_found : (a : Finish) → IsFinishedOutside found but a
      → (m : Marks) × Contains found.entries (a.1, m) × (second_of but (a.1, m) ≡ Some a.0)
  entry_found a (isnt, is) =
      let (m, there, finished) = marks_found (lookup name_cmp found a.1) a.0 is in (
        m,
        (btree_map_get_iff nat_list_cmp_total exact_bytes found ordered a.1 m).0 there,
        ap (λ t. cond t None m.manifest) isnt ∙ finished,
      )

  at_entry : (P : List ℕ × Marks → Type 0) → AllByRecursion P found.entries
      → (e : List ℕ × Marks) → Contains found.entries e → P e
  at_entry P all e has =
      All-contains P found.entries e (All-from_recursion P found.entries all) has

  pub newest_found_is : (newest : Option Finish) → IsNewestOf but found.entries newest
      → IsNewestFound found but newest
  newest_found_is None is = λ a finished.
      let (m, has, stands) = entry_found a finished in
      let none = at_entry (IsNoLater but None) is.last (a.1, m) has in
      absurd (cc (none, stands))
  newest_found_is (Some b) is = (
    let (m, has, stands) = is.among in
        let (isnt, second) = is_outside but b.1 m.manifest b.0 (contains name_cmp but b.1) refl stands
        in (
          isnt,
          ap (found_second Manifest)
              ((btree_map_get_iff nat_list_cmp_total exact_bytes found ordered b.1 m).1 has)
              ∙ second,
        ),
    λ a finished.
        let (m, has, stands) = entry_found a finished in
        at_entry (IsNoLater but (Some b)) is.last (a.1, m) has a.0 stands,
  )

-- ---- the last of a list

-- the best of a list is one of it
best_is : (P : Finish → Type 0) (xs : List Finish) → AllByRecursion P xs → (y : Finish)
    → latest_of xs ≡ Some y → P y
best_is P [] all y is = absurd (cc)
best_is P (x ∷ xs) all y is =
    go (λ z e. best_is P xs all.1 z e) (latest_of xs) refl
    (same_Some (later_of x (latest_of xs)) y is)
  where
    by : (t : Bool) (z : Finish) → P z → P (cond t z x)
    by true z p = p
    by false z p = all.0

    go : ((z : Finish) → latest_of xs ≡ Some z → P z) → (o : Option Finish) → latest_of xs ≡ o
        → later_of x o ≡ y → P y
    go more None e same = subst P same all.0
    go more (Some z) e same = subst P same (by (is_later z x) z (more z e))

-- what is of the list, and later than which none is, is the last
pub last_is : (xs : List Finish) (b : Finish) → Contains xs b
    → AllByRecursion (λ a. is_later a b ≡ false) xs → latest_of xs ≡ Some b
last_is [] b has all = absurd (contains_nothing b has)
last_is (x ∷ xs) b has all = elim (contains_first x b xs has) [
  | inl same ↦ first same (latest_of xs) refl
  | inr more ↦
      ap (λ o. Some (later_of x o)) (last_is xs b more all.1)
      ∙ ap Some (ahead (is_later b x) refl)
]
  where
    ahead : (t : Bool) → is_later b x ≡ t → cond t b x ≡ b
    ahead true e = refl
    ahead false e = both_same x b all.0 e

    behind : (z : Finish) → x ≡ b → is_later z b ≡ false → (t : Bool) → is_later z x ≡ t
        → cond t z x ≡ b
    behind z same isnt true e =
        absurd
        (let is = ap (is_later z) same in cc (is, isnt, e))
    behind z same isnt false e = same

    first : x ≡ b → (o : Option Finish) → latest_of xs ≡ o → Some (later_of x o) ≡ Some b
    first same None e = ap Some same
    first same (Some z) e =
        ap Some
        (behind z same (best_is (λ a. is_later a b ≡ false) xs all.1 z e) (is_later z x) refl)

pub last_of_none : (xs : List Finish) → AllByRecursion (λ a. ⊥) xs → latest_of xs ≡ None
last_of_none [] all = refl
last_of_none (x ∷ xs) all = absurd all.0
