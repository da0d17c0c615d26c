-- The law of the order of every snapshot in memory: each key that has a file is listed once.
use Rattle.std.proofs.Common.{◌≡◌, ◌∙◌, ◌+◌, ℕ, Bool, true, false, cond, not, List, [], ◌∷◌, Option, Some, refl, sym, ap}
use Rattle.std.specs.Prelude.{is_some}
use Rattle.std.proofs.lemmas.List.Recursion.{is_count_by}
use Rattle.std.specs.Map.{keys_of}
use Rattle.std.specs.FinMap.{find, get-from_entries}
use Rattle.std.specs.Cmp.{IsEquivalence, eq_by_cmp_equiv}
use Rattle.med_base.specs.declared.key.FileKey.{FileKey}
use Rattle.med_base.specs.Key.{key_cmp, key_eq}
use Rattle.med_base.specs.KeyOrder.{key_total}
use Rattle.med_outside.specs.Snapshot.{IsListed}
use Rattle.med_mem.specs.Distinct.{without, distinct}
use Rattle.med_mem.specs.Snaps.{Parts, order_of, snapshot_with}

-- the test is an equivalence
key_laws : IsEquivalence key_eq
key_laws = eq_by_cmp_equiv key_total

-- how many pass a test, by recursion
abbrev count : {K : Type 0} → (K → Bool) → List K → ℕ
count test [] = 0
count test (x ∷ xs) = cond (test x) (1 + count test xs) (count test xs)

module _ {K : Type 0} (E : K → K → Bool) (laws : IsEquivalence E) where
  -- how often an element stands in a list
  abbrev times : K → List K → ℕ
  times q xs = count (E q) xs

  -- the rest of a list after an element, which the test holds the same as another or not
  abbrev rest_if : Bool → K → List K → List K
  rest_if is_same y others = cond (not is_same) (y ∷ others) others

  -- an element is nowhere among the others
  none_without : (q x : K) (xs : List K) → E q x ≡ true → times q (without E x xs) ≡ 0
  none_without q x [] e = refl
  none_without q x (y ∷ xs) e = go (E x y) refl (none_without q x xs e)
    where
      others : List K
      others = without E x xs

      go : (b : Bool) → E x y ≡ b → times q others ≡ 0 → times q (rest_if (E x y) y others) ≡ 0
      go true is rest = ap (λ b. times q (rest_if b y others)) is ∙ rest
      go false is rest =
          ap (λ b. times q (rest_if b y others)) is
          ∙ ap (λ b. cond b (1 + times q others) (times q others)) (laws.congr q x y e ∙ is)
          ∙ rest

  -- two that are not the same, and a third that is the same as the second
  unlike : (q x y : K) → E q x ≡ false → E x y ≡ true → E q y ≡ false
  unlike q x y e is = laws.symm q y ∙ sym (laws.congr x y q is) ∙ laws.symm x q ∙ e

  -- another is there as often as before
  same_without : (q x : K) (xs : List K) → E q x ≡ false → times q (without E x xs) ≡ times q xs
  same_without q x [] e = refl
  same_without q x (y ∷ xs) e = go (E x y) refl (same_without q x xs e)
    where
      others : List K
      others = without E x xs

      go : (b : Bool) → E x y ≡ b → times q others ≡ times q xs
          → times q (rest_if (E x y) y others) ≡ times q (y ∷ xs)
      go true is rest =
          ap (λ b. times q (rest_if b y others)) is
          ∙ rest
          ∙ ap (λ b. cond b (1 + times q xs) (times q xs)) (sym (unlike q x y e is))
      go false is rest =
          ap (λ b. times q (rest_if b y others)) is ∙ ap (λ n. cond (E q y) (1 + n) n) rest

-- once where there is a value, and else never
abbrev once_if : Option (List ℕ) → ℕ
once_if o = cond (is_some o) 1 0

-- each key that has an entry stands once
once : (es : List (FileKey × List ℕ)) (q : FileKey)
    → times key_eq key_laws q (distinct key_eq (keys_of es)) ≡ once_if (find key_cmp q es)
once [] q = refl
once (e ∷ es) q = go (key_eq q e.0) refl (once es q)
  where
    keys : List FileKey
    keys = distinct key_eq (keys_of es)

    others : ℕ
    others = times key_eq key_laws q (without key_eq e.0 keys)

    found : Bool → Option (List ℕ)
    found b = cond b (Some e.1) (find key_cmp q es)

    go : (b : Bool) → key_eq q e.0 ≡ b
        → times key_eq key_laws q keys ≡ once_if (find key_cmp q es)
        → cond (key_eq q e.0) (1 + others) others ≡ once_if (found (key_eq q e.0))
    go true is rest =
        ap (λ b. cond b (1 + others) others) is
        ∙ ap (λ n. 1 + n) (none_without key_eq key_laws q e.0 keys is)
        ∙ ap (λ b. once_if (found b)) (sym is)
    go false is rest =
        ap (λ b. cond b (1 + others) others) is
        ∙ same_without key_eq key_laws q e.0 keys is
        ∙ rest
        ∙ ap (λ b. once_if (found b)) (sym is)

-- the law
pub listed_once_of : (p : Parts) → IsListed (snapshot_with p)
listed_once_of p q =
    sym (is_count_by (count (key_eq q)) (key_eq q) refl (λ x xs. refl) (order_of p.files))
    ∙ once p.files q
    ∙ ap once_if (sym (get-from_entries key_total p.files q))
