-- What a test finds among the running names and the records, and which names are left without one.
use Rattle.std.proofs.Common.{◌≡◌, ◌∙◌, ◌↔◌, ◌<◌, ◌&&◌, ◌||◌, zero, suc, ℕ, Bool, true, false, not, List, [], ◌∷◌, length, map, filter, cond, slice_index_or, Contains, MatchBool, refl, sym, ap, bytes_eq, arith}
use Rattle.std.proofs.lemmas.List.{length-map}
use Rattle.std.specs.Cmp.{both_ways, eq_by_cmp_equiv}
use Rattle.std.specs.List.{AllWithin, HoldsAt, list_any}
use Rattle.med_base.specs.declared.key.FileKey.{FileKey}
use Rattle.med_base.specs.Key.{key_eq}
use Rattle.med_base.specs.KeyOrder.{key_total}
use Rattle.med_base.specs.NameOrder.{name_eq}
use Rattle.med_base.proofs.Bools.{bytes_same, not_both}
use Rattle.med_core.specs.declared.records.Record.{Record}
use Rattle.med_core.specs.Run.{without}
use Rattle.med_manifest.proofs.Gets.{cmp_is, cmp_itself, from_cmp}
use Rattle.med_manifest.proofs.RecordLemmas.{same_key}
use Rattle.med_shelf.specs.Records.{keys_of}

-- an item of a list that a test finds, and the test of each item
module _ {X Y : Type 0} (f : X → Y) (y : Y) (test : X → Bool)
    (from : (x : X) → test x ≡ true → f x ≡ y) (to : (x : X) → f x ≡ y → test x ≡ true) where
  in_front : (x : X) (xs : List X) → f x ≡ y → Contains (map f (x ∷ xs)) y
  in_front x xs is = (0, omega arith, is)

  further : (x : X) (xs : List X) → Contains (map f xs) y → Contains (map f (x ∷ xs)) y
  further x xs (i, less, is) = (suc i, omega (arith, less), is)

  is_there : (xs : List X) → list_any test xs ≡ true → Contains (map f xs) y
  is_there [] any = absurd (cc any)
  is_there (x ∷ xs) any = go (test x) refl any (is_there xs)
    where
      go : (b : Bool) → test x ≡ b → (b || list_any test xs) ≡ true
          → (list_any test xs ≡ true → Contains (map f xs) y) → Contains (map f (x ∷ xs)) y
      go true e any rest = in_front x xs (from x e)
      go false e any rest = further x xs (rest any)

  is_found : (xs : List X) → Contains (map f xs) y → list_any test xs ≡ true
  is_found [] (i, less, is) = absurd (omega (arith, less))
  is_found (x ∷ xs) (zero, less, is) = ap (λ b. b || list_any test xs) (to x is)
  is_found (x ∷ xs) (suc i, less, is) =
      go (test x) (is_found xs (i, omega (arith, less), is))
    where
      go : (b : Bool) → list_any test xs ≡ true → (b || list_any test xs) ≡ true
      go true e = refl
      go false e = e

  pub found_iff : (xs : List X) (b : Bool) → b ≡ list_any test xs
      → (b ≡ true) ↔ Contains (map f xs) y
  found_iff xs b is =
      (λ yes. is_there xs (sym is ∙ yes), λ there. is ∙ is_found xs there)

  at_index : (xs : List X) (k : ℕ) → k < length xs → ((d : X) → f (slice_index_or xs k d) ≡ y)
      → slice_index_or (map f xs) k y ≡ y
  at_index [] k less h = absurd (omega (arith, less))
  at_index (x ∷ xs) zero less h = h x
  at_index (x ∷ xs) (suc k) less h = at_index xs k (omega (arith, less)) h

  not_there : (xs : List X) (k : ℕ) → k < length (map f xs) → slice_index_or (map f xs) k y ≡ y
      → ((d : X) → test (slice_index_or xs k d) ≡ false) → ⊥
  not_there [] k less is none = absurd (omega (arith, less))
  not_there (x ∷ xs) zero less is none = not_both (test x) (none x) (to x is)
  not_there (x ∷ xs) (suc k) less is none = not_there xs k (omega (arith, less)) is none

  -- the same, by what `any` finds
  pub any_iff : (xs : List X) (b : Bool)
      → MatchBool b ((k : ℕ) × (k < length xs) × HoldsAt (λ x. test x ≡ true) xs k)
      (AllWithin (λ x. test x ≡ false) xs 0 (length xs))
      → (b ≡ true) ↔ Contains (map f xs) y
  any_iff xs true (k, less, holds) = (
    λ yes. (
      k,
      omega (arith, less, length-map xs f),
      at_index xs k less (λ d. from (slice_index_or xs k d) (holds d)),
    ),
    λ there. refl,
  )
  any_iff xs false none = (
    λ no. absurd (cc no),
    λ there. absurd (not_there xs there.0 there.1 there.2
        (λ d. none there.0 d (omega arith) (omega (arith, there.1, length-map xs f)))),
  )

-- two names are told apart whichever comes first
swapped : (a b : List ℕ) → name_eq a b ≡ name_eq b a
swapped a b =
    both_ways (name_eq a b) (name_eq b a)
    (λ e. ap (λ c. name_eq c a) (sym (from_cmp a b e)) ∙ cmp_itself a)
    (λ e. ap (λ c. name_eq c b) (sym (from_cmp b a e)) ∙ cmp_itself b)

module _ (node name : List ℕ) where
  -- a name is running exactly where the list of names has it
  pub runs_iff : (names : List (List ℕ)) (b : Bool) → b ≡ list_any (λ n. name_eq n name) names
      → (b ≡ true) ↔ Contains {X = List ℕ × List ℕ} (map (λ n. (node, n)) names) (node, name)
  runs_iff =
      found_iff (λ n. (node, n)) (node, name) (λ n. name_eq n name)
      (λ n e. ap (λ m. (node, m)) (from_cmp n name e))
      (λ n e. ap (λ m. name_eq m name) (ap (λ (p : List ℕ × List ℕ). p.1) e) ∙ cmp_itself name)

  kept : (m : List ℕ) → not (bytes_eq node node && bytes_eq name m) ≡ not (name_eq m name)
  kept m =
      ap (λ b. not (b && bytes_eq name m)) (bytes_same node)
      ∙ ap not (sym (cmp_is name m) ∙ swapped name m)

  pub left : (names : List (List ℕ))
      → map (λ n. (node, n)) (filter (λ m. not (name_eq m name)) names)
      ≡ without (node, name) (map (λ n. (node, n)) names)
  left [] = refl
  left (m ∷ names) = go (not (name_eq m name)) refl (left names)
    where
      go : (b : Bool) → not (name_eq m name) ≡ b
          → map (λ n. (node, n)) (filter (λ m. not (name_eq m name)) names)
          ≡ without (node, name) (map (λ n. (node, n)) names)
          → map (λ n. (node, n)) (cond b (m ∷ filter (λ m. not (name_eq m name)) names)
          (filter (λ m. not (name_eq m name)) names))
          ≡ cond (not (bytes_eq node node && bytes_eq name m))
          ((node, m) ∷ without (node, name) (map (λ n. (node, n)) names))
          (without (node, name) (map (λ n. (node, n)) names))
      go true e rest = rw (kept m, e) (ap (λ l. (node, m) ∷ l) rest)
      go false e rest = rw (kept m, e) rest

-- a record has the key
pub has_iff : (key : FileKey) (rs : List Record) (b : Bool)
    → MatchBool b
    ((k : ℕ) × (k < length rs) × HoldsAt (λ (r : Record). key_eq r.file.key key ≡ true) rs k)
    (AllWithin (λ (r : Record). key_eq r.file.key key ≡ false) rs 0 (length rs))
    → (b ≡ true) ↔ Contains (keys_of rs) key
has_iff key =
    any_iff (λ (r : Record). r.file.key) key (λ (r : Record). key_eq r.file.key key)
    (λ r e. same_key r.file.key key e)
    (λ r e. ap (λ k. key_eq k key) e ∙ (eq_by_cmp_equiv key_total).refl key)
