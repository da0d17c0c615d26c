-- A list without repeats grows by an element at its end, unless it had it.
use Rattle.std.proofs.Common.{◌≡◌, ◌∙◌, ◌||◌, ◌<◌, ◌+◌, ℕ, Bool, true, false, cond, not, List, [], ◌∷◌, ◌++◌, length, take, get_or, add-one, refl, sym, ap}
use Rattle.std.specs.List.{list_any}
use Rattle.std.specs.Map.{keys_of}
use Rattle.std.specs.Cmp.{IsEquivalence, eq_by_cmp_equiv}
use Rattle.std.proofs.Math.Seq.{take-suc}
use Rattle.std.proofs.lemmas.List.{map-append}
use Rattle.std.proofs.lemmas.List.Elements.{filter-append}
use Rattle.med_base.specs.declared.key.FileKey.{FileKey}
use Rattle.med_base.specs.Key.{key_eq}
use Rattle.med_base.specs.KeyOrder.{key_total}
use Rattle.med_outside.specs.Snapshot.{key_of_raw}
use Rattle.med_mem.specs.declared.snapshot.MemFile.{MemFile}
use Rattle.med_mem.specs.Distinct.{without, distinct}
use Rattle.med_mem.specs.Snaps.{files_of, order_of}

none_either_way : {K : Type 0} (among : Bool) → cond {A = List K} among [] [] ≡ []
none_either_way true = refl
none_either_way false = refl

-- what is new of one element more, whether it is among those before or not
abbrev new_one : {K : Type 0} → (among : Bool) → K → List K
new_one among x = cond among [] (x ∷ [])

one_more_filtered : {K : Type 0} (among before test : Bool) (x : K) → before ≡ test
    → cond among [] (cond (not before) (x ∷ []) []) ≡ new_one (test || among) x
one_more_filtered among before true x e = ap (λ b. cond among [] (cond (not b) (x ∷ []) [])) e
    ∙ none_either_way among
one_more_filtered among before false x e = ap (λ b. cond among [] (cond (not b) (x ∷ []) [])) e

module _ {K : Type 0} (E : K → K → Bool) (laws : IsEquivalence E) where
  filtered : (among : Bool) (x y : K)
      → without E y (new_one among x) ≡ cond among [] (cond (not (E y x)) (x ∷ []) [])
  filtered true x y = refl
  filtered false x y = refl

  pub distinct_more : (xs : List K) (x : K)
      → distinct E (xs ++ x ∷ []) ≡ distinct E xs ++ new_one (list_any (E x) xs) x
  distinct_more [] x = refl
  distinct_more (y ∷ xs) x =
      let among = list_any (E x) xs in
      ap (λ l. y ∷ without E y l) (distinct_more xs x)
      ∙ ap (λ l. y ∷ l) (filter-append (λ z. not (E y z)) (distinct E xs) (new_one among x))
      ∙ ap (λ l. y ∷ (without E y (distinct E xs) ++ l))
      (filtered among x y ∙ one_more_filtered among (E y x) (E x y) x (laws.symm y x))

-- the keys of one file more, unless one before it has its key
pub keys_more : (files : List MemFile) (i : ℕ) (f : MemFile) (b : Bool)
    → i < length files → f ≡ get_or files i f
    → b ≡ list_any (key_eq (key_of_raw f.key)) (keys_of (files_of (take i files)))
    → order_of (files_of (take (i + 1) files))
    ≡ order_of (files_of (take i files)) ++ cond b [] (key_of_raw f.key ∷ [])
keys_more files i f b lt is test =
    let one = take-suc files i f lt ∙ ap (λ x. take i files ++ x ∷ []) (sym is) in
    let cut : take (i + 1) files ≡ take i files ++ f ∷ [] = rw add-one one in
    let keys : List FileKey = keys_of (files_of (take i files)) in
    ap (λ l. order_of (files_of l)) cut
    ∙ ap order_of (map-append _ (take i files) (f ∷ []))
    ∙ ap (distinct key_eq) (map-append _ (files_of (take i files)) (files_of (f ∷ [])))
    ∙ distinct_more key_eq (eq_by_cmp_equiv key_total) keys (key_of_raw f.key)
    ∙ ap (λ b. distinct key_eq keys ++ cond b [] (key_of_raw f.key ∷ [])) (sym test)
