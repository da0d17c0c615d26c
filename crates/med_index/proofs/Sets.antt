-- Names that are put into a set, one by one.
use Rattle.std.proofs.Common.{refl, ◌≡◌, ◌∙◌, inl, inr, ℕ, Bool, true, false, List, [], ◌∷◌, ◌++◌, Contains, IsTrue, sym, subst}
use Rattle.std.proofs.lemmas.List.Elements.{Contains-append_left, Contains-push, Contains-push_cases}
use Rattle.std.proofs.lemmas.Map.Lookups.{exact_bytes}
use Rattle.std.specs.BTreeMap.{is_at}
use Rattle.std.specs.BTreeSet.{BTreeSet, Updates, contains}
use Rattle.med_base.specs.NameOrder.{name_cmp}
use Rattle.med_index.specs.Marks.{IsSetOf}
use Rattle.med_index.proofs.Finding.{equal_of}

module _ (names : List (List ℕ)) (x : List ℕ) (s s' : BTreeSet (List ℕ)) (old : IsSetOf names s)
    (updates : Updates name_cmp s s' x true) where
  there : (n : List ℕ) → IsTrue (contains name_cmp s' n) → Contains (names ++ x ∷ []) n
  there n has = go (is_at (name_cmp x) n) refl
    where
      go : (b : Bool) → is_at (name_cmp x) n ≡ b → Contains (names ++ x ∷ []) n
      go true e =
          subst (Contains (names ++ x ∷ [])) (exact_bytes x n (equal_of (name_cmp x n) e))
          (Contains-push names x)
      go false e =
          Contains-append_left names (x ∷ []) n ((old n).0 (sym (updates.2 n e) ∙ has))

  here : (n : List ℕ) → x ≡ n → IsTrue (contains name_cmp s' n)
  here n same = subst (λ (q : List ℕ). IsTrue (contains name_cmp s' q)) same updates.1

  still : (n : List ℕ) → Contains names n → IsTrue (contains name_cmp s' n)
  still n was = go (is_at (name_cmp x) n) refl
    where
      go : (b : Bool) → is_at (name_cmp x) n ≡ b → IsTrue (contains name_cmp s' n)
      go true e = here n (exact_bytes x n (equal_of (name_cmp x n) e))
      go false e = updates.2 n e ∙ (old n).1 was

  pub set_more : IsSetOf (names ++ x ∷ []) s'
  set_more n = (
    there n,
    λ has. elim (Contains-push_cases names x n has) [
      | inl was ↦ still n was
      | inr same ↦ here n same
    ],
  )
