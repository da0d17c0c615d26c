-- A list cut at the first element that passes, and one list cut at two places.
use Rattle.std.proofs.Common.{◌≡◌, ◌∙◌, ◌≤◌, ◌+◌, ℕ, Bool, refl, ap, sym, arith, List, [], ◌∷◌, length, take, drop, Some, None, nat_lt, ltb-true, lt-ltb, inl, inr, ◌++◌, ◌⊎◌, subst}
use Rattle.std.specs.List.{position, position_or_len, slice_split, AllByRecursion}
use Rattle.std.proofs.lemmas.List.Splits.{slice_split_first, slice_split_none}
use Rattle.std.proofs.lemmas.List.Sums.{fails_before_first}
use Rattle.std.proofs.lemmas.Bool.{cases_lt}
use Rattle.std.proofs.lemmas.Option.{cond_some}
use Rattle.med_base.proofs.Options.{cond_none}
use Rattle.med_base.proofs.Lists.{all_split}

pub cut_some : (p : ℕ → Bool) (xs : List ℕ) (at : ℕ) → position p xs ≡ Some at
    → slice_split p xs ≡ take at xs ∷ slice_split p (drop (at + 1) xs)
cut_some p xs at e =
    let f = cond_some (nat_lt (position_or_len p xs) (length xs)) (position_or_len p xs) at e in
    slice_split_first p xs 0 (ltb-true _ _ f.0)
    ∙ ap (λ (k : ℕ). take k xs ∷ slice_split p (drop (k + 1) xs)) f.1

past_end : (p : ℕ → Bool) (xs : List ℕ) → position p xs ≡ None → length xs ≤ position_or_len p xs
past_end p xs e = elim (cases_lt (position_or_len p xs) (length xs)) [
  | inl inside ↦
      absurd (cc (sym (cond_none _ _ e) ∙ lt-ltb (position_or_len p xs) (length xs) inside))
  | inr past ↦ past
]

pub cut_none : (p : ℕ → Bool) (xs : List ℕ) → position p xs ≡ None → slice_split p xs ≡ xs ∷ []
cut_none p xs e =
    let past = past_end p xs e in
    slice_split_none p xs (λ k d lt. fails_before_first p xs k d (omega arith))

-- ---- one list, cut at two places

module _ {A : Type 0} where
  abbrev pub Cuts : List A → A → List A → A → Type 0
  Cuts b x c y =
      ((b ≡ c) × (x ≡ y)) ⊎ (((m : List A) × (c ≡ b ++ x ∷ m)) ⊎ ((m : List A) × (b ≡ c ++ y ∷ m)))

  cuts_more : (g h : A) (b : List A) (x : A) (c : List A) (y : A) → g ≡ h → Cuts b x c y
      → Cuts (g ∷ b) x (h ∷ c) y
  cuts_more g h b x c y e (inl is) = inl ((λ i. e i ∷ is.0 i), is.1)
  cuts_more g h b x c y e (inr (inl (m, is))) = inr (inl (m, λ i. sym e i ∷ is i))
  cuts_more g h b x c y e (inr (inr (m, is))) = inr (inr (m, λ i. e i ∷ is i))

  pub two_cuts : (b : List A) (x : A) (r : List A) (c : List A) (y : A) (s : List A)
      → b ++ x ∷ r ≡ c ++ y ∷ s → Cuts b x c y
  two_cuts [] x r [] y s e = inl (refl, cc e)
  two_cuts [] x r (h ∷ c) y s e = let is : h ≡ x = cc e in inr (inl (c, λ i. is i ∷ c))
  two_cuts (g ∷ b) x r [] y s e = let is : g ≡ y = cc e in inr (inr (b, λ i. is i ∷ b))
  two_cuts (g ∷ b) x r (h ∷ c) y s e =
      let first : g ≡ h = cc e in
      let rest : b ++ x ∷ r ≡ c ++ y ∷ s = cc e in
      cuts_more g h b x c y first (two_cuts b x r c y s rest)

  -- the first element that something doesn't hold of is one
  pub first_failing_once : (P : A → Type 0) (b : List A) (x : A) (r : List A) (c : List A) (y : A)
      (s : List A) → b ++ x ∷ r ≡ c ++ y ∷ s → AllByRecursion P b → AllByRecursion P c
      → (P x → ⊥) → (P y → ⊥) → (b ≡ c) × (x ≡ y)
  first_failing_once P b x r c y s e p q no_x no_y = go (two_cuts b x r c y s e)
    where
      go : Cuts b x c y → (b ≡ c) × (x ≡ y)
      go (inl same) = same
      go (inr (inl (m, is))) =
          absurd (no_x (all_split P b (x ∷ m) (subst (AllByRecursion P) is q)).1.0)
      go (inr (inr (m, is))) =
          absurd (no_y (all_split P c (y ∷ m) (subst (AllByRecursion P) is p)).1.0)
