-- What a content has under a path whose kind is none of the changes.
use Rattle.std.proofs.Common.{◌≡◌, ◌∙◌, ◌++◌, ℕ, List, [], ◌∷◌, refl, sym, subst}
use Rattle.std.specs.FinMap.{get}
use Rattle.std.specs.List.{AllByRecursion}
use Rattle.med_base.specs.Content.{Content}
use Rattle.med_base.specs.Effects.{Effect, applied, made}
use Rattle.med_manifest.proofs.Gets.{get_made_other, target}

-- each change is of a path of which this holds
abbrev pub AreAt : (List ℕ → Type 0) → List Effect → Type 0
AreAt P xs = AllByRecursion (λ (x : Effect). P (target x)) xs

-- a path of which it doesn't hold has what it had
pub untouched : (P : List ℕ → Type 0) (xs : List Effect) (c : Content) (q : List ℕ) → AreAt P xs
    → (P q → ⊥) → get (applied xs c) q ≡ get c q
untouched P [] c q all never = refl
untouched P (x ∷ xs) c q all never =
    untouched P xs (made x c) q all.1 never
    ∙ get_made_other x c q (λ is. never (subst P (sym is) all.0))

pub at_append : (P : List ℕ → Type 0) (xs ys : List Effect) → AreAt P xs → AreAt P ys
    → AreAt P (xs ++ ys)
at_append P [] ys a b = b
at_append P (x ∷ xs) ys a b = (a.0, at_append P xs ys a.1 b)

pub at_more : (P Q : List ℕ → Type 0) → ((q : List ℕ) → P q → Q q) → (xs : List Effect)
    → AreAt P xs → AreAt Q xs
at_more P Q so [] all = tt
at_more P Q so (x ∷ xs) all = (so (target x) all.0, at_more P Q so xs all.1)
