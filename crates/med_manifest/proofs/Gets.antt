-- What a content has at a path after a change.
use Rattle.std.proofs.Common.{◌≡◌, ◌≢◌, ◌⊎◌, ◌==◌, arith, ℕ, Bool, true, false, Some, None, refl, ◌∙◌, subst, inl, inr, nat_cmp, bytes_eq}
use Rattle.std.specs.Cmp.{Equal-is, eq_by_cmp_equiv, both_ways}
use Rattle.std.specs.Ordering.{eq_by_cmp}
use Rattle.std.specs.Cmp.Lexicographic.{slice_cmp, nat_list_cmp_total}
use Rattle.std.specs.FinMap as fin
use Rattle.med_base.proofs.Bools.{bytes_same, same_bytes}
use Rattle.med_base.specs.Content.{Content}
use Rattle.med_base.specs.Effects.{Effect, Removes, Stores, made}
use Rattle.med_manifest.proofs.ByKind.{Text}

pub same_itself : (p : Text) → bytes_eq p p ≡ true
same_itself p = bytes_same p

pub from_same : (p q : Text) → bytes_eq p q ≡ true → p ≡ q
from_same p q e = same_bytes p q e

pub same_path : (p q : Text) → (p ≡ q) ⊎ (p ≢ q)
same_path p q = go (bytes_eq p q) refl
  where
    go : (b : Bool) → bytes_eq p q ≡ b → (p ≡ q) ⊎ (p ≢ q)
    go true e = inl (from_same p q e)
    go false e = inr (λ is. let t : bytes_eq p q ≡ true = subst (λ x. bytes_eq p x ≡ true) is
        (same_itself p) in cc)

-- the same of the test that a finite map makes
abbrev pub cmp_same : Text → Text → Bool
cmp_same p q = eq_by_cmp (slice_cmp nat_cmp) p q

pub cmp_itself : (p : Text) → cmp_same p p ≡ true
cmp_itself p = (eq_by_cmp_equiv nat_list_cmp_total).refl p

pub from_cmp : (p q : Text) → cmp_same p q ≡ true → p ≡ q
from_cmp p q e = fin.slice_cmp-IsAntisymmetric fin.nat_cmp-IsAntisymmetric p q
    ((Equal-is (slice_cmp nat_cmp p q)).0 e)

pub cmp_apart : (p q : Text) → (p ≢ q) → cmp_same p q ≡ false
cmp_apart p q n = go (cmp_same p q) refl
  where
    go : (b : Bool) → cmp_same p q ≡ b → b ≡ false
    go true e = absurd (n (from_cmp p q e))
    go false e = refl

pub cmp_is : (p q : Text) → cmp_same p q ≡ bytes_eq p q
cmp_is p q = both_ways (cmp_same p q) (bytes_eq p q)
    (λ e. subst (λ x. bytes_eq p x ≡ true) (from_cmp p q e) (same_itself p))
    (λ e. subst (λ x. cmp_same p x ≡ true) (from_same p q e) (cmp_itself p))

pub equal_is : (a b : ℕ) → (a == b) ≡ true → a ≡ b
equal_is a b h = grind (arith, h)

pub get_put_same : (c : Content) (p b : Text) (s : ℕ) → fin.get (made (Stores p b s) c) p
    ≡ Some (record { bytes = b; second = s })
get_put_same c p b s = fin.get-insert nat_list_cmp_total c p _ p ∙ rw (cmp_itself p)

pub get_put_other : (c : Content) (p b : Text) (s : ℕ) (q : Text) → (q ≢ p)
    → fin.get (made (Stores p b s) c) q ≡ fin.get c q
get_put_other c p b s q n = fin.get-insert nat_list_cmp_total c p _ q ∙ rw (cmp_apart q p n)

pub get_delete_same : (c : Content) (p : Text) → fin.get (made (Removes p) c) p ≡ None
get_delete_same c p = fin.get-remove nat_list_cmp_total c p p ∙ rw (cmp_itself p)

pub get_delete_other : (c : Content) (p q : Text) → (q ≢ p) → fin.get (made (Removes p) c) q
    ≡ fin.get c q
get_delete_other c p q n = fin.get-remove nat_list_cmp_total c p q ∙ rw (cmp_apart q p n)

-- the path of a change
abbrev pub target : Effect → Text
target (Stores p b s) = p
target (Removes p) = p

pub get_made_other : (x : Effect) (c : Content) (q : Text) → (q ≢ target x) → fin.get (made x c) q
    ≡ fin.get c q
get_made_other (Stores p b s) c q n = get_put_other c p b s q n
get_made_other (Removes p) c q n = get_delete_other c p q n
