-- What a content has at a path after a list of changes.
use Rattle.std.proofs.Common.{◌≡◌, Bool, true, false, cond, ◌||◌, List, [], ◌∷◌, ◌++◌, None, refl, ◌∙◌, ap, bytes_eq}
use Rattle.std.specs.List.{list_any}
use Rattle.std.specs.Cmp.Lexicographic.{nat_list_cmp_total}
use Rattle.std.proofs.Common.{◌≡◌, ◌≢◌, List, [], ◌∷◌, ◌++◌, None, refl, ◌∙◌, ap, bytes_eq}
use Rattle.std.specs.FinMap as fin
use Rattle.med_base.specs.Content.{Content}
use Rattle.med_base.specs.Effects.{Effect, Removes, applied, made}
use Rattle.med_manifest.proofs.ByKind.{Text}
use Rattle.med_manifest.proofs.Gets.{cmp_is, get_made_other, target}
use Rattle.med_manifest.specs.Listed.{removes}

pub applied_append : (xs ys : List Effect) (c : Content) → applied (xs ++ ys) c
    ≡ applied ys (applied xs c)
applied_append [] ys c = refl
applied_append (x ∷ xs) ys c = applied_append xs ys (made x c)

-- no change is at this path
abbrev pub AreElsewhere : Text → List Effect → Type 0
AreElsewhere q [] = Unit {0}
AreElsewhere q (x ∷ xs) = (q ≢ target x) × AreElsewhere q xs

pub get_elsewhere : (q : Text) (xs : List Effect) (c : Content) → AreElsewhere q xs
    → fin.get (applied xs c) q ≡ fin.get c q
get_elsewhere q [] c h = refl
get_elsewhere q (x ∷ xs) c h = get_elsewhere q xs (made x c) h.1 ∙ get_made_other x c q h.0

twice : {A : Type 0} (a b : Bool) (x y : A) → cond b x (cond a x y) ≡ cond (a || b) x y
twice true true x y = refl
twice true false x y = refl
twice false b x y = refl

pub deletes_get : (ps : List Text) (d : Content) (q : Text) → fin.get (applied (removes ps) d) q
    ≡ cond (list_any (bytes_eq q) ps) None (fin.get d q)
deletes_get [] d q = refl
deletes_get (p ∷ ps) d q = deletes_get ps (made (Removes p) d) q
    ∙ ap (cond (list_any (bytes_eq q) ps) None) (fin.get-remove nat_list_cmp_total d p q
    ∙ ap (λ b. cond b None (fin.get d q)) (cmp_is q p)) ∙ twice (bytes_eq q p)
    (list_any (bytes_eq q) ps) None (fin.get d q)
