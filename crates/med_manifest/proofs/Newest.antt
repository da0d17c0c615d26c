-- The newest finished backup, and where a mend changes nothing.
use Rattle.std.proofs.Common.{◌≡◌, ◌≢◌, ◌⊎◌, ℕ, Bool, true, false, cond, not, ◌&&◌, List, [], ◌∷◌, ◌++◌, map, Some, None, Option, refl, sym, ◌∙◌, ap, subst, inl, inr, Contains, bytes_eq}
use Rattle.std.specs.List.{AllByRecursion, list_any}
use Rattle.std.specs.FinMap as fin
use Rattle.med_base.specs.declared.layout.MetaKind.TheVariants as meta_kind
use Rattle.med_base.specs.declared.kinds.LatestKind.TheVariants as latest_kind
use Rattle.med_base.specs.Classify.{kind_of}
use Rattle.med_base.specs.Content.{Content, Object}
use Rattle.med_base.specs.Effects.{Removes, Stores}
use Rattle.med_base.specs.Kinds.{Kind, Latest, Meta}
use Rattle.med_manifest.proofs.ByKind.{FinishedByKind, HasPath, NodeByKind, Text, at, manifest, manifest_path}
use Rattle.med_manifest.proofs.Elsewhere.{AreElsewhere}
use Rattle.med_manifest.proofs.Gets.{from_same}
use Rattle.med_manifest.proofs.Members.{IsListed, all_listed, any_same}
use Rattle.med_manifest.specs.Listed.{remove_if_stands}
use Rattle.med_manifest.specs.Mend.{changes_of_mend, finished_at, has_bytes, is_later, is_manifest_outside, later_of, latest_of, mend_to, mend_tokenmap, name_in, newest}

pub and_first : (a b : Bool) → (a && b) ≡ true → a ≡ true
and_first true b e = refl
and_first false b e = e

pub and_second : (a b : Bool) → (a && b) ≡ true → b ≡ true
and_second true b e = e
and_second false b e = absurd (cc)

pub not_true : (b : Bool) → not b ≡ true → b ≡ false
not_true true e = absurd (cc)
not_true false e = refl

-- the best of a list is one of it
abbrev pub IsAllOf : (ℕ × Text → Type 0) → Option (ℕ × Text) → Type 0
IsAllOf P None = Unit {0}
IsAllOf P (Some a) = P a

better_is : (P : ℕ × Text → Type 0) (a : ℕ × Text) (b : Option (ℕ × Text)) → P a → IsAllOf P b
    → P (later_of a b)
better_is P a None h k = h
better_is P a (Some b) h k = go (is_later b a)
  where
    go : (x : Bool) → P (cond x b a)
    go true = k
    go false = h

best_is : (P : ℕ × Text → Type 0) (xs : List (ℕ × Text)) → AllByRecursion P xs
    → IsAllOf P (latest_of xs)
best_is P [] h = tt
best_is P (a ∷ rest) h = better_is P a (latest_of rest) h.0 (best_is P rest h.1)

-- a finished backup of f outside these names
abbrev pub IsOutside : Text → Content → Text → List Text → ℕ × Text → Type 0
IsOutside before c f names a = FinishedByKind before c f a.1 × (¬ (Contains names a.1))

module _ (before : Text) where
  outside : (c : Content) (f : Text) (names : List Text) (p : Text) (k : Kind) → kind_of before p
      ≡ k → is_manifest_outside f names k ≡ true → (o : Object) → fin.get c p ≡ Some o
      → (FinishedByKind before c f (name_in k)) × (¬ (Contains names (name_in k)))
  outside c f names p (Meta g n meta_kind.Manifest) e holds o stands =
      let a : g ≡ f = from_same g f (and_first (bytes_eq g f) (not (list_any (bytes_eq n) names))
      holds) in
      let here : p ≡ manifest before g n = manifest_path before p g n e in
      let none : list_any (bytes_eq n) names ≡ false = not_true (list_any (bytes_eq n) names)
      (and_second (bytes_eq g f) (not (list_any (bytes_eq n) names)) holds) in (
        subst (λ h. FinishedByKind before c h n) a (
          o,
          (
            ap (kind_of before) (sym here)
                ∙ e,
            ap (fin.get c) (sym here) ∙ stands,
          ),
        ),
        λ h. let is : list_any (bytes_eq n) names ≡ true = any_same n names h in cc,
      )
  outside c f names p _ e holds o stands = absurd (cc)

  all_outside : (c : Content) (f : Text) (names : List Text) (ps : List Text)
      → AllByRecursion (IsListed before c (is_manifest_outside f names)) ps
      → AllByRecursion (IsOutside before c f names) (map (finished_at before c) ps)
  all_outside c f names [] h = tt
  all_outside c f names (p ∷ ps) h = (
    outside c f names p (kind_of before p) refl h.0.0 h.0.1.0
        h.0.1.1,
    all_outside c f names ps h.1,
  )

  pub newest_outside : (c : Content) (f : Text) (names : List Text)
      → IsAllOf (IsOutside before c f names) (newest before c f names)
  newest_outside c f names = best_is (IsOutside before c f names) _ (all_outside c f names _
      (all_listed before c (is_manifest_outside f names)))

  pub latest_elsewhere : (f : Text) (k : Kind) → HasPath before (Latest f latest_kind.Name)
      → HasPath before k → (k ≢ Latest f latest_kind.Name) → (at before (Latest f latest_kind.Name)
      ≢ at before k)
  latest_elsewhere f k has there apart e = apart (sym there ∙ ap (kind_of before) (sym e) ∙ has)

  module _ (f : Text) (node : NodeByKind before f) where
    -- only latest entries are changed
    pub mend_elsewhere : (c : Content) (names : List Text) (t : ℕ → ℕ) (q : Text)
        → ((e : Kind) → HasPath before e → (e ≡ Latest f latest_kind.Name)
        ⊎ (e ≡ Latest f latest_kind.Tokenmap) → (q ≢ at before e))
        → AreElsewhere q (changes_of_mend before c f names t)
    mend_elsewhere c names t q apart = to (newest before c f names)
      where
        name : q ≢ at before (Latest f latest_kind.Name)
        name = apart (Latest f latest_kind.Name) (node.latest latest_kind.Name) (inl refl)

        ring : q ≢ at before (Latest f latest_kind.Tokenmap)
        ring = apart (Latest f latest_kind.Tokenmap) (node.latest latest_kind.Tokenmap) (inr refl)

        rings : (o : Option Object) (s : ℕ) → AreElsewhere q (mend_tokenmap before c f o s)
        rings None s = by (fin.contains_key c (at before (Latest f latest_kind.Tokenmap)))
          where
            by : (b : Bool)
                → AreElsewhere q (cond b (Removes (at before (Latest f latest_kind.Tokenmap))
                ∷ []) [])
            by true = (ring, tt)
            by false = tt
        rings (Some o) s = by (has_bytes (fin.get c (at before (Latest f latest_kind.Tokenmap)))
            o.bytes)
          where
            by : (b : Bool)
                → AreElsewhere q (cond b [] (Stores (at before (Latest f latest_kind.Tokenmap))
                o.bytes s ∷ []))
            by true = tt
            by false = (ring, tt)

        to : (a : Option (ℕ × Text)) → AreElsewhere q (mend_to before c f a t)
        to None = by (fin.contains_key c (at before (Latest f latest_kind.Name)))
          where
            by : (b : Bool)
                → AreElsewhere q (cond b (Removes (at before (Latest f latest_kind.Name)) ∷ []) []
                ++ remove_if_stands c (at before (Latest f latest_kind.Tokenmap)))
            by true = (name, rings None 0)
            by false = rings None 0
        to (Some a) = by (has_bytes (fin.get c (at before (Latest f latest_kind.Name))) a.1)
          where
            by : (b : Bool)
                → AreElsewhere q (cond b [] (Stores (at before (Latest f latest_kind.Name)) a.1
                (t 0) ∷ []) ++ mend_tokenmap before c f
                (fin.get c (at before (Meta f a.1 meta_kind.Tokenmap))) (t 1))
            by true = rings (fin.get c (at before (Meta f a.1 meta_kind.Tokenmap))) (t 1)
            by false = (name, rings (fin.get c (at before (Meta f a.1 meta_kind.Tokenmap))) (t 1))
