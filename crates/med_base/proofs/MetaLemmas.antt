-- Names of the objects that tell of a backup, and of the latest one: each tells its kind.
use Rattle.std.proofs.Common.{◌≡◌, ◌∙◌, ℕ, Bool, true, false, cond, not, List, [], ◌∷◌, ◌++◌, bytes_eq, Option, Some, None, refl, sym, subst, ap}
use Rattle.std.specs.List.{find, AllByRecursion}
use Rattle.std.proofs.lemmas.Slice.Eq.{bytes_eq-Decides}
use Rattle.med_base.specs.declared.layout.MetaKind.{MetaKind}
use Rattle.med_base.specs.declared.layout.MetaKind.TheVariants as meta
use Rattle.med_base.specs.declared.kinds.LatestKind.{LatestKind}
use Rattle.med_base.specs.declared.kinds.LatestKind.TheVariants as latest
use Rattle.med_base.specs.Classify.{meta_of, all_meta, all_latest}
use Rattle.med_base.specs.Layout.{meta_file, latest_file}
use Rattle.med_base.specs.Prefix.{parts}
use Rattle.med_base.proofs.Paths.{HasNoSlash}
use Rattle.med_base.proofs.Slashes.{no_slash_by_test, slash_within, whole, around, cut_at_slash, parts_whole, parts_around, has_parts}

-- ---- texts with a slash

unequal_with_slash : (t name x rest : List ℕ) → t ≡ x ++ 47 ∷ rest → HasNoSlash name
    → bytes_eq t name ≡ false
unequal_with_slash t name x rest is plain = go (bytes_eq t name) refl
  where
    go : (b : Bool) → bytes_eq t name ≡ b → b ≡ false
    go true e =
        let same : name ≡ x ++ 47 ∷ rest = sym ((bytes_eq-Decides t name).0 e) ∙ is in
        absurd (slash_within x rest (subst HasNoSlash same plain))
    go false e = refl

-- ---- the first that passes

pub find_none : {X : Type 0} (p : X → Bool) (xs : List X) → AllByRecursion (λ x. p x ≡ false) xs
    → find p xs ≡ None
find_none p [] h = refl
find_none p (x ∷ xs) h = ap (λ b. cond b (Some x) (find p xs)) h.0 ∙ find_none p xs h.1

pub find_is : {X : Type 0} (p : X → Bool) (xs : List X) (x : X) → find p xs ≡ Some x → p x ≡ true
find_is p [] x e = absurd (cc)
find_is p (y ∷ ys) x e = go (p y) refl (find_is p ys x) e
  where
    go : (b : Bool) → p y ≡ b → (find p ys ≡ Some x → p x ≡ true)
        → cond b (Some y) (find p ys) ≡ Some x → p x ≡ true
    go true is more k = let same : y ≡ x = cc in sym (ap p same) ∙ is
    go false is more k = more k

-- ---- what tells of a backup

pub meta_no_slash : (kind : MetaKind) → HasNoSlash (meta_file kind)
meta_no_slash meta.Schema = no_slash_by_test (meta_file meta.Schema) refl
meta_no_slash meta.Differential = no_slash_by_test (meta_file meta.Differential) refl
meta_no_slash meta.Tokenmap = no_slash_by_test (meta_file meta.Tokenmap) refl
meta_no_slash meta.Manifest = no_slash_by_test (meta_file meta.Manifest) refl

abbrev pub meta_found : List ℕ → Option MetaKind
meta_found name = find (λ kind. bytes_eq name (meta_file kind)) all_meta

meta_of_more : (a t : List ℕ) → meta_of (a ∷ parts t) ≡ None
meta_of_more a t = let p = has_parts t in ap (λ ps. meta_of (a ∷ ps)) p.are

-- a name with a slash is none of them
pub meta_of_parts : (t : List ℕ) → meta_of (parts t) ≡ meta_found t
meta_of_parts t = elim (cut_at_slash t) [
  | whole h ↦ ap meta_of (parts_whole t h)
  | around x rest h is ↦
      let unequal = λ (kind : MetaKind). unequal_with_slash t (meta_file kind) x rest is
      (meta_no_slash kind) in
      ap (λ u. meta_of (parts u)) is
      ∙ ap meta_of (parts_around x rest h)
      ∙ meta_of_more x rest
      ∙ sym (find_none (λ (kind : MetaKind). bytes_eq t (meta_file kind)) all_meta (
        unequal meta.Schema,
        (unequal meta.Differential, (unequal meta.Tokenmap, (unequal meta.Manifest, tt))),
      ))
]

pub meta_made : (kind : MetaKind) → meta_found (meta_file kind) ≡ Some kind
meta_made meta.Schema = refl
meta_made meta.Differential = refl
meta_made meta.Tokenmap = refl
meta_made meta.Manifest = refl

pub meta_is : (name : List ℕ) (kind : MetaKind) → meta_found name ≡ Some kind
    → name ≡ meta_file kind
meta_is name kind e = (bytes_eq-Decides name (meta_file kind)).0
    (find_is (λ (kind : MetaKind). bytes_eq name (meta_file kind)) all_meta kind e)

-- a name that is none of the four
pub meta_none : (name : List ℕ) → ((kind : MetaKind) → name ≡ meta_file kind → ⊥)
    → meta_of (parts name) ≡ None
meta_none name not = meta_of_parts name ∙ go (meta_found name) refl
  where
    go : (o : Option MetaKind) → meta_found name ≡ o → o ≡ None
    go None e = refl
    go (Some kind) e = absurd (not kind (meta_is name kind e))

-- ---- what tells of the latest backup

pub latest_no_slash : (kind : LatestKind) → HasNoSlash (latest_file kind)
latest_no_slash latest.Name = no_slash_by_test (latest_file latest.Name) refl
latest_no_slash latest.Tokenmap = no_slash_by_test (latest_file latest.Tokenmap) refl

abbrev pub latest_found : List ℕ → Option LatestKind
latest_found name = find (λ kind. bytes_eq name (latest_file kind)) all_latest

pub latest_made : (kind : LatestKind) → latest_found (latest_file kind) ≡ Some kind
latest_made latest.Name = refl
latest_made latest.Tokenmap = refl

pub latest_is : (name : List ℕ) (kind : LatestKind) → latest_found name ≡ Some kind
    → name ≡ latest_file kind
latest_is name kind e = (bytes_eq-Decides name (latest_file kind)).0
    (find_is (λ (kind : LatestKind). bytes_eq name (latest_file kind)) all_latest kind e)
