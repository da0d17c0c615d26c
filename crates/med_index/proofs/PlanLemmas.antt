-- Changes of the index that are to be made.
use Rattle.std.proofs.Common.{◌≡◌, ◌≢◌, ◌∙◌, ◌<◌, ◌+◌, ℕ, Bool, true, false, cond, List, [], ◌∷◌, ◌++◌, map, length, take, drop, get_or, Option, Some, None, option_map, is_some, bytes_eq, refl, sym, ap, subst}
use Rattle.std.proofs.lemmas.Option.{same_Some}
use Rattle.std.specs.FinMap.{get}
use Rattle.std.specs.List.{AllByRecursion}
use Rattle.std.specs.Option.{option_to_list}
use Rattle.med_base.proofs.Lists.{all_with, split_at, take_next, zip_push}
use Rattle.med_base.specs.Classify.{kind_of}
use Rattle.med_base.specs.Content.{Content, Object}
use Rattle.med_base.specs.Effects.{Effect, Stores, Removes}
use Rattle.med_base.specs.Kinds.{Kind, Shared, Own, Meta, Entry, Latest, Stray, Other}
use Rattle.med_manifest.proofs.Gets.{from_same, same_itself}
use Rattle.med_manifest.specs.Mend.{has_bytes}
use Rattle.med_index.specs.Planned.{ArePlanned, IsOfIndexPlan, IsOfLatestPlan, IsPlanOf, IsPlannedAs, object_to, planned_path}
use Rattle.med_index.specs.Rebuilt.{AreOfLatest, IsLatestOf, IsOfIndex, changed}
use Rattle.med_index.specs.declared.changes.Planned.{Planned}
use Rattle.med_index.specs.declared.changes.Planned.TheVariants.{Put, Delete}

-- ---- what changes become

-- a planned change, at the second 0
abbrev pub effect_of : Planned → Effect
effect_of (Put path bytes) = Stores path bytes.items 0
effect_of (Delete path) = Removes path

planned_so : (p : Planned) → IsPlannedAs p (effect_of p)
planned_so (Put path bytes) = (refl, refl)
planned_so (Delete path) = refl

-- whatever is planned can be made
pub all_planned : (ps : List Planned) → ArePlanned ps (map effect_of ps)
all_planned [] = tt
all_planned (p ∷ ps) = (planned_so p, all_planned ps)

-- two plans, one after the other
pub planned_append : (ps qs : List Planned) (xs ys : List Effect) → ArePlanned ps xs
    → ArePlanned qs ys → ArePlanned (ps ++ qs) (xs ++ ys)
planned_append [] qs [] ys a b = b
planned_append [] qs (x ∷ xs) ys a b = absurd a
planned_append (p ∷ ps) qs [] ys a b = absurd a
planned_append (p ∷ ps) qs (x ∷ xs) ys a b = (a.0, planned_append ps qs xs ys a.1 b)

-- what two plans become is what the first becomes, and then the second
pub planned_apart : (ps qs : List Planned) (zs : List Effect) → ArePlanned (ps ++ qs) zs
    → (xs : List Effect) × (ys : List Effect) × (zs ≡ xs ++ ys) × ArePlanned ps xs
    × ArePlanned qs ys
planned_apart [] qs zs a = ([], zs, refl, tt, a)
planned_apart (p ∷ ps) qs [] a = absurd a
planned_apart (p ∷ ps) qs (z ∷ zs) a =
    let (xs, ys, is, first, later) = planned_apart ps qs zs a.1 in
    (z ∷ xs, ys, ap (λ l. z ∷ l) is, (a.0, first), later)

-- ---- a plan that is made, as far as it came

module _ (ps : List Planned) (i : ℕ) (p : Planned) (less : i < length ps)
    (is : p ≡ get_or ps i p) (xs : List Effect) (planned : ArePlanned (take i ps) xs) (x : Effect)
    (one : IsPlannedAs p x) where
  -- with the next change
  pub planned_next : ArePlanned (take (i + 1) ps) (xs ++ x ∷ [])
  planned_next =
      subst (λ l. ArePlanned l (xs ++ x ∷ [])) (sym (take_next ps i p less is))
      (zip_push IsPlannedAs (take i ps) xs p x planned one)

  -- with the next change, and all that are left
  pub planned_whole : ArePlanned ps (xs ++ x ∷ map effect_of (drop (i + 1) ps))
  planned_whole =
      subst (λ l. ArePlanned l (xs ++ x ∷ map effect_of (drop (i + 1) ps)))
      (sym (split_at ps i p less is))
      (planned_append (take i ps) (p ∷ drop (i + 1) ps) xs (x ∷ map effect_of (drop (i + 1) ps))
      planned (one, all_planned (drop (i + 1) ps)))

-- ---- of which paths they are

-- a change is of the path of which it was planned
pub same_path : (p : Planned) (x : Effect) → IsPlannedAs p x → changed x ≡ planned_path p
same_path (Put path bytes) (Stores at stored second) is = is.0
same_path (Put path bytes) (Removes at) is = absurd is
same_path (Delete path) (Stores at stored second) is = absurd is
same_path (Delete path) (Removes at) is = is

-- changes that were planned of the latest objects of a node are of these
pub latest_made : (before f : List ℕ) (ps : List Planned) (xs : List Effect) → ArePlanned ps xs
    → AllByRecursion (IsOfLatestPlan before f) ps → AreOfLatest before f xs
latest_made before f [] [] a all = tt
latest_made before f [] (x ∷ xs) a all = absurd a
latest_made before f (p ∷ ps) [] a all = absurd a
latest_made before f (p ∷ ps) (x ∷ xs) a all = (
  subst (λ path. IsLatestOf f (kind_of before path)) (sym (same_path p x a.0)) all.0,
  latest_made before f ps xs a.1 all.1,
)

latest_of_index : (f : List ℕ) (k : Kind) → IsLatestOf f k → IsOfIndex f k
latest_of_index f (Shared g key) is = absurd is
latest_of_index f (Own g n key) is = absurd is
latest_of_index f (Meta g n kind) is = absurd is
latest_of_index f (Entry g n kind) is = absurd is
latest_of_index f (Latest g kind) is = is
latest_of_index f (Stray g n) is = absurd is
latest_of_index f Other is = absurd is

-- the latest objects are of the index
pub latest_in_index : (before f : List ℕ) (ps : List Planned)
    → AllByRecursion (IsOfLatestPlan before f) ps → AllByRecursion (IsOfIndexPlan before f) ps
latest_in_index before f ps all =
    all_with (IsOfLatestPlan before f) (IsOfIndexPlan before f)
    (λ p is. latest_of_index f (kind_of before (planned_path p)) is) ps all

-- ---- what is to be done so that an object has these bytes, or doesn't stand

-- the bytes of the object, if it stands
abbrev bytes_of : Option Object → Option (List ℕ)
bytes_of o = option_map (λ (x : Object). x.bytes) o

-- an object that has other bytes
other_bytes : (o : Option Object) (bytes : List ℕ) → bytes_of o ≢ Some bytes
    → has_bytes o bytes ≡ false
other_bytes None bytes other = refl
other_bytes (Some o) bytes other = go (bytes_eq o.bytes bytes) refl
  where
    go : (t : Bool) → bytes_eq o.bytes bytes ≡ t → t ≡ false
    go true e = absurd (other (ap Some (from_same o.bytes bytes e)))
    go false e = refl

same_bytes : (o : Option Object) (bytes : List ℕ) → bytes_of o ≡ Some bytes
    → has_bytes o bytes ≡ true
same_bytes None bytes same = absurd (cc)
same_bytes (Some o) bytes same =
    let is = same_Some o.bytes bytes same in
    ap (λ b. bytes_eq b bytes) is ∙ same_itself bytes

stands_not : (o : Option Object) → bytes_of o ≡ None → is_some o ≡ false
stands_not None none = refl
stands_not (Some o) none = absurd (cc)

stands_still : (o : Option Object) → bytes_of o ≢ None → is_some o ≡ true
stands_still None some = absurd (some refl)
stands_still (Some o) some = refl

module _ (c : Content) (path : List ℕ) where
  -- where nothing is to be done
  object_right : (wanted : Option (List ℕ)) → bytes_of (get c path) ≡ wanted
      → object_to c path wanted 0 ≡ []
  object_right None is =
      ap (λ t. cond t (Removes path ∷ []) []) (stands_not (get c path) is)
  object_right (Some bytes) is =
      ap (λ t. cond t [] (Stores path bytes 0 ∷ [])) (same_bytes (get c path) bytes is)

  object_put : (bytes : List ℕ) (second : ℕ) → bytes_of (get c path) ≢ Some bytes
      → object_to c path (Some bytes) second ≡ Stores path bytes second ∷ []
  object_put bytes second other =
      ap (λ t. cond t [] (Stores path bytes second ∷ [])) (other_bytes (get c path) bytes other)

  object_removed : bytes_of (get c path) ≢ None → object_to c path None 0 ≡ Removes path ∷ []
  object_removed some =
      ap (λ t. cond t (Removes path ∷ []) []) (stands_still (get c path) some)

  -- what the plan of an object becomes
  pub object_made : (wanted : Option (List ℕ)) (change : Option Planned) (xs : List Effect)
      → IsPlanOf c path wanted change → ArePlanned (option_to_list change) xs
      → (second : ℕ) × (xs ≡ object_to c path wanted second)
  object_made wanted None [] is planned = (0, sym (object_right wanted is))
  object_made wanted None (x ∷ xs) is planned = absurd planned
  object_made wanted (Some p) [] is planned = absurd planned
  object_made wanted (Some p) (x ∷ (y ∷ xs)) is planned = absurd planned.1
  object_made wanted (Some (Put at bytes)) (Stores here stored second ∷ []) is planned = (
    second,
    (λ i. Stores ((planned.0.0 ∙ is.0) i) (planned.0.1 i) second ∷ [])
        ∙ sym (object_put bytes.items second (λ same. is.2 (same ∙ sym is.1)))
        ∙ ap (λ w. object_to c path w second) (sym is.1),
  )
  object_made wanted (Some (Put at bytes)) (Removes here ∷ []) is planned = absurd planned.0
  object_made wanted (Some (Delete at)) (Stores here stored second ∷ []) is planned =
      absurd planned.0
  object_made wanted (Some (Delete at)) (Removes here ∷ []) is planned = (
    0,
    (λ i. Removes ((planned.0 ∙ is.0) i) ∷ [])
        ∙ sym (object_removed (λ same. is.2 (same ∙ sym is.1)))
        ∙ ap (λ w. object_to c path w 0) (sym is.1),
  )
