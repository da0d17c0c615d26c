-- Changes of the index that are to be made, and the changes that they become.
use Rattle.std.specs.Prelude.{◌≡◌, ◌≢◌, ◌++◌, ℕ, false, List, Option, Some, None, if◌then◌else◌, option_map}
use Rattle.std.specs.BTreeMap.{BTreeMap, get as lookup}
use Rattle.std.specs.BTreeSet.{BTreeSet, contains}
use Rattle.std.specs.FinMap.{get}
use Rattle.std.specs.List.{AllZip}
use Rattle.med_base.specs.declared.kinds.LatestKind.TheVariants as latest
use Rattle.med_base.specs.declared.layout.MetaKind.TheVariants.{Manifest}
use Rattle.med_base.specs.Classify.{kind_of}
use Rattle.med_base.specs.Content.{Content, Object}
use Rattle.med_base.specs.Effects.{Effect, Stores, Removes}
use Rattle.med_base.specs.Layout.{latest_path}
use Rattle.med_base.specs.NameOrder.{name_cmp}
use Rattle.med_manifest.specs.Listed.{remove_if_stands}
use Rattle.med_manifest.specs.Mend.{is_later, later_of, put_unless}
use Rattle.med_index.specs.Rebuilt.{IsOfIndex, IsLatestOf}
use Rattle.med_index.specs.Visits.{found_second}
use Rattle.med_index.specs.declared.changes.Planned.{Planned}
use Rattle.med_index.specs.declared.changes.Planned.TheVariants.{Put, Delete}
use Rattle.med_index.specs.declared.marks.Marks.{Marks}

-- ---- for this crate's own clauses

-- the path that a change is to be made of
abbrev pub planned_path : Planned → List ℕ
planned_path (Put path bytes) = path
planned_path (Delete path) = path

-- the change is the one that was planned: a put has the same path and bytes, with some second
abbrev pub IsPlannedAs : Planned → Effect → Type 0
IsPlannedAs (Put path bytes) (Stores at stored second) = (at ≡ path) × (stored ≡ bytes.items)
IsPlannedAs (Put path bytes) (Removes at) = ⊥
IsPlannedAs (Delete path) (Stores at stored second) = ⊥
IsPlannedAs (Delete path) (Removes at) = at ≡ path

-- the changes are those that were planned, one for one and in order
abbrev pub ArePlanned : List Planned → List Effect → Type 0
ArePlanned planned xs = AllZip IsPlannedAs planned xs

-- it is to be made of an entry that the index has of the node, or of an object that tells of its
-- latest backup
abbrev pub IsOfIndexPlan : List ℕ → List ℕ → Planned → Type 0
IsOfIndexPlan before f planned = IsOfIndex f (kind_of before (planned_path planned))

-- it is to be made of an object that tells of the latest backup of the node
abbrev pub IsOfLatestPlan : List ℕ → List ℕ → Planned → Type 0
IsOfLatestPlan before f planned = IsLatestOf f (kind_of before (planned_path planned))

-- the change after which an object that was found so is as wanted: it has these bytes, or none
-- stands; there is none where it is so
abbrev pub IsChangeTo : List ℕ → Option (List ℕ) → Option (List ℕ) → Option Planned → Type 0
IsChangeTo path found wanted None = found ≡ wanted
IsChangeTo path found wanted (Some (Put at bytes)) =
    (at ≡ path) × (wanted ≡ Some bytes.items) × (found ≢ wanted)
IsChangeTo path found wanted (Some (Delete at)) = (at ≡ path) × (wanted ≡ None) × (found ≢ wanted)

-- the same of the object that a content has under the path
abbrev pub IsPlanOf : Content → List ℕ → Option (List ℕ) → Option Planned → Type 0
IsPlanOf c path wanted change =
    IsChangeTo path (option_map (λ (o : Object). o.bytes) (get c path)) wanted change

-- the changes after which the object under the path has these bytes, or none stands
abbrev pub object_to : Content → List ℕ → Option (List ℕ) → ℕ → List Effect
object_to c path None second = remove_if_stands c path
object_to c path (Some bytes) second = put_unless c path bytes second

-- the same of the latest objects of the node: the name, and the token map
abbrev pub latest_to : List ℕ → Content → List ℕ → Option (List ℕ) → Option (List ℕ) → (ℕ → ℕ)
    → List Effect
latest_to before c f name ring seconds =
    object_to c (latest_path before f latest.Name) name (seconds 0)
    ++ object_to c (latest_path before f latest.Tokenmap) ring (seconds 1)

-- the later of what was the newest so far and this backup, if it is finished
abbrev pub with_found : Option (ℕ × List ℕ) → List ℕ → Option ℕ → Option (ℕ × List ℕ)
with_found newest n None = newest
with_found newest n (Some second) = Some (later_of (second, n) newest)

-- the second of the manifest that was found of a backup, if its name isn't one of these
abbrev pub outside : BTreeSet (List ℕ) → List ℕ → Option ℕ → Option ℕ
outside but n second = if contains name_cmp but n then None else second

-- the second of the manifest that was found of a backup whose name isn't one of these
abbrev pub IsFinishedOutside : BTreeMap (List ℕ) Marks → BTreeSet (List ℕ) → ℕ × List ℕ → Type 0
IsFinishedOutside found but b =
    (contains name_cmp but b.1 ≡ false)
    × (found_second Manifest (lookup name_cmp found b.1) ≡ Some b.0)

-- the newest finished backup of those that were found and aren't among these names, with the second
-- of its manifest
abbrev pub IsNewestFound : BTreeMap (List ℕ) Marks → BTreeSet (List ℕ) → Option (ℕ × List ℕ)
    → Type 0
IsNewestFound found but None = (a : ℕ × List ℕ) → IsFinishedOutside found but a → ⊥
IsNewestFound found but (Some b) =
    IsFinishedOutside found but b
    × ((a : ℕ × List ℕ) → IsFinishedOutside found but a → is_later a b ≡ false)
