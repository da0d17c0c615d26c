-- Which paths the manifests of a node name, as far as they were read.
use Rattle.std.specs.Prelude.{◌≡◌, ◌↔◌, ◌++◌, ℕ, Bool, true, false, IsTrue, List, Contains, map, Option, Some, None, IfSome}
use Rattle.std.specs.BTreeSet.{BTreeSet, contains}
use Rattle.std.specs.FinMap.{get}
use Rattle.std.specs.List.{AllByRecursion}
use Rattle.med_base.specs.Classify.{kind_of}
use Rattle.med_base.specs.Content.{Content, Object}
use Rattle.med_base.specs.Kinds.{Kind, Shared}
use Rattle.med_base.specs.NameOrder.{name_cmp}
use Rattle.med_core.specs.Outside.{AreNamedOutside}
use Rattle.med_manifest.specs.declared.manifest.FileRecord.{FileRecord}
use Rattle.med_manifest.specs.declared.why.ManifestWhy.{ManifestWhy}
use Rattle.med_manifest.specs.Manifest.{IsManifest}
use Rattle.med_manifest.specs.Mend.{name_in}
use Rattle.med_manifest.specs.Reads.{DoAllRead, DoesRead, IsFirstUnread}
use Rattle.med_manifest.specs.Refusals.{IsRefused}
use Rattle.med_manifest.specs.Whole.{HasManifest}
use Rattle.med_outside.specs.Storage.{AnswersBytes}
use Rattle.med_index.specs.declared.errors.IndexError.{IndexError}
use Rattle.med_index.specs.declared.errors.IndexError.TheVariants.{BadManifest, Store, Memory}

-- a file that the backups of a node share
abbrev pub is_shared_kind : Kind → Bool
is_shared_kind (Shared f key) = true
is_shared_kind _ = false

-- the set has those of the paths that are shared files, and of these no others
abbrev pub HasShared : List ℕ → List (List ℕ) → BTreeSet (List ℕ) → Type 0
HasShared before paths set =
    (p : List ℕ) → is_shared_kind (kind_of before p) ≡ true
    → IsTrue (contains name_cmp set p) ↔ Contains paths p

-- every manifest of the node outside these names reads, and the set has the shared files that they name
pub record AreNamesOutside (before : List ℕ) (c : Content) (f : List ℕ) (names : List (List ℕ))
    (set : BTreeSet (List ℕ)) : Type 0
  where
    pub read : DoAllRead before c f names
    pub paths : List (List ℕ)
    pub paths_are : AreNamedOutside before c f names paths
    pub shared : HasShared before paths set

-- the first manifest of the node outside these names that doesn't read has this path, and is refused
-- for this cause
pub record IsFirstBadOutside (before : List ℕ) (c : Content) (f : List ℕ)
    (names : List (List ℕ)) (path : List ℕ) (why : ManifestWhy) : Type 0
  where
    pub first : IsFirstUnread before c f names path
    pub object : Object
    pub stands : get c path ≡ Some object
    pub why_is : IsRefused before f (name_in (kind_of before path)) object.bytes why

-- where a manifest is refused, it is the first that doesn't read
abbrev pub TellsUnreadOutside : List ℕ → Content → List ℕ → List (List ℕ) → IndexError → Type 0
TellsUnreadOutside before c f names (BadManifest path why) =
    IsFirstBadOutside before c f names path why
TellsUnreadOutside before c f names Store = Unit {0}
TellsUnreadOutside before c f names Memory = Unit {0}

-- ---- for this crate's own clauses

abbrev pub paths_in : List FileRecord → List (List ℕ)
paths_in files = map (λ (r : FileRecord). r.path) files

-- these paths are those that the set is to have too
abbrev pub AreNoted : List ℕ → List (List ℕ) → (old new : BTreeSet (List ℕ)) → Type 0
AreNoted before more old new =
    (paths : List (List ℕ)) → HasShared before paths old → HasShared before (paths ++ more) new

-- by what the storage answers of the manifest, its paths are noted
abbrev pub IsNotedAs : List ℕ → List ℕ → List ℕ → Option (List ℕ)
    → (old new : BTreeSet (List ℕ)) → Type 0
IsNotedAs before f n None old new = new ≡ old
IsNotedAs before f n (Some bytes) old new =
    (files : List FileRecord) × IsManifest before f n bytes files
    × AreNoted before (paths_in files) old new

abbrev pub IsManifestNoted : Option Content → List ℕ → List ℕ → List ℕ → List ℕ
    → (old new : BTreeSet (List ℕ)) → Type 0
IsManifestNoted told before f n path old new =
    (found : Option (List ℕ)) × AnswersBytes path told found
    × IsNotedAs before f n found old new

-- the manifest of one of these backups names the path
pub record IsNamedBy (before f : List ℕ) (c : Content) (es : List (List ℕ × List ℕ))
    (path : List ℕ) : Type 0
  where
    pub entry : List ℕ × List ℕ
    pub among : Contains es entry
    pub files : List FileRecord
    pub manifest : HasManifest before f entry.1 c files
    pub here : Contains (paths_in files) path

-- the manifest at the path reads, if one stands
abbrev pub ReadsIfThere : List ℕ → List ℕ → Content → List ℕ × List ℕ → Type 0
ReadsIfThere before f c e = (o : Object) → get c e.0 ≡ Some o → DoesRead before c f e.0

-- all that the manifest names is among the paths
abbrev pub IsWithin : List ℕ → List ℕ → Content → List (List ℕ) → List ℕ × List ℕ → Type 0
IsWithin before f c paths e =
    (files : List FileRecord) → HasManifest before f e.1 c files → (path : List ℕ)
    → Contains (paths_in files) path → Contains paths path

-- the paths are those that these manifests name
pub record AreNamesOf (before f : List ℕ) (c : Content) (es : List (List ℕ × List ℕ))
    (paths : List (List ℕ)) : Type 0
  where
    pub read : AllByRecursion (ReadsIfThere before f c) es
    pub sound : (path : List ℕ) → Contains paths path → IsNamedBy before f c es path
    pub complete : AllByRecursion (IsWithin before f c paths) es

-- the manifests were read, and the paths that they name are noted
abbrev pub AreNamesNoted : Option Content → List ℕ → List ℕ → List (List ℕ × List ℕ)
    → (old new : BTreeSet (List ℕ)) → Type 0
AreNamesNoted told before f es old new =
    IfSome told
    (λ c. (paths : List (List ℕ)) × AreNamesOf before f c es paths
    × AreNoted before paths old new)
