-- The manifests of the finished backups of a node, as far as they were read.
use Rattle.std.specs.Prelude.{◌≡◌, ◌++◌, ℕ, List, ◌∷◌, Option, Some, None, IfSome}
use Rattle.std.specs.BTreeMap.{BTreeMap, Updates, get}
use Rattle.std.specs.BTreeSet.{BTreeSet}
use Rattle.std.specs.FinMap as finite
use Rattle.std.specs.List.{AllByRecursion}
use Rattle.med_base.specs.declared.kinds.IndexKind.TheVariants as entry
use Rattle.med_base.specs.declared.layout.MetaKind.TheVariants.{Manifest}
use Rattle.med_base.specs.Classify.{kind_of}
use Rattle.med_base.specs.Content.{Content, Object}
use Rattle.med_base.specs.Kinds.{Meta}
use Rattle.med_base.specs.Layout.{entry_path, meta_path}
use Rattle.med_base.specs.NameOrder.{name_cmp}
use Rattle.med_manifest.specs.declared.manifest.FileRecord.{FileRecord}
use Rattle.med_manifest.specs.declared.why.ManifestWhy.{ManifestWhy}
use Rattle.med_manifest.specs.Manifest.{IsManifest}
use Rattle.med_manifest.specs.Reads.{DoesRead}
use Rattle.med_manifest.specs.Refusals.{IsNoManifest, IsRefused}
use Rattle.med_outside.specs.Storage.{AnswersBytes}
use Rattle.med_index.specs.declared.errors.IndexError.{IndexError}
use Rattle.med_index.specs.declared.errors.IndexError.TheVariants.{BadManifest, Store, Memory}
use Rattle.med_index.specs.declared.marks.Marks.{Marks}
use Rattle.med_index.specs.Planned.{outside}
use Rattle.med_index.specs.Given.{Given, Grows, IsCopyNoted, IsFoundAs, WasGiven}

-- ---- for this crate's own clauses

-- names of backups by the paths of their manifests
abbrev pub Manifests : Type 0
Manifests = BTreeMap (List ℕ) (List ℕ)

-- the manifest of a backup is noted, if the backup is finished
abbrev pub IsManifestNoted : List ℕ → List ℕ → List ℕ → Option ℕ → (old new : Manifests) → Type 0
IsManifestNoted before f n None old new = new ≡ old
IsManifestNoted before f n (Some second) old new =
    (kind_of before (meta_path before f n Manifest) ≡ Meta f n Manifest)
    × Updates name_cmp old new (meta_path before f n Manifest) (Some n)

-- the path is that of the manifest of the backup, which was found and isn't among some names
pub record IsNamed (before f : List ℕ) (found : BTreeMap (List ℕ) Marks) (but : BTreeSet (List ℕ))
    (path n : List ℕ) : Type 0
  where
    pub path_is : path ≡ meta_path before f n Manifest
    pub kind_is : kind_of before path ≡ Meta f n Manifest
    pub marks : Marks
    pub second : ℕ
    pub got : get name_cmp found n ≡ Some marks
    pub finished : outside but n marks.manifest ≡ Some second

-- these are the manifests of the finished ones of these backups that aren't among some names
pub record AreManifestsOf (before f : List ℕ) (found : BTreeMap (List ℕ) Marks)
    (but : BTreeSet (List ℕ)) (es : List (List ℕ × Marks)) (m : Manifests) : Type 0
  where
    pub named : (path n : List ℕ) → get name_cmp m path ≡ Some n
        → IsNamed before f found but path n
    pub all : AllByRecursion
        (λ (e : List ℕ × Marks). (second : ℕ) → outside but e.0 e.1.manifest ≡ Some second
        → get name_cmp m (meta_path before f e.0 Manifest) ≡ Some e.0) es

-- the same, where these backups were found
abbrev pub AreManifests : List ℕ → List ℕ → BTreeMap (List ℕ) Marks → BTreeSet (List ℕ)
    → List (List ℕ × Marks) → Manifests → Type 0
AreManifests before f found but es m =
    AllByRecursion (IsFoundAs found) es → AreManifestsOf before f found but es m

-- the path is that of the manifest of the backup
abbrev pub IsManifestPath : List ℕ → List ℕ → List ℕ → List ℕ → Type 0
IsManifestPath before f n path = kind_of before path ≡ Meta f n Manifest

-- each path is that of the manifest of its backup
abbrev pub AreNamed : List ℕ → List ℕ → Manifests → Type 0
AreNamed before f m =
    (path n : List ℕ) → get name_cmp m path ≡ Some n → IsManifestPath before f n path

-- the bytes are refused as the manifest that has this path
abbrev pub IsRefusedAt : List ℕ → List ℕ → List ℕ → List ℕ → List ℕ → IndexError → Type 0
IsRefusedAt before f n path bytes (BadManifest at why) =
    (at ≡ path) × IsRefused before f n bytes why × IsNoManifest before f n bytes
IsRefusedAt before f n path bytes Store = Unit {0}
IsRefusedAt before f n path bytes Memory = Unit {0}

-- the storage answers such bytes
abbrev pub IsBadManifest : Option Content → List ℕ → List ℕ → List ℕ → List ℕ → IndexError
    → Type 0
IsBadManifest told before f n path (BadManifest at why) =
    (bytes : List ℕ) × AnswersBytes path told (Some bytes)
    × IsRefusedAt before f n path bytes (BadManifest at why)
IsBadManifest told before f n path Store = Unit {0}
IsBadManifest told before f n path Memory = Unit {0}

-- by what the storage answers of the manifest, its entry is given
abbrev pub IsReadAs : Option Content → List ℕ → List ℕ → List ℕ → Option (List ℕ)
    → (old new : Given) → Type 0
IsReadAs told before f n None old new = new ≡ old
IsReadAs told before f n (Some bytes) old new =
    ((files : List FileRecord) × IsManifest before f n bytes files)
    × IsCopyNoted told before f n entry.Manifest bytes old new

abbrev pub IsManifestRead : Option Content → List ℕ → List ℕ → List ℕ → List ℕ
    → (old new : Given) → Type 0
IsManifestRead told before f n path old new =
    (found : Option (List ℕ)) × AnswersBytes path told found
    × IsReadAs told before f n found old new

-- where the manifest stands it reads, and its entry is given
abbrev pub IsReadIn : List ℕ → List ℕ → Content → Given → List ℕ × List ℕ → Type 0
IsReadIn before f c m e =
    (o : Object) → finite.get c e.0 ≡ Some o
    → DoesRead before c f e.0 × WasGiven m (entry_path before f e.1 entry.Manifest)

-- the manifests were read, and their entries are given
pub record AreRead (before f : List ℕ) (c : Content) (es : List (List ℕ × List ℕ))
    (old new : Given) : Type 0
  where
    pub grows : Grows before f c old new
    pub all : AllByRecursion (IsReadIn before f c new) es

abbrev pub AreReadTold : Option Content → List ℕ → List ℕ → List (List ℕ × List ℕ)
    → (old new : Given) → Type 0
AreReadTold told before f es old new = IfSome told (λ c. AreRead before f c es old new)

-- the manifest at this path is refused, and each one before it that stands reads
pub record IsStoppedAt (before f : List ℕ) (c : Content) (es : List (List ℕ × List ℕ))
    (at : List ℕ) (why : ManifestWhy) : Type 0
  where
    pub good : List (List ℕ × List ℕ)
    pub name : List ℕ
    pub rest : List (List ℕ × List ℕ)
    pub parts : es ≡ good ++ (at, name) ∷ rest
    pub read : AllByRecursion
        (λ (e : List ℕ × List ℕ). (o : Object) → finite.get c e.0 ≡ Some o
        → DoesRead before c f e.0) good
    pub object : Object
    pub stands : finite.get c at ≡ Some object
    pub why_is : IsRefused before f name object.bytes why
    pub none : IsNoManifest before f name object.bytes

abbrev pub IsStopped : Option Content → List ℕ → List ℕ → List (List ℕ × List ℕ) → IndexError
    → Type 0
IsStopped told before f es (BadManifest at why) =
    IfSome told (λ c. IsStoppedAt before f c es at why)
IsStopped told before f es Store = Unit {0}
IsStopped told before f es Memory = Unit {0}
