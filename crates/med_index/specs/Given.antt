-- The entries that the backups of a node give to its index, as far as they were found.
use Rattle.std.specs.Prelude.{◌≡◌, ◌⊎◌, ℕ, true, List, [], Vec, Option, Some, None, option_map, is_some, length, bytes_eq, if◌then◌else◌, IfSome}
use Rattle.std.specs.declared.alloc.Global.{Global}
use Rattle.std.specs.BTreeMap.{BTreeMap, Updates, get}
use Rattle.std.specs.FinMap as finite
use Rattle.std.specs.List.{AllByRecursion}
use Rattle.med_base.specs.declared.kinds.IndexKind.{IndexKind}
use Rattle.med_base.specs.declared.kinds.IndexKind.TheVariants as entry
use Rattle.med_base.specs.declared.layout.MetaKind.TheVariants.{Tokenmap}
use Rattle.med_base.specs.Classify.{kind_of}
use Rattle.med_base.specs.Content.{Content, Object}
use Rattle.med_base.specs.Kinds.{Entry as IndexEntry}
use Rattle.med_base.specs.Layout.{entry_path, meta_path}
use Rattle.med_base.specs.NameOrder.{name_cmp}
use Rattle.med_manifest.specs.Index.{given, given_to}
use Rattle.med_manifest.specs.Mend.{has_bytes}
use Rattle.med_manifest.specs.Rebuild.{is_entry_of_node}
use Rattle.med_outside.specs.Storage.{AnswersBytes}
use Rattle.med_outside.specs.declared.storage.Entry.{Entry}
use Rattle.med_index.specs.declared.marks.Marks.{Marks}
use Rattle.med_index.specs.Marks.{start_of}
use Rattle.med_index.specs.Visits.{AreFound, IsToCome}

-- ---- for this crate's own clauses

-- ---- the sizes of the entries that stand

-- how many bytes the object has, if it stands
abbrev pub size_in : Option Object → Option ℕ
size_in o = option_map (λ (x : Object). length x.bytes) o

-- the entry is that of an object of this size
abbrev pub IsSizedEntry : Content → Entry → Type 0
IsSizedEntry c e = size_in (finite.get c e.path) ≡ Some e.size

-- each path of the map is that of an entry that the index has of the node
abbrev pub AreOfNode : {X : Type 0} → List ℕ → List ℕ → BTreeMap (List ℕ) X → Type 0
AreOfNode {X} before f m =
    (path : List ℕ) (x : X) → get name_cmp m path ≡ Some x
    → is_entry_of_node f (kind_of before path) ≡ true

-- the sizes that were found of the entries of a node: each stands, and each that stands was found
-- or is still to come
pub record AreSizesFound (before f : List ℕ) (c : Content) (sizes : BTreeMap (List ℕ) ℕ)
    (rest : List Entry) : Type 0
  where
    pub stands : (path : List ℕ) (size : ℕ) → get name_cmp sizes path ≡ Some size
        → size_in (finite.get c path) ≡ Some size
    pub all : (path : List ℕ) (size : ℕ) → is_entry_of_node f (kind_of before path) ≡ true
        → size_in (finite.get c path) ≡ Some size
        → (get name_cmp sizes path ≡ Some size) ⊎ IsToCome rest path
    pub entries : AllByRecursion (IsSizedEntry c) rest

-- the sizes are those of the entries that the index has of the node
abbrev pub AreSizes : List ℕ → List ℕ → Content → BTreeMap (List ℕ) ℕ → Type 0
AreSizes before f c sizes =
    (path : List ℕ) → get name_cmp sizes path
    ≡ (if is_entry_of_node f (kind_of before path) then size_in (finite.get c path) else None)

-- ---- what is given

-- the paths that are given, each with the bytes that are to be put, or nothing where they stand
abbrev pub Given : Type 0
Given = BTreeMap (List ℕ) (Option (Vec ℕ Global))

-- the bytes that are to be put, if any
abbrev pub bytes_to_put : Option (Vec ℕ Global) → Option (List ℕ)
bytes_to_put None = None
bytes_to_put (Some v) = Some v.items

-- the bytes are to be put, unless these stand
abbrev pub unless_bytes : Option (List ℕ) → List ℕ → Option (List ℕ)
unless_bytes None bytes = Some bytes
unless_bytes (Some stands) bytes = if bytes_eq stands bytes then None else Some bytes

-- the bytes are to be put, unless the object has them
abbrev pub unless_stands : Option Object → List ℕ → Option (List ℕ)
unless_stands o bytes = if has_bytes o bytes then None else Some bytes

-- the path is among those that are given
abbrev pub WasGiven : Given → List ℕ → Type 0
WasGiven m path = is_some (get name_cmp m path) ≡ true

-- the path is given these bytes by the backups of the node
pub record IsRightly (before f : List ℕ) (c : Content) (path : List ℕ)
    (value : Option (Vec ℕ Global)) : Type 0
  where
    pub bytes : List ℕ
    pub gives : given_to before c f (kind_of before path) ≡ Some bytes
    pub value_is : bytes_to_put value ≡ unless_stands (finite.get c path) bytes

-- each path is given what the backups of the node give to it
abbrev pub AreRightly : List ℕ → List ℕ → Content → Given → Type 0
AreRightly before f c m =
    (path : List ℕ) (value : Option (Vec ℕ Global)) → get name_cmp m path ≡ Some value
    → IsRightly before f c path value

-- one more entry of the backup is given
pub record IsNoted (before f n : List ℕ) (kind : IndexKind) (old new : Given)
    (Right : Option (Vec ℕ Global) → Type 0) : Type 0
  where
    pub value : Option (Vec ℕ Global)
    pub updates : Updates name_cmp old new (entry_path before f n kind) (Some value)
    pub kind_is : kind_of before (entry_path before f n kind) ≡ IndexEntry f n kind
    pub right : Right value

-- the value is right for an entry of these bytes
abbrev pub IsFor : List ℕ → List ℕ → List ℕ → IndexKind → List ℕ → Content
    → Option (Vec ℕ Global) → Type 0
IsFor before f n kind bytes c value =
    bytes_to_put value ≡ unless_stands (finite.get c (entry_path before f n kind)) bytes

-- one more empty entry is given, where the sizes of those that stand are these
abbrev pub IsEmptyNoted : List ℕ → List ℕ → List ℕ → IndexKind → BTreeMap (List ℕ) ℕ
    → (old new : Given) → Type 0
IsEmptyNoted before f n kind sizes old new =
    IsNoted before f n kind old new
    (λ value. (c : Content) → AreSizes before f c sizes → IsFor before f n kind [] c value)

-- one more entry with these bytes is given
abbrev pub IsCopyNoted : Option Content → List ℕ → List ℕ → List ℕ → IndexKind → List ℕ
    → (old new : Given) → Type 0
IsCopyNoted told before f n kind bytes old new =
    IsNoted before f n kind old new
    (λ value. IfSome told (λ c. IsFor before f n kind bytes c value))

-- an empty entry is given, if one is asked for
abbrev pub IsNotedWhere : List ℕ → List ℕ → List ℕ → Option IndexKind → BTreeMap (List ℕ) ℕ
    → (old new : Given) → Type 0
IsNotedWhere before f n None sizes old new = new ≡ old
IsNotedWhere before f n (Some kind) sizes old new = IsEmptyNoted before f n kind sizes old new

-- the entry that tells when the backup finished, and that of a differential one
abbrev pub finish_of : Marks → Option IndexKind
finish_of m = option_map entry.Finished m.manifest

abbrev pub difference_of : Marks → Option IndexKind
difference_of m = option_map (λ (_ : ℕ). entry.Differential) m.differential

-- the empty entries of a backup are given, by its marks
pub record AreMarksNoted (before f n : List ℕ) (m : Marks) (sizes : BTreeMap (List ℕ) ℕ)
    (old new : Given) : Type 0
  where
    pub first : Given
    pub second : Given
    pub start : IsEmptyNoted before f n (entry.Started (start_of m)) sizes old first
    pub finish : IsNotedWhere before f n (finish_of m) sizes first second
    pub difference : IsNotedWhere before f n (difference_of m) sizes second new

-- the entry of the token map is given where the token map stands
abbrev pub IsRingOf : Option Content → List ℕ → List ℕ → List ℕ → Option (List ℕ)
    → (old new : Given) → Type 0
IsRingOf told before f n None old new = new ≡ old
IsRingOf told before f n (Some bytes) old new =
    IsCopyNoted told before f n entry.Tokenmap bytes old new

-- the same, whatever the storage answers of the token map
abbrev pub IsRingNoted : Option Content → List ℕ → List ℕ → List ℕ → (old new : Given) → Type 0
IsRingNoted told before f n old new =
    (found : Option (List ℕ)) × AnswersBytes (meta_path before f n Tokenmap) told found
    × IsRingOf told before f n found old new

-- the entries of a backup are given but that of its manifest
abbrev pub IsRestNoted : Option Content → List ℕ → List ℕ → List ℕ → Marks
    → BTreeMap (List ℕ) ℕ → (old new : Given) → Type 0
IsRestNoted told before f n marks sizes old new =
    (mid : Given) × AreMarksNoted before f n marks sizes old mid
    × IsRingNoted told before f n mid new

-- the entry isn't the copy of a manifest
abbrev pub IsNoCopy : IndexKind → Type 0
IsNoCopy entry.Manifest = ⊥
IsNoCopy _ = Unit {0}

-- each entry that the backup gives is among those that are given, but for that of its manifest
abbrev pub IsRestGiven : List ℕ → List ℕ → Content → Given → List ℕ → Type 0
IsRestGiven before f c m n =
    (kind : IndexKind) (bytes : List ℕ) → IsNoCopy kind → given before c f n kind ≡ Some bytes
    → WasGiven m (entry_path before f n kind)

-- what was given is given still, and more of it rightly
pub record Grows (before f : List ℕ) (c : Content) (old new : Given) : Type 0 where
  pub keeps : (path : List ℕ) → WasGiven old path → WasGiven new path
  pub right : AreRightly before f c old → AreRightly before f c new

-- what was found of the backup is this
abbrev pub IsFoundAs : BTreeMap (List ℕ) Marks → List ℕ × Marks → Type 0
IsFoundAs found e = get name_cmp found e.0 ≡ Some e.1

-- of these backups the entries are given but those of their manifests
pub record AreRestsGiven (before f : List ℕ) (c : Content) (es : List (List ℕ × Marks))
    (old new : Given) : Type 0
  where
    pub grows : Grows before f c old new
    pub all : AllByRecursion (λ (e : List ℕ × Marks). IsRestGiven before f c new e.0) es

-- the same, where these are what was found in the content that is told
abbrev pub AreRestsTold : Option Content → List ℕ → List ℕ → BTreeMap (List ℕ) Marks
    → BTreeMap (List ℕ) ℕ → List (List ℕ × Marks) → (old new : Given) → Type 0
AreRestsTold told before f found sizes es old new =
    IfSome told
    (λ c. AreFound f found before f c [] → AreSizes before f c sizes
    → AllByRecursion (IsFoundAs found) es → AreRestsGiven before f c es old new)

-- the sizes are found for this node, and each is of an entry of it
pub record IsSizing (before f node : List ℕ) (sizes : BTreeMap (List ℕ) ℕ) : Type 0 where
  pub node_is : node ≡ f
  pub of_node : AreOfNode before f sizes
