-- The backups of a node that a content has, as rows.
-- This project's own model of the tool: a list of rows, where the program has objects.
use Rattle.std.specs.Prelude.{◌≡◌, ◌≤◌, ℕ, Bool, List, [], ◌∷◌, map, Option, Some, None, is_some, option_map}
use Rattle.std.specs.Cmp.Lexicographic.{slice_cmp}
use Rattle.std.specs.FinMap.{FinMap, get}
use Rattle.std.specs.List.{AllByRecursion, Contains}
use Rattle.std.specs.Ordering.{nat_cmp, on, then_cmp}
use Rattle.std.specs.declared.cmp.Ordering.{Ordering}
use Rattle.std.specs.declared.cmp.Ordering.TheVariants.{Less}
use Rattle.med_base.specs.declared.fingerprint.Fingerprint.{Fingerprint}
use Rattle.med_base.specs.declared.key.FileKey.{FileKey}
use Rattle.med_base.specs.declared.layout.MetaKind.{MetaKind}
use Rattle.med_base.specs.declared.layout.MetaKind.TheVariants.{Schema, Differential, Manifest}
use Rattle.med_base.specs.Content.{Content, Object}
use Rattle.med_base.specs.Key.{key_cmp}
use Rattle.med_base.specs.Kinds.{IsBackupName}
use Rattle.med_base.specs.Layout.{meta_path}
use Rattle.med_manifest.specs.declared.manifest.FileRecord.{FileRecord}
use Rattle.med_manifest.specs.Whole.{HasManifest}

-- the files of a backup by their keys
abbrev pub FileMap : Type 0
FileMap = FinMap key_cmp Fingerprint

-- what the model has of a backup; it is finished where it has a second of its manifest, and has
-- files where that manifest reads
pub record Row : Type 0 where
  pub name : List ℕ
  pub is_differential : Bool
  pub started : ℕ
  pub finished : Option ℕ
  pub files : Option FileMap

-- the second of an object that tells of a backup, if it stands
abbrev pub second_of : Content → List ℕ → List ℕ → List ℕ → MetaKind → Option ℕ
second_of c before f n kind =
    option_map (λ (o : Object). o.second) (get c (meta_path before f n kind))

-- the text is a name, and one of the four objects that tell of a backup stands
pub record IsBackup (c : Content) (before f n : List ℕ) : Type 0 where
  pub name : IsBackupName n
  pub kind : MetaKind
  pub second : ℕ
  pub stands : second_of c before f n kind ≡ Some second

-- the manifest of the backup stands, whether or not it reads
abbrev pub IsFinished : Content → List ℕ → List ℕ → List ℕ → Type 0
IsFinished c before f n = (second : ℕ) × (second_of c before f n Manifest ≡ Some second)

-- when the backup started: the second of its schema, else the least of the other objects that stand
pub data IsStarted (c : Content) (before f n : List ℕ) (second : ℕ) : Type 0 where
  by_schema : second_of c before f n Schema ≡ Some second → IsStarted c before f n second
  by_others : second_of c before f n Schema ≡ None → (kind : MetaKind)
      → second_of c before f n kind ≡ Some second
      → ((other : MetaKind) (later : ℕ) → second_of c before f n other ≡ Some later
      → second ≤ later) → IsStarted c before f n second

-- the map has each of these files with its fingerprint, and nothing else
pub record IsFileMap (files : List FileRecord) (m : FileMap) : Type 0 where
  pub has : AllByRecursion (λ (r : FileRecord). get m r.key ≡ Some r.fingerprint) files
  pub only : (k : FileKey) (print : Fingerprint) → get m k ≡ Some print
      → Contains (map (λ (r : FileRecord). r.key) files) k

-- the files that the manifest of the backup names, where it stands and reads
abbrev pub IsFilesOf : Content → List ℕ → List ℕ → List ℕ → Option FileMap → Type 0
IsFilesOf c before f n (Some m) =
    (files : List FileRecord) × HasManifest before f n c files × IsFileMap files m
IsFilesOf c before f n None = (files : List FileRecord) → HasManifest before f n c files → ⊥

-- this is what a row tells of a backup of the node, but for its files
pub record IsListed (c : Content) (before f name : List ℕ) (differential : Bool) (start : ℕ)
    (finish : Option ℕ) : Type 0
  where
    pub backup : IsBackup c before f name
    pub mode : differential ≡ is_some (second_of c before f name Differential)
    pub started : IsStarted c before f name start
    pub finished : finish ≡ second_of c before f name Manifest

-- the row is that of a backup of the node
pub record IsRow (c : Content) (before f : List ℕ) (row : Row) : Type 0 where
  pub listed : IsListed c before f row.name row.is_differential row.started row.finished
  pub files : IsFilesOf c before f row.name row.files

-- rows are in order of their start, and then of their names
abbrev pub row_cmp : Row → Row → Ordering
row_cmp =
    then_cmp (on (λ (r : Row). r.started) nat_cmp)
    (on (λ (r : Row). r.name) (slice_cmp nat_cmp))

-- each row is below all that follow, so none stands twice
abbrev pub AreInOrder : List Row → Type 0
AreInOrder [] = Unit {0}
AreInOrder (r ∷ rs) = AllByRecursion (λ q. row_cmp r q ≡ Less) rs × AreInOrder rs

-- these are the backups of the node: one row for each, in order
pub record IsVault (c : Content) (before f : List ℕ) (rows : List Row) : Type 0 where
  pub rows_are : AllByRecursion (IsRow c before f) rows
  pub order : AreInOrder rows
  pub all : (n : List ℕ) → IsBackup c before f n → Contains (map (λ (r : Row). r.name) rows) n
