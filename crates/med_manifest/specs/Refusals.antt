-- Which bytes are not the manifest of a backup, and why: the first fault of the bytes.
-- This project's own order: the text, the tables, and then the files one after another.
use Rattle.std.specs.Prelude.{◌≡◌, ◌++◌, ◌∷◌, ℕ, List, map, length, Some, None}
use Rattle.std.specs.List.{Contains}
use Rattle.serde_json.specs.Data.{Data, Items}
use Rattle.serde_json.specs.Find.{as_array}
use Rattle.med_base.specs.declared.key.FileKey.{FileKey}
use Rattle.med_base.specs.Digest.{SpellsMd5}
use Rattle.med_json.specs.Tree.{IsText, IsNoText, items_in}
use Rattle.med_manifest.specs.declared.manifest.FileRecord.{FileRecord}
use Rattle.med_manifest.specs.declared.why.ManifestWhy.{ManifestWhy}
use Rattle.med_manifest.specs.declared.why.ManifestWhy.TheVariants.{NotJson, NotManifest, BadDigest, ForeignPath, DuplicatePath}
use Rattle.med_manifest.specs.Manifest.{IsKeyOf, IsRecordOf, AreRecords, IsManifest}
use Rattle.med_manifest.specs.Named.{Named, IsFirstUnshaped, NamesFiles}

-- the tree is no list, and the place is 0, or this is the place of its first item that is no table
pub data IsUnshapedAt (tree : Data) (at : ℕ) : Type 0 where
  no_list : as_array tree ≡ None → at ≡ 0 → IsUnshapedAt tree at
  no_table : (list : Items) → as_array tree ≡ Some list → IsFirstUnshaped (items_in list) at
      → IsUnshapedAt tree at

-- the first item that is no table stands at this place
abbrev pub IsUnshaped : List Data → ManifestWhy → Type 0
IsUnshaped ds (NotManifest at) = IsFirstUnshaped ds at
IsUnshaped ds _ = ⊥

-- the MD5 of the file is spelled in no way
abbrev pub HasNoDigest : Named → Type 0
HasNoDigest file = (md5 : List ℕ) → SpellsMd5 file.md5 md5 → ⊥

-- the MD5 of the file is spelled, and its path is that of no file of its table in this backup
pub record IsForeign (before f n : List ℕ) (file : Named) : Type 0 where
  pub md5 : List ℕ
  pub spelled : SpellsMd5 file.md5 md5
  pub foreign : (key : FileKey) → IsKeyOf before f n file key → ⊥

-- the file has neither fault, and is of a key that an earlier file has
pub record IsRepeated (before f n : List ℕ) (earlier : List FileRecord) (file : Named)
    : Type 0 where
  pub again : FileRecord
  pub is : IsRecordOf before f n file again
  pub stood : Contains (map (λ (r : FileRecord). r.key) earlier) again.key

-- the file behind these has this fault
abbrev pub HasFault : List ℕ → List ℕ → List ℕ → List FileRecord → Named → ManifestWhy → Type 0
HasFault before f n earlier file (BadDigest at) = (at ≡ length earlier) × HasNoDigest file
HasFault before f n earlier file (ForeignPath path) = (path ≡ file.path) × IsForeign before f n file
HasFault before f n earlier file (DuplicatePath path) =
    (path ≡ file.path) × IsRepeated before f n earlier file
HasFault before f n earlier file _ = ⊥

-- the first of these files that has a fault has this one; all that stand before it have none
pub record IsFirstFault (before f n : List ℕ) (files : List Named) (why : ManifestWhy)
    : Type 0 where
  pub good : List Named
  pub bad : Named
  pub rest : List Named
  pub files_are : files ≡ good ++ bad ∷ rest
  pub earlier : List FileRecord
  pub records : AreRecords before f n good earlier
  pub fault : HasFault before f n earlier bad why

-- the bytes name files, the first of which that has a fault has this one
pub record NamesFault (before f n bytes : List ℕ) (why : ManifestWhy) : Type 0 where
  pub files : List Named
  pub names : NamesFiles bytes files
  pub first : IsFirstFault before f n files why

-- why the bytes are not the manifest of the backup n of the node f
abbrev pub IsRefused : List ℕ → List ℕ → List ℕ → List ℕ → ManifestWhy → Type 0
IsRefused before f n bytes NotJson = IsNoText bytes
IsRefused before f n bytes (NotManifest at) =
    (tree : Data) × IsText bytes tree × IsUnshapedAt tree at
IsRefused before f n bytes why = NamesFault before f n bytes why

-- the bytes are the manifest of the backup with no files whatever
abbrev pub IsNoManifest : List ℕ → List ℕ → List ℕ → List ℕ → Type 0
IsNoManifest before f n bytes = (files : List FileRecord) → IsManifest before f n bytes files → ⊥

-- bytes that are refused are the manifest of the backup with no files whatever
abbrev pub RefusedAreNone : Type 0
RefusedAreNone = (before f n bytes : List ℕ) (why : ManifestWhy) → IsRefused before f n bytes why
    → IsNoManifest before f n bytes

-- bytes are refused for one cause at most, with one place or path
abbrev pub CausesAreOne : Type 0
CausesAreOne = (before f n bytes : List ℕ) (a b : ManifestWhy) → IsRefused before f n bytes a
    → IsRefused before f n bytes b → a ≡ b
