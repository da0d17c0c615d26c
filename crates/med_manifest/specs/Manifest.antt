-- Which bytes are the manifest of a backup, and of which files, in two steps: the files that the
-- text names (specs/Named.antt), and what each of them is in this backup.
-- After Cassandra Medusa's manifest.json; its exact form is this project's own.
use Rattle.std.specs.Prelude.{◌≡◌, ◌⊎◌, ℕ, List, map}
use Rattle.std.specs.List.{AllByRecursion, AllZip, IsDistinct}
use Rattle.med_base.specs.declared.key.FileKey.{FileKey}
use Rattle.med_base.specs.Digest.{SpellsMd5}
use Rattle.med_base.specs.Key.{key_eq, IsKey}
use Rattle.med_base.specs.Layout.{shared_path, own_path}
use Rattle.med_manifest.specs.declared.manifest.FileRecord.{FileRecord}
use Rattle.med_manifest.specs.Named.{Named, NamesFiles}

-- the path is where a backup n of the node f has the file of the key
abbrev pub IsPathOf : List ℕ → List ℕ → List ℕ → FileKey → List ℕ → Type 0
IsPathOf before f n key path =
    (path ≡ shared_path before f key) ⊎ (path ≡ own_path before f n key)

-- the path of the named file is where the backup has the file of this key, which is of the table
-- that the text says
pub record IsKeyOf (before f n : List ℕ) (file : Named) (key : FileKey) : Type 0 where
  pub keyspace_is : key.keyspace ≡ file.keyspace
  pub table_is : key.table ≡ file.table
  pub key_is : IsKey key
  pub place_is : IsPathOf before f n key file.path

-- what a named file is in the backup
pub record IsRecordOf (before f n : List ℕ) (file : Named) (r : FileRecord) : Type 0 where
  pub key_is : IsKeyOf before f n file r.key
  pub path_is : r.path ≡ file.path
  pub size_is : r.fingerprint.size ≡ file.size
  pub md5_is : SpellsMd5 file.md5 r.fingerprint.md5

-- what each of the named files is in the backup, where no key stands twice
pub record AreRecords (before f n : List ℕ) (named : List Named) (files : List FileRecord)
    : Type 0 where
  pub each : AllZip (IsRecordOf before f n) named files
  pub once : IsDistinct key_eq (map (λ (r : FileRecord). r.key) files)

-- the files have keys, and their paths are where the backup has them
abbrev pub AreFilesOf : List ℕ → List ℕ → List ℕ → List FileRecord → Type 0
AreFilesOf before f n files =
    AllByRecursion (λ (r : FileRecord). IsKey r.key) files
    × AllByRecursion (λ (r : FileRecord). IsPathOf before f n r.key r.path) files

-- the bytes are the manifest of the backup n of the node f, and these are its files
pub record IsManifest (before f n bytes : List ℕ) (files : List FileRecord) : Type 0 where
  pub named : List Named
  pub names : NamesFiles bytes named
  pub records : AreRecords before f n named files

-- one text is the manifest of one list of files at most
abbrev pub ManifestsAreOne : Type 0
ManifestsAreOne = (before f n bytes : List ℕ) (a b : List FileRecord)
    → IsManifest before f n bytes a → IsManifest before f n bytes b → a ≡ b

-- in each backup that has these files, the bytes are its manifest with them
abbrev pub NamesThese : List ℕ → List FileRecord → Type 0
NamesThese bytes files =
    (before f n : List ℕ) → AreFilesOf before f n files → IsManifest before f n bytes files

-- and with no others
abbrev pub NamesNoOther : List ℕ → List FileRecord → Type 0
NamesNoOther bytes files =
    (before f n : List ℕ) → AreFilesOf before f n files
    → (others : List FileRecord) → IsManifest before f n bytes others → others ≡ files
