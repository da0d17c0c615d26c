-- The canonical text of a manifest: a JSON list of tables, each with its files, with no space.
-- This project's own form: keys in byte order, tables and files in order of their keys.
use Rattle.std.specs.Prelude.{◌≡◌, ◌<◌, ◌^◌, ℕ, Bool, ◌&&◌, length, slice_index, List, [], ◌∷◌, map, codes, if◌then◌else◌}
use Rattle.std.specs.List.{AllByRecursion}
use Rattle.std.specs.Str.{bytes_eq}
use Rattle.hex.specs.Hex.{encode_lower}
use Rattle.serde_json.specs.Data.{Data, string, number, unsigned, array, object, member, no_members}
use Rattle.serde_json.specs.View.{items_of}
use Rattle.serde_json.specs.Written.{compact_text}
use Rattle.med_base.specs.declared.fingerprint.Fingerprint.{Fingerprint}
use Rattle.med_manifest.specs.declared.manifest.FileRecord.{FileRecord}

-- files of one table, the first of them named too
pub record Table : Type 0 where
  pub first : FileRecord
  pub files : List FileRecord

abbrev pub is_same_table : FileRecord → FileRecord → Bool
is_same_table a b = bytes_eq a.key.keyspace b.key.keyspace && bytes_eq a.key.table b.key.table

-- a file put before tables: into the first of them, or into one of its own
abbrev pub with_file : FileRecord → List Table → List Table
with_file f [] = record { first = f; files = f ∷ [] } ∷ []
with_file f (t ∷ ts) =
    if is_same_table f t.first then record { first = f; files = f ∷ t.files } ∷ ts
    else record { first = f; files = f ∷ [] } ∷ t ∷ ts

-- the tables of files that stand in order
abbrev pub tables : List FileRecord → List Table
tables [] = []
tables (f ∷ fs) = with_file f (tables fs)

abbrev pub file_data : FileRecord → Data
file_data f =
    object (member (codes "MD5") (string (encode_lower f.fingerprint.md5))
    (member (codes "path") (string f.path)
    (member (codes "size") (number (unsigned f.fingerprint.size)) no_members)))

abbrev pub table_data : Table → Data
table_data t =
    object (member (codes "columnfamily") (string t.first.key.table)
    (member (codes "keyspace") (string t.first.key.keyspace)
    (member (codes "objects") (array (items_of (map file_data t.files))) no_members)))

abbrev pub manifest_data : List FileRecord → Data
manifest_data files = array (items_of (map table_data (tables files)))

abbrev pub manifest_text : List FileRecord → List ℕ
manifest_text files = compact_text (manifest_data files)

-- the digest is sixteen bytes
pub record IsDigest (md5 : List ℕ) : Type 0 where
  pub length : length md5 ≡ 16
  pub bytes : (i : ℕ) → slice_index md5 i < 256

-- the size is below 2 ^ 64, and the digest is one
pub record IsFingerprint (print : Fingerprint) : Type 0 where
  pub size : print.size < 2 ^ 64
  pub digest : IsDigest print.md5

-- the fingerprint of each of the files is
abbrev pub HaveFingerprints : List FileRecord → Type 0
HaveFingerprints files = AllByRecursion (λ (r : FileRecord). IsFingerprint r.fingerprint) files
