-- What `write` gives is a manifest with the files that it was given.
use Rattle.std.proofs.Common.{◌≡◌, ◌<◌, ℕ, Bool, true, false, List, [], ◌∷◌, ◌++◌, map, flat_map, length, slice_index, Some, inl, refl, ap, sym, ◌∙◌}
use Rattle.std.proofs.lemmas.List.{map-append}
use Rattle.std.specs.List.{AllByRecursion, AllZip, IsDistinct}
use Rattle.std.specs.Str.{IsUtf8}
use Rattle.std.specs.declared.cmp.Ordering.TheVariants.{Less}
use Rattle.hex.specs.Hex.{encode_lower}
use Rattle.hex.proofs.HexLemmas.{decode_of-encode_lower}
use Rattle.serde_json.specs.Data.{Data}
use Rattle.serde_json.specs.Read.{read}
use Rattle.serde_json.specs.View.{items_of}
use Rattle.med_base.specs.declared.key.FileKey.{FileKey}
use Rattle.med_base.specs.Digest.{SpellsMd5}
use Rattle.med_base.specs.Key.{key_cmp, key_eq, AreRising, IsKey}
use Rattle.med_json.proofs.TreeLemmas.{items_in-of}
use Rattle.med_manifest.specs.declared.manifest.FileRecord.{FileRecord}
use Rattle.med_manifest.specs.Manifest.{IsPathOf, IsRecordOf, IsManifest}
use Rattle.med_manifest.specs.Named.{Named, IsFile, IsTable, NamesFiles}
use Rattle.med_manifest.specs.Written.{HaveFingerprints, Table, tables, with_file, is_same_table, file_data, table_data, manifest_data}
use Rattle.med_manifest.proofs.Tables.{same_names}

-- the file as `write` names it
abbrev pub named_of : FileRecord → Named
named_of r = record {
  keyspace = r.key.keyspace;
  table = r.key.table;
  path = r.path;
  size = r.fingerprint.size;
  md5 = encode_lower r.fingerprint.md5;
}

-- a file of the table of these names
pub record IsAt (keyspace table : List ℕ) (r : FileRecord) : Type 0 where
  pub keyspace_is : r.key.keyspace ≡ keyspace
  pub table_is : r.key.table ≡ table

-- files of one table, and the first of them gives the table's names
pub record IsOneTable (t : Table) : Type 0 where
  pub first_is : IsKey t.first.key
  pub files_are : AllByRecursion (IsAt t.first.key.keyspace t.first.key.table) t.files

-- a record's object is that file
file_is : (keyspace table : List ℕ) (r : FileRecord) → IsAt keyspace table r
    → IsFile keyspace table (file_data r) (named_of r)
file_is keyspace table r at = record {
  keyspace_is = at.keyspace_is;
  table_is = at.table_is;
  path_is = refl;
  size_is = refl;
  md5_is = refl;
}

files_zip : (keyspace table : List ℕ) (rs : List FileRecord)
    → AllByRecursion (IsAt keyspace table) rs
    → AllZip (IsFile keyspace table) (map file_data rs) (map named_of rs)
files_zip keyspace table [] all = tt
files_zip keyspace table (r ∷ rs) all =
    (file_is keyspace table r all.0, files_zip keyspace table rs all.1)

-- a table's object is that table
table_is : (t : Table) → IsOneTable t → IsTable (table_data t) (map named_of t.files)
table_is t one = record {
  keyspace = t.first.key.keyspace;
  table = t.first.key.table;
  keyspace_is = refl;
  table_is = refl;
  keyspace_fits = one.first_is.keyspace;
  table_fits = one.first_is.table;
  objects = map file_data t.files;
  objects_are = ap (λ (ds : List Data). Some ds) (items_in-of (map file_data t.files));
  files_are = files_zip t.first.key.keyspace t.first.key.table t.files one.files_are;
}

tables_zip : (ts : List Table) → AllByRecursion IsOneTable ts
    → AllZip IsTable (map table_data ts) (map (λ (t : Table). map named_of t.files) ts)
tables_zip [] all = tt
tables_zip (t ∷ ts) all = (table_is t all.0, tables_zip ts all.1)

-- a file put before tables of one table each leaves such tables
one_more : (r : FileRecord) (t : Table) (ts : List Table) → IsKey r.key → IsOneTable t
    → AllByRecursion IsOneTable ts → (b : Bool) → is_same_table r t.first ≡ b
    → AllByRecursion IsOneTable (with_file r (t ∷ ts))
one_more r t ts key one all true e =
    let names = same_names r t.first e in
    let files : AllByRecursion (IsAt r.key.keyspace r.key.table) t.files =
    rw (names.0, names.1) one.files_are in
    let at : IsAt r.key.keyspace r.key.table r = record { keyspace_is = refl; table_is = refl } in
    rw e (record { first_is = key; files_are = (at, files) }, all)
one_more r t ts key one all false e =
    let at : IsAt r.key.keyspace r.key.table r = record { keyspace_is = refl; table_is = refl } in
    rw e (record { first_is = key; files_are = (at, tt) }, (one, all))

with_one : (r : FileRecord) (ts : List Table) → IsKey r.key → AllByRecursion IsOneTable ts
    → AllByRecursion IsOneTable (with_file r ts)
with_one r [] key all =
    let at : IsAt r.key.keyspace r.key.table r = record { keyspace_is = refl; table_is = refl } in
    (record { first_is = key; files_are = (at, tt) }, tt)
with_one r (t ∷ ts) key all = one_more r t ts key all.0 all.1 _ refl

each_is_one : (rs : List FileRecord) → AllByRecursion (λ (r : FileRecord). IsKey r.key) rs
    → AllByRecursion IsOneTable (tables rs)
each_is_one [] keys = tt
each_is_one (r ∷ rs) keys = with_one r (tables rs) keys.0 (each_is_one rs keys.1)

-- the files of these tables, table after table
files_in : List Table → List FileRecord
files_in ts = flat_map (λ (fs : List FileRecord). fs) (map (λ (t : Table). t.files) ts)

in_turn : (r : FileRecord) (t : Table) (ts : List Table) (b : Bool) → is_same_table r t.first ≡ b
    → files_in (with_file r (t ∷ ts)) ≡ r ∷ files_in (t ∷ ts)
unfolding files_in
in_turn r t ts true e = rw e refl
in_turn r t ts false e = rw e refl

files_with : (r : FileRecord) (ts : List Table) → files_in (with_file r ts) ≡ r ∷ files_in ts
unfolding files_in
files_with r [] = refl
files_with r (t ∷ ts) = in_turn r t ts _ refl

same_files : (rs : List FileRecord) → files_in (tables rs) ≡ rs
unfolding files_in
same_files [] = refl
same_files (r ∷ rs) =
    files_with r (tables rs) ∙ ap (λ (fs : List FileRecord). r ∷ fs) (same_files rs)

-- the files that tables name, table after table
named_in : List Table → List Named
named_in ts =
    flat_map (λ (table : List Named). table) (map (λ (t : Table). map named_of t.files) ts)

same_named : (ts : List Table) → named_in ts ≡ map named_of (files_in ts)
unfolding files_in named_in
same_named [] = refl
same_named (t ∷ ts) =
    ap (λ (more : List Named). map named_of t.files ++ more) (same_named ts)
    ∙ sym (map-append named_of t.files (files_in ts))

-- a text that reads as the tree of these files names them
names_files : (text : List ℕ) (files : List FileRecord) → IsUtf8 text
    → read text ≡ Some (manifest_data files)
    → AllByRecursion (λ (r : FileRecord). IsKey r.key) files
    → NamesFiles text (map named_of files)
unfolding named_in
names_files text files utf8 reads keys = record {
  tree = manifest_data files;
  text = record { utf8 = utf8; reads = reads };
  has = record {
    list = items_of (map table_data (tables files));
    list_is = refl;
    tables = record {
      tables = map (λ (t : Table). map named_of t.files) (tables files);
      tables_are =
          rw (items_in-of (map table_data (tables files)))
          (tables_zip (tables files) (each_is_one files keys));
      files_are = ap (map named_of) (sym (same_files files)) ∙ sym (same_named (tables files));
    };
  };
}

-- the digest is spelled by its digits
spelled : (md5 : List ℕ) → length md5 ≡ 16 → ((i : ℕ) → slice_index md5 i < 256)
    → SpellsMd5 (encode_lower md5) md5
spelled md5 sixteen bytes =
    record { length = sixteen; bytes = bytes; form = inl (decode_of-encode_lower md5 bytes) }

each_record : (before f n : List ℕ) (rs : List FileRecord)
    → AllByRecursion (λ (r : FileRecord). IsKey r.key) rs
    → AllByRecursion (λ (r : FileRecord). IsPathOf before f n r.key r.path) rs
    → HaveFingerprints rs
    → AllZip (IsRecordOf before f n) (map named_of rs) rs
each_record before f n [] keys places digests = tt
each_record before f n (r ∷ rs) keys places digests =
    let is : IsRecordOf before f n (named_of r) r = record {
      key_is = record {
        keyspace_is = refl;
        table_is = refl;
        key_is = keys.0;
        place_is = places.0;
      };
      path_is = refl;
      size_is = refl;
      md5_is = spelled r.fingerprint.md5 digests.0.digest.length digests.0.digest.bytes;
    } in
    (is, each_record before f n rs keys.1 places.1 digests.1)

-- a key that is below others is none of them
unequal_to_later : (k : FileKey) (ks : List FileKey) → AllByRecursion (λ j. key_cmp k j ≡ Less) ks
    → AllByRecursion (λ j. key_eq k j ≡ false) ks
unequal_to_later k [] all = tt
unequal_to_later k (j ∷ ks) all = (rw all.0 refl, unequal_to_later k ks all.1)

-- rising keys are distinct
pub distinct : (ks : List FileKey) → AreRising ks → IsDistinct key_eq ks
unfolding IsDistinct
distinct [] rise = tt
distinct (k ∷ ks) rise = (unequal_to_later k ks rise.0, distinct ks rise.1)

-- a text that reads as the tree of these files is a manifest with them
pub is_manifest : (before f n text : List ℕ) (files : List FileRecord) → IsUtf8 text
    → read text ≡ Some (manifest_data files) → AreRising (map (λ (r : FileRecord). r.key) files)
    → HaveFingerprints files
    → AllByRecursion (λ (r : FileRecord). IsKey r.key) files
    → AllByRecursion (λ (r : FileRecord). IsPathOf before f n r.key r.path) files
    → IsManifest before f n text files
is_manifest before f n text files utf8 reads rise digests keys places = record {
  named = map named_of files;
  names = names_files text files utf8 reads keys;
  records = record {
    each = each_record before f n files keys places digests;
    once = distinct (map (λ (r : FileRecord). r.key) files) rise;
  };
}
