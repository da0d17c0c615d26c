-- One text is the manifest of one list of files at most.
use Rattle.std.proofs.Common.{◌≡◌, ◌∙◌, ℕ, List, [], ◌∷◌, ◌++◌, flat_map, codes, inl, inr, sym, ap, subst, append_assoc}
use Rattle.std.specs.List.{AllZip}
use Rattle.serde_json.specs.Data.{Data, Items}
use Rattle.serde_json.specs.Find.{as_array}
use Rattle.med_base.specs.declared.key.FileKey.{FileKey}
use Rattle.med_base.proofs.Lists.{zip_once}
use Rattle.med_base.proofs.Paths.{HasNoSlash, component_no_slash}
use Rattle.med_base.proofs.Options.{some_once}
use Rattle.med_base.proofs.Slashes.{slash_within}
use Rattle.med_json.specs.Tree.{items_in, text_at, number_at, list_at}
use Rattle.med_json.proofs.TreeLemmas.{tree_once}
use Rattle.med_manifest.specs.declared.manifest.FileRecord.{FileRecord}
use Rattle.med_manifest.specs.Manifest.{IsPathOf, IsKeyOf, IsRecordOf, ManifestsAreOne}
use Rattle.med_manifest.specs.Named.{Named, IsFile, IsTable, AreTables, HasFiles, NamesFiles}
use Rattle.med_manifest.proofs.Digests.{digest_once}

file_once : (keyspace table : List ℕ) (d : Data) (a b : Named) → IsFile keyspace table d a
    → IsFile keyspace table d b → a ≡ b
file_once keyspace table d a b p q =
    let keyspaces = p.keyspace_is ∙ sym q.keyspace_is in
    let tables = p.table_is ∙ sym q.table_is in
    let paths = some_once (text_at (codes "path") d) a.path b.path p.path_is q.path_is in
    let sizes = some_once (number_at (codes "size") d) a.size b.size p.size_is q.size_is in
    let digests = some_once (text_at (codes "MD5") d) a.md5 b.md5 p.md5_is q.md5_is in
    λ i. record {
      keyspace = keyspaces i;
      table = tables i;
      path = paths i;
      size = sizes i;
      md5 = digests i;
    }

table_once : (d : Data) (a b : List Named) → IsTable d a → IsTable d b → a ≡ b
table_once d a b p q =
    let keyspaces = some_once (text_at (codes "keyspace") d) q.keyspace p.keyspace q.keyspace_is
    p.keyspace_is in
    let tables = some_once (text_at (codes "columnfamily") d) q.table p.table q.table_is
    p.table_is in
    let lists = some_once (list_at (codes "objects") d) q.objects p.objects q.objects_are
    p.objects_are in
    let other : AllZip (IsFile p.keyspace p.table) p.objects b =
    subst (λ (ks : List ℕ). AllZip (IsFile ks p.table) p.objects b) keyspaces
    (subst (λ (t : List ℕ). AllZip (IsFile q.keyspace t) p.objects b) tables
    (subst (λ (ds : List Data). AllZip (IsFile q.keyspace q.table) ds b) lists q.files_are)) in
    zip_once (IsFile p.keyspace p.table) (file_once p.keyspace p.table) p.objects a b p.files_are
    other

tables_once : (ds : List Data) (a b : List Named) → AreTables ds a → AreTables ds b → a ≡ b
tables_once ds a b p q =
    let same = zip_once IsTable table_once ds p.tables q.tables p.tables_are q.tables_are in
    p.files_are ∙ ap (flat_map (λ (table : List Named). table)) same ∙ sym q.files_are

pub named_once : (bytes : List ℕ) (a b : List Named) → NamesFiles bytes a → NamesFiles bytes b
    → a ≡ b
named_once bytes a b p q =
    let trees = tree_once bytes q.tree p.tree q.text p.text in
    let other : HasFiles p.tree b = subst (λ (d : Data). HasFiles d b) trees q.has in
    let lists = some_once (as_array p.tree) other.list p.has.list other.list_is p.has.list_is in
    tables_once (items_in p.has.list) a b p.has.tables
    (subst (λ (items : Items). AreTables (items_in items) b) lists other.tables)

-- ---- the key of a path

-- two texts without a slash behind the last slash of one text
same_end : (x y a b : List ℕ) → HasNoSlash a → HasNoSlash b → x ++ 47 ∷ a ≡ y ++ 47 ∷ b → a ≡ b
same_end [] [] a b ha hb e = cc
same_end [] (c ∷ y) a b ha hb e =
    let is : a ≡ y ++ 47 ∷ b = cc in absurd (slash_within y b (subst HasNoSlash is ha))
same_end (c ∷ x) [] a b ha hb e =
    let is : b ≡ x ++ 47 ∷ a = cc in absurd (slash_within x a (subst HasNoSlash is hb))
same_end (c ∷ x) (d ∷ y) a b ha hb e = same_end x y a b ha hb (cc)

-- a path of the backup ends with a slash and the name of the file
ends_with : (before f n : List ℕ) (key : FileKey) (path : List ℕ) → IsPathOf before f n key path
    → (x : List ℕ) × (path ≡ x ++ 47 ∷ key.file)
ends_with before f n key path place = elim place [
  | inl is ↦ (
    before ++ (f ++ (codes "/data/" ++ (key.keyspace ++ 47 ∷ key.table))),
    is ∙ simp append_assoc,
  )
  | inr is ↦ (
    before ++ (f ++ 47 ∷ (n ++ (codes "/data/" ++ (key.keyspace ++ 47 ∷ key.table)))),
    is ∙ simp append_assoc,
  )
]

key_once : (before f n : List ℕ) (file : Named) (a b : FileKey) → IsKeyOf before f n file a
    → IsKeyOf before f n file b → a ≡ b
key_once before f n file a b p q =
    let keyspaces = p.keyspace_is ∙ sym q.keyspace_is in
    let tables = p.table_is ∙ sym q.table_is in
    let end_a = ends_with before f n a file.path p.place_is in
    let end_b = ends_with before f n b file.path q.place_is in
    let files = same_end end_a.0 end_b.0 a.file b.file (component_no_slash a.file p.key_is.file)
    (component_no_slash b.file q.key_is.file) (sym end_a.1 ∙ end_b.1) in
    λ i. record { keyspace = keyspaces i; table = tables i; file = files i }

pub record_once : (before f n : List ℕ) (file : Named) (a b : FileRecord)
    → IsRecordOf before f n file a → IsRecordOf before f n file b → a ≡ b
record_once before f n file a b p q =
    let keys = key_once before f n file a.key b.key p.key_is q.key_is in
    let paths = p.path_is ∙ sym q.path_is in
    let sizes = p.size_is ∙ sym q.size_is in
    let digests = digest_once file.md5 a.fingerprint.md5 b.fingerprint.md5 p.md5_is q.md5_is in
    λ i. record {
      key = keys i;
      path = paths i;
      fingerprint = record { size = sizes i; md5 = digests i };
    }

pub records_once : (before f n : List ℕ) (named : List Named) (a b : List FileRecord)
    → AllZip (IsRecordOf before f n) named a → AllZip (IsRecordOf before f n) named b → a ≡ b
records_once before f n =
    zip_once (IsRecordOf before f n) (record_once before f n)

pub manifest_once : ManifestsAreOne
manifest_once before f n bytes a b p q =
    let files = named_once bytes q.named p.named q.names p.names in
    let other : AllZip (IsRecordOf before f n) p.named b =
    subst (λ (fs : List Named). AllZip (IsRecordOf before f n) fs b) files q.records.each in
    records_once before f n p.named a b p.records.each other
