-- The key of a named file is told by the kind of its path.
use Rattle.std.proofs.Common.{◌≡◌, ◌∙◌, ℕ, Bool, true, false, List, Some, None, inl, inr, refl, sym, ap, subst}
use Rattle.std.specs.Prelude.{if◌then◌else◌}
use Rattle.std.proofs.lemmas.Bool.{and_parts}
use Rattle.med_base.specs.declared.key.FileKey.{FileKey}
use Rattle.med_base.specs.Classify.{kind_of}
use Rattle.med_base.specs.Key.{IsKey}
use Rattle.med_base.specs.KindRelation.{IsOfKind}
use Rattle.med_base.specs.Kinds.{Kind, Shared, Own, Meta, Entry, Latest, Stray, Other, IsFqdn, IsBackupName, IsBuilt}
use Rattle.med_base.specs.Layout.{shared_path, own_path}
use Rattle.med_base.proofs.Bools.{same_bytes, bytes_same}
use Rattle.med_base.proofs.KindsMade.{built_is_told}
use Rattle.med_manifest.specs.Manifest.{IsPathOf, IsKeyOf}
use Rattle.med_manifest.specs.Named.{Named}
use Rattle.med_manifest.specs.Places.{is_of_table, file_told, key_told}

some_from : {X : Type 0} (b : Bool) (x y : X) → (if b then Some x else None) ≡ Some y
    → (b ≡ true) × (x ≡ y)
some_from true x y e = (refl, cc)
some_from false x y e = absurd (cc)

-- a key of the table of the named file has its names
pub same_table : (file : Named) (key : FileKey) → is_of_table file key ≡ true
    → (key.keyspace ≡ file.keyspace) × (key.table ≡ file.table)
same_table file key e =
    let parts = and_parts _ _ e in
    (same_bytes key.keyspace file.keyspace parts.0, same_bytes key.table file.table parts.1)

-- a key of the table of the named file is told by its file
key_is : (file : Named) (key : FileKey) → is_of_table file key ≡ true
    → key ≡ key_told file key.file
key_is file key e =
    let parts = and_parts _ _ e in
    let keyspace = same_bytes key.keyspace file.keyspace parts.0 in
    let table = same_bytes key.table file.table parts.1 in
    λ i. record { keyspace = keyspace i; table = table i; file = key.file }

key_at : (before f n : List ℕ) (file : Named) (key : FileKey) (text : List ℕ)
    → is_of_table file key ≡ true → key.file ≡ text → IsKey key
    → IsPathOf before f n key file.path → IsKeyOf before f n file (key_told file text)
key_at before f n file key text e same valid place =
    let is : key ≡ key_told file text = key_is file key e ∙ ap (key_told file) same in
    record {
      keyspace_is = refl;
      table_is = refl;
      key_is = subst IsKey is valid;
      place_is = subst (λ (k : FileKey). IsPathOf before f n k file.path) is place;
    }

-- a file that is told is that of a key
pub told_is : (before f n : List ℕ) (file : Named) (kind : Kind) (text : List ℕ)
    → IsOfKind before file.path kind → file_told f n file kind ≡ Some text
    → IsKeyOf before f n file (key_told file text)
told_is before f n file (Shared owner key) text is e =
    let found = some_from _ key.file text e in
    let tests = and_parts _ _ found.0 in
    let owner_is = same_bytes owner f tests.0 in
    let path : file.path ≡ shared_path before owner key = cc (sym is.built) in
    key_at before f n file key text tests.1 found.1 is.valid.1
    (inl (path ∙ ap (λ (o : List ℕ). shared_path before o key) owner_is))
told_is before f n file (Own owner backup key) text is e =
    let found = some_from _ key.file text e in
    let tests = and_parts _ _ found.0 in
    let more = and_parts _ _ tests.1 in
    let owner_is = same_bytes owner f tests.0 in
    let backup_is = same_bytes backup n more.0 in
    let path : file.path ≡ own_path before owner backup key = cc (sym is.built) in
    key_at before f n file key text more.1 found.1 is.valid.2
    (inr (path ∙ ap (λ (o : List ℕ). own_path before o backup key) owner_is
    ∙ ap (λ (b : List ℕ). own_path before f b key) backup_is))
told_is before f n file (Meta owner backup kind) text is e = absurd (cc)
told_is before f n file (Entry owner backup kind) text is e = absurd (cc)
told_is before f n file (Latest owner kind) text is e = absurd (cc)
told_is before f n file (Stray owner backup) text is e = absurd (cc)
told_is before f n file Other text is e = absurd (cc)

of_table : (file : Named) (key : FileKey) → key.keyspace ≡ file.keyspace
    → key.table ≡ file.table → is_of_table file key ≡ true
of_table file key keyspace table =
    rw (keyspace, table, bytes_same file.keyspace, bytes_same file.table) refl

-- the file of a key of the backup is told
pub is_told : (before f n : List ℕ) (file : Named) (key : FileKey) → IsFqdn f → IsBackupName n
    → IsKeyOf before f n file key
    → file_told f n file (kind_of before file.path) ≡ Some key.file
is_told before f n file key node name is =
    let table = of_table file key is.keyspace_is is.table_is in
    elim is.place_is [
      | inl path ↦
          let built : IsBuilt before file.path (Shared f key) =
          record { valid = (node, is.key_is); built = ap Some (sym path) } in
          rw (built_is_told before file.path (Shared f key) built, bytes_same f, table) refl
      | inr path ↦
          let built : IsBuilt before file.path (Own f n key) =
          record { valid = (node, name, is.key_is); built = ap Some (sym path) } in
          rw (built_is_told before file.path (Own f n key) built, bytes_same f, bytes_same n, table)
          refl
    ]
