-- The kind of the path that a builder gives is what it was built from.
use Rattle.std.proofs.Common.{◌≡◌, ◌&&◌, ◌∙◌, ℕ, Bool, true, cond, List, [], ◌∷◌, ◌++◌, codes, bytes_eq, Option, Some, None, is_none, option_map, option_and_then, unwrap_or, append_assoc, refl, sym, ap, ap₂}
use Rattle.std.proofs.lemmas.Bool.{cond-true, cond-false}
use Rattle.std.proofs.lemmas.Option.{same_Some}
use Rattle.med_base.specs.declared.key.FileKey.{FileKey}
use Rattle.med_base.specs.declared.layout.MetaKind.{MetaKind}
use Rattle.med_base.specs.declared.kinds.IndexKind.{IndexKind}
use Rattle.med_base.specs.declared.kinds.LatestKind.{LatestKind}
use Rattle.med_base.specs.Key.{IsKey}
use Rattle.med_base.specs.Entries.{entry_of}
use Rattle.med_base.specs.Names.{fqdn_fault, backup_fault}
use Rattle.med_base.specs.Kinds.{Kind, Shared, Own, Meta, Entry, Latest, Stray, Other, IsFqdn, IsBackupName, HasSecond}
use Rattle.med_base.specs.KindRelation.{BuiltIsTold}
use Rattle.med_base.specs.Classify.{is_component, key_of, backup_kind, node_kind, index_kind, kind_below, kind_of}
use Rattle.med_base.specs.Layout.{shared_path, own_path, meta_path, meta_file, entry_path, entry_file, latest_path, latest_file}
use Rattle.med_base.specs.Prefix.{parts}
use Rattle.med_base.proofs.Paths.{HasNoSlash, component_no_slash}
use Rattle.med_base.proofs.Slashes.{no_slash_by_test, parts_whole, parts_around}
use Rattle.med_base.proofs.PieceLemmas.{behind_made}
use Rattle.med_base.proofs.EntryLemmas.{entry_made, entry_no_slash}
use Rattle.med_base.proofs.MetaLemmas.{meta_no_slash, meta_made, latest_no_slash, latest_made, latest_found}
use Rattle.med_base.proofs.NameLemmas.{fqdn_no_slash, fqdn_not_index, backup_no_slash, backup_not_data}

all_three : (a b c : Bool) → a ≡ true → b ≡ true → c ≡ true → (a && (b && c)) ≡ true
all_three a b c ha hb hc = ap₂ (λ x y. x && (y && c)) ha hb ∙ hc

abbrev pub nested : FileKey → List ℕ
nested key = key.keyspace ++ 47 ∷ (key.table ++ 47 ∷ key.file)

-- ---- the components of each path

key_parts : (key : FileKey) → IsKey key
    → parts (nested key) ≡ key.keyspace ∷ key.table ∷ key.file ∷ []
key_parts key h =
    parts_around key.keyspace (key.table ++ 47 ∷ key.file)
    (component_no_slash key.keyspace h.keyspace)
    ∙ ap (λ ps. key.keyspace ∷ ps)
    (parts_around key.table key.file (component_no_slash key.table h.table)
    ∙ ap (λ ps. key.table ∷ ps) (parts_whole key.file (component_no_slash key.file h.file)))

key_made : (key : FileKey) → IsKey key → key_of (parts (nested key)) ≡ Some key
key_made key h =
    ap key_of (key_parts key h)
    ∙ cond-true (is_component key.keyspace && (is_component key.table && is_component key.file))
    (Some key) None
    (all_three (is_component key.keyspace) (is_component key.table) (is_component key.file)
    (ap is_none h.keyspace) (ap is_none h.table) (ap is_none h.file))

pub shared_flat : (before f : List ℕ) (key : FileKey)
    → shared_path before f key ≡ before ++ (f ++ 47 ∷ (codes "data" ++ 47 ∷ nested key))
shared_flat before f key = simp append_assoc

pub own_flat : (before f n : List ℕ) (key : FileKey)
    → own_path before f n key ≡ before ++ (f ++ 47 ∷ (n ++ 47 ∷ (codes "data" ++ 47 ∷ nested key)))
own_flat before f n key = simp append_assoc

pub meta_flat : (before f n : List ℕ) (kind : MetaKind)
    → meta_path before f n kind ≡ before ++
    (f ++ 47 ∷ (n ++ 47 ∷ (codes "meta" ++ 47 ∷ meta_file kind)))
meta_flat before f n kind = simp append_assoc

pub entry_flat : (before f n : List ℕ) (kind : IndexKind)
    → entry_path before f n kind ≡ before ++
    (codes "index" ++ 47 ∷ (codes "backup_index" ++ 47 ∷ (n ++ 47 ∷ entry_file f kind)))
entry_flat before f n kind = simp append_assoc

pub latest_flat : (before f : List ℕ) (kind : LatestKind)
    → latest_path before f kind ≡ before ++
    (codes "index" ++ 47 ∷ (codes "latest_backup" ++ 47 ∷ (f ++ 47 ∷ latest_file kind)))
latest_flat before f kind = simp append_assoc

-- ---- from the components to the kind

below_is : (before t : List ℕ) → kind_of before (before ++ t) ≡ kind_below (parts t)
below_is before t = ap (λ o. unwrap_or (option_map (λ text. kind_below (parts text)) o) Other)
    (behind_made before t)

node_is : (f : List ℕ) (ps : List (List ℕ)) → IsFqdn f → kind_below (f ∷ ps) ≡ node_kind f ps
node_is f ps h =
    cond-false (bytes_eq f (codes "index")) (index_kind ps)
    (cond (is_none (fqdn_fault f)) (node_kind f ps) Other) (fqdn_not_index f h)
    ∙ cond-true (is_none (fqdn_fault f)) (node_kind f ps) Other (ap is_none h)

backup_is : (f n : List ℕ) (ps : List (List ℕ)) → IsBackupName n
    → node_kind f (n ∷ ps) ≡ backup_kind f n ps
backup_is f n ps h =
    cond-false (bytes_eq n (codes "data"))
    (unwrap_or (option_map (Shared f) (key_of ps)) (Stray f None))
    (cond (is_none (backup_fault n)) (backup_kind f n ps) (Stray f None)) (backup_not_data n h)
    ∙ cond-true (is_none (backup_fault n)) (backup_kind f n ps) (Stray f None) (ap is_none h)

-- in the folder of a node, and in that of a backup
pub under_node : (before f t : List ℕ) → IsFqdn f
    → kind_of before (before ++ (f ++ 47 ∷ t)) ≡ node_kind f (parts t)
under_node before f t h =
    below_is before (f ++ 47 ∷ t)
    ∙ ap kind_below (parts_around f t (fqdn_no_slash f h))
    ∙ node_is f (parts t) h

under_backup : (before f n t : List ℕ) → IsFqdn f → IsBackupName n
    → kind_of before (before ++ (f ++ 47 ∷ (n ++ 47 ∷ t))) ≡ backup_kind f n (parts t)
under_backup before f n t h k =
    under_node before f (n ++ 47 ∷ t) h
    ∙ ap (node_kind f) (parts_around n t (backup_no_slash n k))
    ∙ backup_is f n (parts t) k

shared_told : (before f : List ℕ) (key : FileKey) → IsFqdn f → IsKey key
    → kind_of before (shared_path before f key) ≡ Shared f key
shared_told before f key h k =
    ap (kind_of before) (shared_flat before f key)
    ∙ under_node before f (codes "data" ++ 47 ∷ nested key) h
    ∙ ap (node_kind f) (parts_around (codes "data") (nested key)
    (no_slash_by_test (codes "data") refl))
    ∙ ap (λ o. unwrap_or (option_map (Shared f) o) (Stray f None)) (key_made key k)

own_told : (before f n : List ℕ) (key : FileKey) → IsFqdn f → IsBackupName n → IsKey key
    → kind_of before (own_path before f n key) ≡ Own f n key
own_told before f n key h m k =
    ap (kind_of before) (own_flat before f n key)
    ∙ under_backup before f n (codes "data" ++ 47 ∷ nested key) h m
    ∙ ap (backup_kind f n)
    (parts_around (codes "data") (nested key) (no_slash_by_test (codes "data") refl))
    ∙ ap (λ o. unwrap_or (option_map (Own f n) o) (Stray f (Some n))) (key_made key k)

pub meta_told : (before f n : List ℕ) (kind : MetaKind) → IsFqdn f → IsBackupName n
    → kind_of before (meta_path before f n kind) ≡ Meta f n kind
meta_told before f n kind h m =
    ap (kind_of before) (meta_flat before f n kind)
    ∙ under_backup before f n (codes "meta" ++ 47 ∷ meta_file kind) h m
    ∙ ap (backup_kind f n)
    (parts_around (codes "meta") (meta_file kind) (no_slash_by_test (codes "meta") refl)
    ∙ ap (λ ps. codes "meta" ∷ ps) (parts_whole (meta_file kind) (meta_no_slash kind)))
    ∙ ap (λ o. unwrap_or (option_map (Meta f n) o) (Stray f (Some n))) (meta_made kind)

entry_parts : (folder n name : List ℕ) → HasNoSlash folder → HasNoSlash n → HasNoSlash name
    → parts (codes "index" ++ 47 ∷ (folder ++ 47 ∷ (n ++ 47 ∷ name))) ≡ codes "index" ∷ folder ∷ n ∷
    name ∷ []
entry_parts folder n name a b c =
    parts_around (codes "index") (folder ++ 47 ∷ (n ++ 47 ∷ name))
    (no_slash_by_test (codes "index") refl)
    ∙ ap (λ ps. codes "index" ∷ ps) (parts_around folder (n ++ 47 ∷ name) a
    ∙ ap (λ ps. folder ∷ ps) (parts_around n name b ∙ ap (λ ps. n ∷ ps) (parts_whole name c)))

abbrev pub entry_if_fqdn : List ℕ → List ℕ × IndexKind → Option Kind
entry_if_fqdn n e = cond (is_none (fqdn_fault e.0)) (Some (Entry e.0 n e.1)) None

pub entry_told : (before f n : List ℕ) (kind : IndexKind) → IsFqdn f → IsBackupName n → HasSecond kind
    → kind_of before (entry_path before f n kind) ≡ Entry f n kind
entry_told before f n kind h m s =
    let name = entry_file f kind in
    ap (kind_of before) (entry_flat before f n kind)
    ∙ below_is before (codes "index" ++ 47 ∷ (codes "backup_index" ++ 47 ∷ (n ++ 47 ∷ name)))
    ∙ ap kind_below (entry_parts (codes "backup_index") n name
    (no_slash_by_test (codes "backup_index") refl) (backup_no_slash n m)
    (entry_no_slash f kind (fqdn_no_slash f h) s))
    ∙ ap (λ o. unwrap_or o Other)
    (cond-true (is_none (backup_fault n)) (option_and_then (entry_if_fqdn n) (entry_of name)) None
    (ap is_none m)
    ∙ ap (option_and_then (entry_if_fqdn n)) (entry_made f kind s)
    ∙ cond-true (is_none (fqdn_fault f)) (Some (Entry f n kind)) None (ap is_none h))

pub latest_told : (before f : List ℕ) (kind : LatestKind) → IsFqdn f
    → kind_of before (latest_path before f kind) ≡ Latest f kind
latest_told before f kind h =
    let name = latest_file kind in
    ap (kind_of before) (latest_flat before f kind)
    ∙ below_is before (codes "index" ++ 47 ∷ (codes "latest_backup" ++ 47 ∷ (f ++ 47 ∷ name)))
    ∙ ap kind_below (entry_parts (codes "latest_backup") f name
    (no_slash_by_test (codes "latest_backup") refl) (fqdn_no_slash f h) (latest_no_slash kind))
    ∙ ap (λ o. unwrap_or o Other)
    (cond-true (is_none (fqdn_fault f)) (option_map (Latest f) (latest_found name)) None
    (ap is_none h)
    ∙ ap (option_map (Latest f)) (latest_made kind))

pub built_is_told : BuiltIsTold
built_is_told before path (Shared f key) b =
    ap (kind_of before) (sym (same_Some (shared_path before f key) path b.built))
    ∙ shared_told before f key b.valid.0 b.valid.1
built_is_told before path (Own f n key) b =
    ap (kind_of before) (sym (same_Some (own_path before f n key) path b.built))
    ∙ own_told before f n key b.valid.0 b.valid.1 b.valid.2
built_is_told before path (Meta f n kind) b =
    ap (kind_of before) (sym (same_Some (meta_path before f n kind) path b.built))
    ∙ meta_told before f n kind b.valid.0 b.valid.1
built_is_told before path (Entry f n kind) b =
    ap (kind_of before) (sym (same_Some (entry_path before f n kind) path b.built))
    ∙ entry_told before f n kind b.valid.0 b.valid.1 b.valid.2
built_is_told before path (Latest f kind) b =
    ap (kind_of before) (sym (same_Some (latest_path before f kind) path b.built))
    ∙ latest_told before f kind b.valid
built_is_told before path (Stray f n) b = let e : None ≡ Some path = b.built in absurd (cc)
built_is_told before path Other b = let e : None ≡ Some path = b.built in absurd (cc)
