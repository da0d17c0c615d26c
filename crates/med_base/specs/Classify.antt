-- The kind of each path, by its components: the texts between its slashes.
-- The other way round than the builders; `specs/KindOf.antt` says in which sense.
use Rattle.std.specs.Prelude.{ℕ, Bool, true, false, ◌&&◌, List, [], ◌∷◌, Option, Some, None, is_none, unwrap_or, option_map, option_and_then, if◌then◌else◌, codes, bytes_eq, find}
use Rattle.med_base.specs.declared.key.FileKey.{FileKey}
use Rattle.med_base.specs.declared.layout.MetaKind.{MetaKind}
use Rattle.med_base.specs.declared.layout.MetaKind.TheVariants as meta
use Rattle.med_base.specs.declared.kinds.LatestKind.{LatestKind}
use Rattle.med_base.specs.declared.kinds.LatestKind.TheVariants as latest
use Rattle.med_base.specs.Entries.{behind, entry_of}
use Rattle.med_base.specs.Kinds.{Kind, Shared, Own, Meta, Entry, Latest, Stray, Other}
use Rattle.med_base.specs.Layout.{meta_file, latest_file}
use Rattle.med_base.specs.Names.{component_fault, fqdn_fault, backup_fault}
use Rattle.med_base.specs.Prefix.{parts}

-- two components and no more
abbrev pub pair_of : List (List ℕ) → Option (List ℕ × List ℕ)
pair_of (a ∷ b ∷ []) = Some (a, b)
pair_of _ = None

abbrev pub is_component : List ℕ → Bool
is_component text = is_none (component_fault text)

-- a key, if its parts are components
abbrev pub valid_key : List ℕ → List ℕ × List ℕ → Option FileKey
valid_key keyspace p =
    if is_component keyspace && (is_component p.0 && is_component p.1)
    then Some (record { keyspace = keyspace; table = p.0; file = p.1 }) else None

-- the key of a file in a folder of data
abbrev pub key_of : List (List ℕ) → Option FileKey
key_of [] = None
key_of (keyspace ∷ rest) = option_and_then (valid_key keyspace) (pair_of rest)

abbrev pub all_meta : List MetaKind
all_meta = meta.Schema ∷ meta.Differential ∷ meta.Tokenmap ∷ meta.Manifest ∷ []

-- which object tells of a backup under that name
abbrev pub meta_of : List (List ℕ) → Option MetaKind
meta_of (name ∷ []) = find (λ kind. bytes_eq name (meta_file kind)) all_meta
meta_of _ = None

-- in the folder of a backup
abbrev pub backup_kind : List ℕ → List ℕ → List (List ℕ) → Kind
backup_kind f n [] = Stray f None
backup_kind f n (part ∷ rest) =
    if bytes_eq part (codes "data") then unwrap_or (option_map (Own f n) (key_of rest))
    (Stray f (Some n))
    else if bytes_eq part (codes "meta") then unwrap_or (option_map (Meta f n) (meta_of rest))
    (Stray f (Some n))
    else Stray f (Some n)

-- in the folder of a node
abbrev pub node_kind : List ℕ → List (List ℕ) → Kind
node_kind f [] = Other
node_kind f (part ∷ rest) =
    if bytes_eq part (codes "data") then unwrap_or (option_map (Shared f) (key_of rest))
    (Stray f None)
    else if is_none (backup_fault part) then backup_kind f part rest
    else Stray f None

-- in the index, of a backup
abbrev pub entry_kind : List ℕ × List ℕ → Option Kind
entry_kind p =
    if is_none (backup_fault p.0)
    then option_and_then (λ e. if is_none (fqdn_fault e.0) then Some (Entry e.0 p.0 e.1) else None)
    (entry_of p.1)
    else None

abbrev pub all_latest : List LatestKind
all_latest = latest.Name ∷ latest.Tokenmap ∷ []

-- among the latest backups, of a node
abbrev pub latest_kind : List ℕ × List ℕ → Option Kind
latest_kind p =
    if is_none (fqdn_fault p.0)
    then option_map (Latest p.0) (find (λ kind. bytes_eq p.1 (latest_file kind)) all_latest)
    else None

-- in the folder of the index
abbrev pub index_kind : List (List ℕ) → Kind
index_kind [] = Other
index_kind (part ∷ rest) =
    if bytes_eq part (codes "backup_index") then unwrap_or
    (option_and_then entry_kind (pair_of rest)) Other
    else if bytes_eq part (codes "latest_backup") then unwrap_or
    (option_and_then latest_kind (pair_of rest)) Other
    else Other

-- below what stands before each path
abbrev pub kind_below : List (List ℕ) → Kind
kind_below [] = Other
kind_below (part ∷ rest) =
    if bytes_eq part (codes "index") then index_kind rest
    else if is_none (fqdn_fault part) then node_kind part rest
    else Other

-- the kind of a path under a layout
abbrev pub kind_of : List ℕ → List ℕ → Kind
kind_of before path = unwrap_or (option_map (λ text. kind_below (parts text)) (behind before path))
    Other

-- the kinds of data objects: the files that backups hold, shared ones and their own
abbrev pub is_data_kind : Kind → Bool
is_data_kind (Shared f key) = true
is_data_kind (Own f n key) = true
is_data_kind (Meta f n kind) = false
is_data_kind (Entry f n kind) = false
is_data_kind (Latest f kind) = false
is_data_kind (Stray f n) = false
is_data_kind Other = false

-- whether a path is that of a data object under a layout; `DataPaths.antt` says it by builders
abbrev pub is_data : List ℕ → List ℕ → Bool
is_data before path = is_data_kind (kind_of before path)
