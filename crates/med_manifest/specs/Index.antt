-- What the backups of a node give to its index, and when the index says just that.
-- This project's own; after the entries that Cassandra Medusa keeps of its backups.
use Rattle.std.specs.Prelude.{◌≡◌, ◌==◌, ℕ, nat_lt, List, [], Option, Some, None, if◌then◌else◌, bytes_eq}
use Rattle.std.specs.Cmp.Lexicographic.{slice_cmp}
use Rattle.std.specs.FinMap.{FinMap, get}
use Rattle.std.specs.Ordering.{nat_cmp}
use Rattle.med_base.specs.declared.kinds.IndexKind.{IndexKind}
use Rattle.med_base.specs.declared.kinds.IndexKind.TheVariants as entry
use Rattle.med_base.specs.declared.kinds.LatestKind.TheVariants as latest
use Rattle.med_base.specs.declared.layout.MetaKind.{MetaKind}
use Rattle.med_base.specs.declared.layout.MetaKind.TheVariants.{Schema, Differential, Tokenmap, Manifest}
use Rattle.med_base.specs.Content.{Content, Object}
use Rattle.med_base.specs.Classify.{kind_of}
use Rattle.med_base.specs.Kinds.{Kind, Entry, IsBackupName, HasSecond}
use Rattle.med_base.specs.Layout.{meta_path, entry_path, latest_path}
use Rattle.med_manifest.specs.Mend.{changes_of_mend}
use Rattle.med_manifest.specs.Vault.{IsFinished}

-- the object that tells of a backup, if it stands
abbrev pub meta_in : List ℕ → Content → List ℕ → List ℕ → MetaKind → Option Object
meta_in before c f n kind = get c (meta_path before f n kind)

-- the bytes of the object, if it stands
abbrev pub bytes_in : Option Object → Option (List ℕ)
bytes_in None = None
bytes_in (Some o) = Some o.bytes

-- the second of the object, if it stands
abbrev pub second_in : Option Object → Option ℕ
second_in None = None
second_in (Some o) = Some o.second

-- the earlier of two seconds, as far as they are told
abbrev pub earlier : Option ℕ → Option ℕ → Option ℕ
earlier None b = b
earlier (Some a) None = Some a
earlier (Some a) (Some b) = Some (if nat_lt b a then b else a)

-- the first where it is told, else the second
abbrev pub or_second : Option ℕ → Option ℕ → Option ℕ
or_second (Some a) b = Some a
or_second None b = b

-- when a backup started, by its schema, marker, token map and manifest: the second of its schema,
-- else the least of the others; none where there is no backup
abbrev pub started_by : Option Object → Option Object → Option Object → Option Object → Option ℕ
started_by schema marker ring manifest =
    or_second (second_in schema)
    (earlier (second_in marker) (earlier (second_in ring) (second_in manifest)))

-- when the backup started, if one of its four objects stands
abbrev pub started : List ℕ → Content → List ℕ → List ℕ → Option ℕ
started before c f n =
    started_by (meta_in before c f n Schema) (meta_in before c f n Differential)
    (meta_in before c f n Tokenmap) (meta_in before c f n Manifest)

-- an empty entry, where the second is this one
abbrev pub empty_at : Option ℕ → ℕ → Option (List ℕ)
empty_at None second = None
empty_at (Some at) second = if second == at then Some [] else None

-- an empty entry, where the object stands
abbrev pub empty_where : Option Object → Option (List ℕ)
empty_where None = None
empty_where (Some o) = Some []

-- the bytes of an entry that a backup gives, by its schema, marker, token map and manifest
abbrev pub given_by : Option Object → Option Object → Option Object → Option Object → IndexKind
    → Option (List ℕ)
given_by schema marker ring manifest entry.Tokenmap = bytes_in ring
given_by schema marker ring manifest entry.Manifest = bytes_in manifest
given_by schema marker ring manifest (entry.Started second) =
    empty_at (started_by schema marker ring manifest) second
given_by schema marker ring manifest (entry.Finished second) = empty_at (second_in manifest) second
given_by schema marker ring manifest entry.Differential = empty_where marker

-- the bytes that the backup gives to its entry of this kind, if it gives one
abbrev pub given : List ℕ → Content → List ℕ → List ℕ → IndexKind → Option (List ℕ)
given before c f n kind =
    given_by (meta_in before c f n Schema) (meta_in before c f n Differential)
    (meta_in before c f n Tokenmap) (meta_in before c f n Manifest) kind

-- what the backups of the node give to a path of this kind
abbrev pub given_to : List ℕ → Content → List ℕ → Kind → Option (List ℕ)
given_to before c f (Entry g n kind) = if bytes_eq g f then given before c f n kind else None
given_to before c f _ = None

-- index entries by their paths
abbrev pub Entries : Type 0
Entries = FinMap (slice_cmp nat_cmp) (List ℕ)

-- these are the entries that the backups of the node give
abbrev pub IsGiven : List ℕ → Content → List ℕ → Entries → Type 0
IsGiven before c f entries =
    (path : List ℕ) → get entries path ≡ given_to before c f (kind_of before path)

-- what the index says of finished backups of the node is so: copies of manifests have their bytes,
-- seconds are theirs, and the latest backup is one of them
pub record IsIndexSound (before : List ℕ) (c : Content) (f : List ℕ) : Type 0 where
  pub copy_is : (n : List ℕ) (copy : Object) → IsBackupName n
      → get c (entry_path before f n entry.Manifest) ≡ Some copy
      → (o : Object) × (meta_in before c f n Manifest ≡ Some o) × (o.bytes ≡ copy.bytes)
  pub finished_is : (n : List ℕ) (second : ℕ) (mark : Object) → IsBackupName n
      → HasSecond (entry.Finished second)
      → get c (entry_path before f n (entry.Finished second)) ≡ Some mark
      → (o : Object) × (meta_in before c f n Manifest ≡ Some o) × (o.second ≡ second)
  pub latest_is : (name : Object) → get c (latest_path before f latest.Name) ≡ Some name
      → IsBackupName name.bytes × IsFinished c before f name.bytes

-- the entries of the node are those that its backups give, seconds aside, and its latest entry
-- needs no mending
pub record IsIndexExact (before : List ℕ) (c : Content) (f : List ℕ) : Type 0 where
  pub entries : (n : List ℕ) (kind : IndexKind) → IsBackupName n → HasSecond kind
      → bytes_in (get c (entry_path before f n kind)) ≡ given before c f n kind
  pub mended : (seconds : ℕ → ℕ) → changes_of_mend before c f [] seconds ≡ []
