-- What the paths of a bucket are: their kinds as data, and the path that each kind's builder gives.
-- This project's own layout, taken after Cassandra Medusa.
use Rattle.std.specs.Prelude.{◌≡◌, ◌^◌, ◌<◌, ℕ, List, Option, Some, None, IfSome}
use Rattle.med_base.specs.declared.key.FileKey.{FileKey}
use Rattle.med_base.specs.declared.layout.MetaKind.{MetaKind}
use Rattle.med_base.specs.declared.kinds.IndexKind.{IndexKind}
use Rattle.med_base.specs.declared.kinds.IndexKind.TheVariants.{Tokenmap, Manifest, Started, Finished, Differential}
use Rattle.med_base.specs.declared.kinds.LatestKind.{LatestKind}
use Rattle.med_base.specs.declared.kinds.PathKind.{PathKind}
use Rattle.med_base.specs.declared.kinds.PathKind.TheVariants as path
use Rattle.med_base.specs.Key.{IsKey}
use Rattle.med_base.specs.Layout.{shared_path, own_path, meta_path, entry_path, latest_path}
use Rattle.med_base.specs.Names.{fqdn_fault, backup_fault}

pub data Kind : Type 0 where
  -- a file that the backups of a node share
  Shared : (owner : List ℕ) (key : FileKey) → Kind
  -- a file that is one backup's own
  Own : (owner backup : List ℕ) (key : FileKey) → Kind
  -- an object that tells of a backup
  Meta : (owner backup : List ℕ) (kind : MetaKind) → Kind
  -- an entry of the index
  Entry : (owner backup : List ℕ) (kind : IndexKind) → Kind
  -- an object that tells of the latest backup of a node
  Latest : (owner : List ℕ) (kind : LatestKind) → Kind
  -- anything else in the folder of a node, with the backup in whose folder it lies
  Stray : (owner : List ℕ) (backup : Option (List ℕ)) → Kind
  -- any other path
  Other : Kind

abbrev pub IsFqdn : List ℕ → Type 0
IsFqdn f = fqdn_fault f ≡ None

abbrev pub IsBackupName : List ℕ → Type 0
IsBackupName n = backup_fault n ≡ None

-- the second of the entry, if it has one, fits 64 bits
abbrev pub HasSecond : IndexKind → Type 0
HasSecond (Started second) = second < 2 ^ 64
HasSecond (Finished second) = second < 2 ^ 64
HasSecond Tokenmap = Unit {0}
HasSecond Manifest = Unit {0}
HasSecond Differential = Unit {0}

-- the values of the kind are names, keys and seconds
abbrev pub IsValid : Kind → Type 0
IsValid (Shared f key) = IsFqdn f × IsKey key
IsValid (Own f n key) = IsFqdn f × IsBackupName n × IsKey key
IsValid (Meta f n kind) = IsFqdn f × IsBackupName n
IsValid (Entry f n kind) = IsFqdn f × IsBackupName n × HasSecond kind
IsValid (Latest f kind) = IsFqdn f
IsValid (Stray f n) = IsFqdn f × IfSome n IsBackupName
IsValid Other = Unit {0}

-- the path that the builder of the kind gives for its values, under a layout
abbrev pub path_of : List ℕ → Kind → Option (List ℕ)
path_of before (Shared f key) = Some (shared_path before f key)
path_of before (Own f n key) = Some (own_path before f n key)
path_of before (Meta f n kind) = Some (meta_path before f n kind)
path_of before (Entry f n kind) = Some (entry_path before f n kind)
path_of before (Latest f kind) = Some (latest_path before f kind)
path_of before (Stray f n) = None
path_of before Other = None

-- the builder of the kind gives this path for its values
pub record IsBuilt (before path : List ℕ) (k : Kind) : Type 0 where
  pub valid : IsValid k
  pub built : path_of before k ≡ Some path

-- what `classify` answers, as data
abbrev pub as_data : PathKind → Kind
as_data (path.Shared owner keyspace table file) = Shared owner.now
    (record { keyspace = keyspace.now; table = table.now; file = file.now })
as_data (path.Own owner backup keyspace table file) = Own owner.now backup.now
    (record { keyspace = keyspace.now; table = table.now; file = file.now })
as_data (path.Meta owner backup kind) = Meta owner.now backup.now kind
as_data (path.Stray owner None) = Stray owner.now None
as_data (path.Stray owner (Some backup)) = Stray owner.now (Some backup.now)
as_data (path.IndexEntry owner backup kind) = Entry owner.now backup.now kind
as_data (path.Latest owner kind) = Latest owner.now kind
as_data path.Other = Other
