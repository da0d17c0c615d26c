-- The file of a table that a path of a backup tells by its kind.
use Rattle.std.specs.Prelude.{ℕ, Bool, ◌&&◌, List, Option, Some, None, if◌then◌else◌, bytes_eq}
use Rattle.med_base.specs.declared.key.FileKey.{FileKey}
use Rattle.med_base.specs.Kinds.{Kind, Shared, Own, Meta, Entry, Latest, Stray, Other}
use Rattle.med_manifest.specs.Named.{Named}

-- the key is of the table of the named file
abbrev pub is_of_table : Named → FileKey → Bool
is_of_table file key = bytes_eq key.keyspace file.keyspace && bytes_eq key.table file.table

-- the name of the file, where the kind is a shared file of the node f or an own file of its backup
-- n, of the table of the named file
abbrev pub file_told : List ℕ → List ℕ → Named → Kind → Option (List ℕ)
file_told f n file (Shared owner key) =
    if bytes_eq owner f && is_of_table file key then Some key.file else None
file_told f n file (Own owner backup key) =
    if bytes_eq owner f && (bytes_eq backup n && is_of_table file key) then Some key.file else None
file_told f n file (Meta owner backup kind) = None
file_told f n file (Entry owner backup kind) = None
file_told f n file (Latest owner kind) = None
file_told f n file (Stray owner backup) = None
file_told f n file Other = None

-- the key of a file of that name in the table of the named file
abbrev pub key_told : Named → List ℕ → FileKey
key_told file text = record { keyspace = file.keyspace; table = file.table; file = text }
