-- Where the objects of a backup lie. `before` is what stands before each path of the layout.
-- This project's own layout, taken after Cassandra Medusa.
use Rattle.std.specs.Prelude.{ℕ, List, ◌++◌, codes, decimal}
use Rattle.med_base.specs.declared.key.FileKey.{FileKey}
use Rattle.med_base.specs.declared.layout.MetaKind.{MetaKind}
use Rattle.med_base.specs.declared.layout.MetaKind.TheVariants.{Schema, Differential, Tokenmap, Manifest}
use Rattle.med_base.specs.declared.kinds.IndexKind.{IndexKind}
use Rattle.med_base.specs.declared.kinds.IndexKind.TheVariants as entry
use Rattle.med_base.specs.declared.kinds.LatestKind.{LatestKind}
use Rattle.med_base.specs.declared.kinds.LatestKind.TheVariants as latest

-- a file's path below the folder of data
abbrev pub key_text : FileKey → List ℕ
key_text key = key.keyspace ++ codes "/" ++ key.table ++ codes "/" ++ key.file

-- the folder of a node, with its slash
abbrev pub node_folder : List ℕ → List ℕ → List ℕ
node_folder before f = before ++ f ++ codes "/"

-- the folder of a backup of a node, with its slash
abbrev pub backup_folder : List ℕ → List ℕ → List ℕ → List ℕ
backup_folder before f n = before ++ f ++ codes "/" ++ n ++ codes "/"

-- a file that the backups of a node share
abbrev pub shared_path : List ℕ → List ℕ → FileKey → List ℕ
shared_path before f key = before ++ f ++ codes "/data/" ++ key_text key

-- a file that is this backup's own
abbrev pub own_path : List ℕ → List ℕ → List ℕ → FileKey → List ℕ
own_path before f n key = backup_folder before f n ++ codes "data/" ++ key_text key

abbrev pub meta_file : MetaKind → List ℕ
meta_file Schema = codes "schema.cql"
meta_file Differential = codes "differential"
meta_file Tokenmap = codes "tokenmap.json"
meta_file Manifest = codes "manifest.json"

-- what tells of a backup beside its files
abbrev pub meta_path : List ℕ → List ℕ → List ℕ → MetaKind → List ℕ
meta_path before f n kind = backup_folder before f n ++ codes "meta/" ++ meta_file kind

-- the name of an entry of the index: the last `_` divides the node from the second
abbrev pub entry_file : List ℕ → IndexKind → List ℕ
entry_file f entry.Tokenmap = codes "tokenmap_" ++ f ++ codes ".json"
entry_file f entry.Manifest = codes "manifest_" ++ f ++ codes ".json"
entry_file f (entry.Started second) = codes "started_" ++ f ++ codes "_" ++ decimal second ++ codes
    ".timestamp"
entry_file f (entry.Finished second) = codes "finished_" ++ f ++ codes "_" ++ decimal second ++
    codes ".timestamp"
entry_file f entry.Differential = codes "differential_" ++ f

-- the folder of a backup in the index, with its slash
abbrev pub index_folder : List ℕ → List ℕ → List ℕ
index_folder before n = before ++ codes "index/backup_index/" ++ n ++ codes "/"

-- an entry of the index
abbrev pub entry_path : List ℕ → List ℕ → List ℕ → IndexKind → List ℕ
entry_path before f n kind = index_folder before n ++ entry_file f kind

abbrev pub latest_file : LatestKind → List ℕ
latest_file latest.Name = codes "backup_name.txt"
latest_file latest.Tokenmap = codes "tokenmap.json"

-- what tells of the latest backup of a node
abbrev pub latest_path : List ℕ → List ℕ → LatestKind → List ℕ
latest_path before f kind = before ++ codes "index/latest_backup/" ++ f ++ codes "/" ++ latest_file
    kind
