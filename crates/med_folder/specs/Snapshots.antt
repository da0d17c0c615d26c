-- Where the files of a snapshot lie, below the folder of a node's data. This project's own rule.
use Rattle.std.specs.Prelude.{ℕ, Bool, ◌==◌, ◌++◌, List, map, codes, nat_lt, length, if◌then◌else◌}
use Rattle.std.specs.List.{position_or_len, before_first, after_first}
use Rattle.med_base.specs.declared.key.FileKey.{FileKey}

abbrev pub is_dot : ℕ → Bool
is_dot b = b == 46

-- the folder of a table's files under a tag
abbrev pub table_folder : (keyspace table tag : List ℕ) → List ℕ
table_folder keyspace table tag = keyspace ++ codes "/" ++ table ++ codes "/snapshots/" ++ tag

-- that folder, or that of an index in it, which a table's name has behind its first dot
abbrev pub index_folder : (folder table : List ℕ) → List ℕ
index_folder folder table =
    if nat_lt (position_or_len is_dot table) (length table)
    then folder ++ codes "/." ++ after_first is_dot table
    else folder

-- the path of a file
abbrev pub file_path : (tag : List ℕ) → FileKey → List ℕ
file_path tag key =
    let folder = table_folder key.keyspace (before_first is_dot key.table) tag in
    index_folder folder key.table ++ codes "/" ++ key.file

-- a key
abbrev pub key_of : (keyspace table file : List ℕ) → FileKey
key_of keyspace table file = record { keyspace = keyspace; table = table; file = file }

-- the keys of a table's files of these names
abbrev pub keys_for : (keyspace table : List ℕ) → List (List ℕ) → List FileKey
keys_for keyspace table names = map (λ (name : List ℕ). key_of keyspace table name) names
