use Rattle.std.proofs.Common.{◌≡◌, ◌++◌, take, map, string_bytes}
use Rattle.med_outside.specs.Snapshot.{key_of_raw}
use Rattle.med_folder.specs.Snapshots.{keys_for}
use Rattle.med_folder.proofs.keys.push_keys.Given as goal

-- the keys of the files so far were added
abbrev pub invariant-loop-file : goal.invariant-loop-file
invariant-loop-file l =
    map key_of_raw l.keys.items
    ≡ map key_of_raw l.fn.keys.items
    ++ keys_for l.keyspace l.table (map string_bytes (take l.file-index l.files.items))
