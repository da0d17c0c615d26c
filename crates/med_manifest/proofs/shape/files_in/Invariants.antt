use Rattle.std.proofs.Common.{map, take}
use Rattle.std.specs.List.{AllZip}
use Rattle.med_json.specs.Borrowed.{tree_of}
use Rattle.med_manifest.specs.Named.{named, IsFile}
use Rattle.med_manifest.proofs.shape.files_in.Given as goal

-- the files so far are the values so far
abbrev pub invariant-loop-value : goal.invariant-loop-value
invariant-loop-value l =
    AllZip (IsFile l.keyspace l.table) (map tree_of (take l.value-index l.list))
    (map named l.files.items)
