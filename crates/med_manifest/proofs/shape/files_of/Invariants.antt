use Rattle.std.proofs.Common.{map, take}
use Rattle.med_json.specs.Borrowed.{tree_of}
use Rattle.med_manifest.specs.Named.{named, AreTables}
use Rattle.med_manifest.proofs.shape.files_of.Given as goal

-- the files so far are those of the tables so far
abbrev pub invariant-loop-at : goal.invariant-loop-at
invariant-loop-at l = AreTables (map tree_of (take l.at l.list)) (map named l.files.items)
