use Rattle.std.proofs.Common.{◌≡◌, take, map}
use Rattle.std.specs.List.{AllByRecursion}
use Rattle.std.specs.FinMap.{entries, empty}
use Rattle.med_base.specs.Key.{IsKey}
use Rattle.med_outside.specs.Snapshot.{key_of_raw}
use Rattle.med_backup.specs.Walked.{added}
use Rattle.med_backup.proofs.keys.ordered.Given as goal

-- the keys so far are in the map, and each is a name of a file
abbrev pub invariant-loop-at : goal.invariant-loop-at
invariant-loop-at l = record {
  entries_are : l.keys.entries ≡ entries (added empty (take l.at (map key_of_raw l.raws)));
  names : AllByRecursion IsKey (take l.at (map key_of_raw l.raws));
}
