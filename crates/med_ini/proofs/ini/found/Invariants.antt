use Rattle.std.proofs.Common.{◌≡◌, map, length}
use Rattle.std.specs.List.{find}
use Rattle.med_ini.specs.Entries.{is_of}
use Rattle.med_ini.specs.Views.{entry_view}
use Rattle.med_ini.proofs.ini.found.Given as goal

-- those before the rest are of another section or key
abbrev pub invariant-entries : goal.invariant-entries
invariant-entries l = find (is_of l.section l.key) (map entry_view l.rest)
    ≡ find (is_of l.section l.key) (map entry_view l.entries)

abbrev pub decreases-entries : goal.decreases-entries
decreases-entries l = length l.rest
