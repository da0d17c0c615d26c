use Rattle.std.specs.Prelude.{◌≡◌}
use Rattle.med_outside.specs.Counts.{without_first}
use Rattle.med_outside.proofs.OpenPlaces.{without_from}
use Rattle.med_outside.proofs.opened.place_of.Given as goal

abbrev pub invariant-loop-i : goal.invariant-loop-i
invariant-loop-i l = without_from l.i l.of l.still_open ≡ without_first l.of l.still_open
