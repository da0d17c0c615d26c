use Rattle.std.proofs.Common.{[]}
use Rattle.med_outside.specs.State.{IsReady}
use Rattle.med_suite_folders.proofs.objects.first_lost.Given as goal

abbrev pub invariant-loop-size : goal.invariant-loop-size
invariant-loop-size g l =
    (goal.iterator-loop-size g).can_next l.size-iterator
    × (goal.iterator-loop-size g).is_finite l.size-iterator
    × IsReady [] (g.S.Storage.state l.store)
