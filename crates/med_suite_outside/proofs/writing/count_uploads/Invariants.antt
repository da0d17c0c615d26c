use Rattle.std.proofs.Common.{[]}
use Rattle.med_outside.specs.State.{IsReady}
use Rattle.med_suite_outside.proofs.writing.count_uploads.Given as goal

abbrev pub invariant-loop-path : goal.invariant-loop-path
invariant-loop-path g l =
    (goal.iterator-loop-path g).can_next l.path-iterator
    × (goal.iterator-loop-path g).is_finite l.path-iterator
    × IsReady [] (g.S.Storage.state l.store)
