use Rattle.std.proofs.Common.{[]}
use Rattle.med_outside.specs.State.{IsReady}
use Rattle.med_suite_removal.proofs.rules.first_unruled.Given as goal

-- the storage is at rest between two rows
abbrev pub invariant-loop-row : goal.invariant-loop-row
invariant-loop-row g l =
    (goal.iterator-loop-row g).can_next l.row-iterator
    × (goal.iterator-loop-row g).is_finite l.row-iterator
    × IsReady [] (g.S.Storage.state l.store)
