use Rattle.std.proofs.Common.{◌≤◌, ℕ, [], IfSome, take}
use Rattle.std.specs.List.{flat_map}
use Rattle.med_core.specs.Removal.{paths_of_backup}
use Rattle.med_core.specs.Section.{Remove}
use Rattle.med_outside.specs.State.{IsReady, OnlyReads}
use Rattle.med_index.specs.Visits.{AreFound}
use Rattle.med_removal.specs.Going.{Adds, AreRemovable}
use Rattle.med_removal.proofs.backups.add_backups.Given as goal

-- what goes with the backups so far was added
abbrev pub invariant-loop-name : goal.invariant-loop-name
invariant-loop-name g l = record {
  told : IfSome (g.S.Storage.state l.fn.store).content
      (λ c. AreFound l.node l.found l.layout l.node c []
      → Adds l.layout l.node c
      (flat_map (paths_of_backup l.layout c l.node) (take l.name-index l.names)) l.fn.going
      l.going);
  within : (grace now : ℕ)
      → AreRemovable l.layout l.node (Remove l.names grace now) l.fn.going.paths.items
      → AreRemovable l.layout l.node (Remove l.names grace now) l.going.paths.items;
  ready : IsReady l.layout (g.S.Storage.state l.store);
  looks : OnlyReads (g.S.Storage.state l.fn.store) (g.S.Storage.state l.store)
      (g.S.Storage.stood l.fn.store) (g.S.Storage.stood l.store);
  later : (g.S.Storage.state l.fn.store).faults ≤ (g.S.Storage.state l.store).faults;
}
