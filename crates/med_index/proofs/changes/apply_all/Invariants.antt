use Rattle.std.proofs.Common.{◌≡◌, ◌≤◌, false, List, take}
use Rattle.med_base.specs.Effects.{Effect}
use Rattle.med_outside.specs.Makes.{Makes}
use Rattle.med_outside.specs.State.{IsReady}
use Rattle.med_index.specs.Planned.{ArePlanned}
use Rattle.med_index.proofs.changes.apply_all.Given as goal

-- the changes before this one were made
abbrev pub invariant-loop-planned : goal.invariant-loop-planned
invariant-loop-planned g l = record {
  made : (xs : List Effect) × ArePlanned (take l.planned-index l.plan) xs
      × Makes (Unit {0}) ⊥ xs (g.S.Storage.state l.fn.store) (g.S.Storage.state l.store)
      (g.S.Storage.stood l.fn.store) (g.S.Storage.stood l.store) l.fn.trace l.trace;
  ready : IsReady l.layout (g.S.Storage.state l.store);
  sure : l.trace.unsure ≡ false;
  later : (g.S.Storage.state l.fn.store).faults ≤ (g.S.Storage.state l.store).faults;
}
