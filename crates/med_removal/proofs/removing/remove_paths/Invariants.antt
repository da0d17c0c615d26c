use Rattle.std.proofs.Common.{◌≡◌, ◌≤◌, ◌++◌, ℕ, Some, false, length}
use Rattle.std.specs.Vec.Iter.{into_iter_items}
use Rattle.med_manifest.specs.Listed.{removes}
use Rattle.med_outside.specs.Makes.{Makes, spare}
use Rattle.med_outside.specs.State.{IsReady}
use Rattle.med_removal.proofs.removing.remove_paths.Given as goal

-- the deletes before this one were made
abbrev pub invariant-loop-path : goal.invariant-loop-path
invariant-loop-path g l = record {
  left : l.fn.paths.items ≡ l.yielded ++ into_iter_items l.path-iterator;
  made : Makes (Unit {0}) ⊥ (removes l.yielded) (g.S.Storage.state l.fn.store)
      (g.S.Storage.state l.store) (g.S.Storage.stood l.fn.store) (g.S.Storage.stood l.store)
      l.fn.trace l.trace;
  ready : IsReady l.layout (g.S.Storage.state l.store);
  sure : l.trace.unsure ≡ false;
  room : length (into_iter_items l.path-iterator) ≤ spare l.trace;
  told : (size : ℕ) → (g.S.Storage.state l.fn.store).room ≡ Some size
      → length l.fn.paths.items ≤ size
      → (left : ℕ) × ((g.S.Storage.state l.store).room ≡ Some left)
      × (length (into_iter_items l.path-iterator) ≤ left);
  later : (g.S.Storage.state l.fn.store).faults ≤ (g.S.Storage.state l.store).faults;
}
