-- Calls of a shelf in a row: which sections they are, how far they came, and which names run then.
use Rattle.std.specs.Prelude.{◌≡◌, ◌++◌, ℕ, List, [], ◌∷◌, IfSome}
use Rattle.med_base.specs.Effects.{Effect}
use Rattle.med_core.specs.Reach.{AreWithin}
use Rattle.med_core.specs.Run.{IsRun, effects, next_running}
use Rattle.med_core.specs.Section.{Call, Done, Event, Rebuild, Running}
use Rattle.med_outside.specs.declared.trace.Trace.{Trace}
use Rattle.med_outside.specs.Makes.{Makes, took}
use Rattle.med_outside.specs.State.{State, History}
use Rattle.med_shelf.specs.Shelf.{ShelfState, running_of}

-- the running names after some events
abbrev pub running_through : Running → List Event → Running
running_through running [] = running
running_through running (e ∷ es) = running_through (next_running running e) es

-- the changes of some events that took effect, in order
abbrev pub all_effects : List Event → List Effect
all_effects [] = []
all_effects (e ∷ es) = effects e ++ all_effects es

-- the events are these calls of the node, in order, and each was done
abbrev pub AreDone : List ℕ → List Call → List Event → Type 0
AreDone f [] [] = Unit {0}
AreDone f (call ∷ calls) (e ∷ es) =
    (e.node ≡ f) × (e.call ≡ call) × (e.ending ≡ Done) × AreDone f calls es
AreDone f _ _ = ⊥

-- Some calls in a row: over every storage a list of changes of the node that removes nothing of a
-- backup, made as far as `Makes` says; over what is told a run of these events. The running names are
-- those after them.
pub record MakesSections (shelf shelf_now : ShelfState) (events : List Event) (fine fault : Type 0)
    (old new : State) (stood_before stood_after : History) (before after : Trace) : Type 0
  where
    pub xs : List Effect
    pub within : AreWithin shelf.layout shelf.node Rebuild xs
    pub makes : Makes fine fault xs old new stood_before stood_after before after
    pub effects_are : all_effects events ≡ makes.done ++ took makes.last
    pub run : IfSome old.content (λ c. IsRun shelf.layout c (running_of shelf) events)
    pub layout_is : shelf_now.layout ≡ shelf.layout
    pub node_is : shelf_now.node ≡ shelf.node
    pub running_is : running_of shelf_now ≡ running_through (running_of shelf) events
