-- What a call of a shelf made: which list of changes, how far it came, and which section of the node
-- that is. So the laws over sections and runs hold of it.
use Rattle.std.specs.Prelude.{◌≡◌, ℕ, List, IfSome, Result, IsOk}
use Rattle.med_base.specs.Effects.{Effect}
use Rattle.med_base.specs.Part.{node_part}
use Rattle.med_core.specs.Reach.{AreWithin}
use Rattle.med_core.specs.Run.{running_after}
use Rattle.med_core.specs.Section.{Call, Ending, Event, IsSection}
use Rattle.med_outside.specs.declared.copy_fault.CopyFault.{CopyFault}
use Rattle.med_outside.specs.declared.copy_fault.CopyFault.TheVariants as fault
use Rattle.med_outside.specs.declared.trace.Trace.{Trace}
use Rattle.med_outside.specs.Makes.{Last, Makes, IsError}
use Rattle.med_outside.specs.State.{State, History}
use Rattle.med_shelf.specs.declared.errors.ClaimError.{ClaimError}
use Rattle.med_shelf.specs.declared.errors.ClaimError.TheVariants as error
use Rattle.med_shelf.specs.Endings.{claim_ending, copy_ending}
use Rattle.med_shelf.specs.Shelf.{ShelfState, running_of}

-- the changes that a call of the node made, and how it ended
abbrev pub event_of : List ℕ → Call → Ending → List Effect → Event
event_of f call ending changes =
    record { node = f; call = call; changes = changes; ending = ending }

-- The call made a first part of a list: over every storage changes that it may make in its node, and
-- over what is told a section of the node's part. The running names are those after the section.
pub record Acts (shelf shelf_now : ShelfState) (call : Call) (ending : Last → Ending)
    (fine fault : Type 0) (old new : State) (stood_before stood_after : History)
    (before after : Trace) : Type 0
  where
    pub xs : List Effect
    pub within : AreWithin shelf.layout shelf.node call xs
    pub makes : Makes fine fault xs old new stood_before stood_after before after
    pub section : IfSome old.content
        (λ c. IsSection shelf.layout (node_part shelf.layout shelf.node c) (running_of shelf)
        (event_of shelf.node call (ending makes.last) makes.done))
    pub layout_is : shelf_now.layout ≡ shelf.layout
    pub node_is : shelf_now.node ≡ shelf.node
    pub running_is : running_of shelf_now
        ≡ running_after (running_of shelf) shelf.node call (ending makes.last)

-- the same of a claim
abbrev pub ActsAsClaim : {T : Type 0} → (shelf shelf_now : ShelfState) → Call
    → Result T ClaimError → (old new : State) → (stood_before stood_after : History)
    → (before after : Trace) → Type 0
ActsAsClaim shelf shelf_now call result old new stood_before stood_after before after =
    Acts shelf shelf_now call (claim_ending result) (IsOk result) (IsError result error.Store) old
    new stood_before stood_after before after

-- the same of a place and a finish
abbrev pub ActsAsCopy : {T : Type 0} → (shelf shelf_now : ShelfState) → Call
    → Result T CopyFault → (old new : State) → (stood_before stood_after : History)
    → (before after : Trace) → Type 0
ActsAsCopy shelf shelf_now call result old new stood_before stood_after before after =
    Acts shelf shelf_now call (copy_ending result) (IsOk result) (IsError result fault.Store) old
    new stood_before stood_after before after
