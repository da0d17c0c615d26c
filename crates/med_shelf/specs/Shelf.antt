-- What contracts see of a shelf and of a claim.
use Rattle.std.specs.Prelude.{◌≡◌, ℕ, false, List, ◌∷◌, map, Contains}
use Rattle.med_core.specs.declared.records.Record.{Record}
use Rattle.med_core.specs.Section.{Running}
use Rattle.med_outside.specs.declared.mode.Mode.{Mode}
use Rattle.med_outside.specs.declared.trace.Trace.{Trace}
use Rattle.med_outside.specs.State.{State, IsReady}

-- one node's part of the product
pub record ShelfState : Type 0 where
  -- the text before each path of the bucket
  pub layout : List ℕ
  pub node : List ℕ
  -- the names of the backups that are being made, the last one first
  pub running : List (List ℕ)

-- a backup that is being made
pub record ClaimState : Type 0 where
  pub layout : List ℕ
  pub node : List ℕ
  pub name : List ℕ
  pub mode : Mode
  -- those of the files that were placed, in the order in which they were
  pub records : List Record

-- the backups that are being made, by node and name
abbrev pub running_of : ShelfState → Running
running_of shelf = map (λ n. (shelf.node, n)) shelf.running

-- the same shelf with one more name
abbrev pub with_running : List ℕ → ShelfState → ShelfState
with_running name shelf = record {
  layout = shelf.layout;
  node = shelf.node;
  running = name ∷ shelf.running;
}

-- a call may act for the node: the storage is ready under the shelf's layout, and the trace is sure
pub record MayAct (shelf : ShelfState) (store : State) (trace : Trace) : Type 0 where
  pub ready : IsReady shelf.layout store
  pub sure : trace.unsure ≡ false

-- the claim was made under this shelf, and its name is running there
pub record IsClaimOf (shelf : ShelfState) (claim : ClaimState) : Type 0 where
  pub layout_is : claim.layout ≡ shelf.layout
  pub node_is : claim.node ≡ shelf.node
  pub runs : Contains shelf.running claim.name
