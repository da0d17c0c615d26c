-- What contracts see of a storage, of nodes and of snapshots over real files: their faults, the
-- bucket that is open, and which snapshots are open.
use Rattle.std.specs.Prelude.{ℕ, List, [], Option, None, false}
use Rattle.med_outside.specs.Counts.{SnapshotCounts, Tagged}
use Rattle.med_outside.specs.Snapshot.{SnapState}
use Rattle.med_outside.specs.State.{State, OpenBucket, Upload, History}
use Rattle.med_outside.specs.World.{NodesState}

pub record FolderState : Type 0 where
  -- how often a call failed
  pub faults : ℕ
  -- the bucket that is open, and its layout
  pub bucket : OpenBucket
  -- the object whose bytes are being stored, as far as they came
  pub upload : Option Upload

-- As a storage: no content, no second, no room and no steps are told. It lends no paths.
abbrev pub untold : FolderState → State
untold state = record {
  content = None;
  second = None;
  never_falls = false;
  room = None;
  upload = state.upload;
  faults = state.faults;
  step = 0;
  terms = record { bucket = state.bucket; lent = []; owner = None };
}

-- no content is known to have stood at any step
abbrev pub never : History
never from to content = ⊥

pub record FolderNodesState : Type 0 where
  -- how often a call failed
  pub faults : ℕ
  -- which snapshots are open, and how many were opened
  pub counts : SnapshotCounts

-- as nodes: no snapshot is told
abbrev pub untold_nodes : FolderNodesState → NodesState
untold_nodes state = record {
  snaps = λ (root node tag : List ℕ). None;
  faults = state.faults;
  counts = state.counts;
}

pub record FolderSnapState : Type 0 where
  -- how often a call failed
  pub faults : ℕ
  -- what it was opened for
  pub of : Tagged

-- as a snapshot: what it holds isn't told
abbrev pub untold_snap : FolderSnapState → SnapState
untold_snap state = record { held = None; faults = state.faults; of = state.of }
