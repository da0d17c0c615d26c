-- What a command meets outside, as one record: files, nodes, a storage, and the output.
use Rattle.std.specs.Prelude.{◌≡◌, ◌≤◌, ℕ, List, Option}
use Rattle.med_outside.specs.Causes.{RoseOrFull}
use Rattle.med_outside.specs.Counts.{SnapshotCounts, Tagged}
use Rattle.med_outside.specs.Device.{Device, Files, Nodes, Storage, Output, Memory}
use Rattle.med_outside.specs.Snapshot.{Snapshot, SnapState}
use Rattle.med_outside.specs.State.{State, History}

-- what files tell of each name: the bytes, or that there is no such file
abbrev pub FileContents : Type 0
FileContents = List ℕ → Option (Option (List ℕ))

pub record FilesState : Type 0 where
  pub contents : FileContents
  -- how often a call failed
  pub faults : ℕ

-- the snapshot of a node with a tag under a root, where it is told
abbrev pub Snapshots : Type 0
Snapshots = List ℕ → List ℕ → List ℕ → Option Snapshot

-- a snapshot that was opened now, and of which no call was made
abbrev pub just_opened : Tagged → Snapshots → SnapState
just_opened of snaps = record {
  held = snaps of.root of.node of.tag;
  faults = 0;
  of = of;
}

pub record NodesState : Type 0 where
  pub snaps : Snapshots
  -- how often a call failed, of the snapshots that were closed too
  pub faults : ℕ
  pub counts : SnapshotCounts

pub record SinkState : Type 0 where
  -- the bytes that were taken, where they are told
  pub taken : Option (List ℕ)
  -- how often a write failed
  pub faults : ℕ

pub record World : Type 1 where
  pub files : FilesState
  pub nodes : NodesState
  pub store : State
  pub stood : History
  -- the standard output
  pub out : SinkState

abbrev pub world : FilesState → NodesState → State → History → SinkState → World
world files nodes store stood out =
    record { files = files; nodes = nodes; store = store; stood = stood; out = out }

-- which counts of faults rose between two worlds; there may be no memory at any time
abbrev pub rose_of : World → World → Device → Type 0
rose_of a b Files = RoseOrFull a.files.faults b.files.faults
rose_of a b Nodes = RoseOrFull a.nodes.faults b.nodes.faults
rose_of a b Storage = RoseOrFull a.store.faults b.store.faults
rose_of a b Output = RoseOrFull a.out.faults b.out.faults
rose_of a b Memory = Unit {0}

-- the same of calls that ask the nodes, the storage and memory alone
abbrev pub rose_of_node : (nodes nodes_now store store_now : ℕ) → Device → Type 0
rose_of_node nodes nodes_now store store_now Files = ⊥
rose_of_node nodes nodes_now store store_now Nodes = RoseOrFull nodes nodes_now
rose_of_node nodes nodes_now store store_now Storage = RoseOrFull store store_now
rose_of_node nodes nodes_now store store_now Output = ⊥
rose_of_node nodes nodes_now store store_now Memory = Unit {0}

-- the same of calls that ask the output and memory alone
abbrev pub rose_of_output : (out out_now : ℕ) → Device → Type 0
rose_of_output out out_now Files = ⊥
rose_of_output out out_now Nodes = ⊥
rose_of_output out out_now Storage = ⊥
rose_of_output out out_now Output = RoseOrFull out out_now
rose_of_output out out_now Memory = Unit {0}

-- what every call leaves: files and snapshots stay, and no count of faults falls
pub record IsLater (a b : World) : Type 0 where
  pub files : b.files.contents ≡ a.files.contents
  pub snaps : b.nodes.snaps ≡ a.nodes.snaps
  pub files_later : a.files.faults ≤ b.files.faults
  pub nodes_later : a.nodes.faults ≤ b.nodes.faults
  pub store_later : a.store.faults ≤ b.store.faults
  pub out_later : a.out.faults ≤ b.out.faults
