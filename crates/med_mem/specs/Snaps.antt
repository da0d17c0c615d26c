-- What snapshots in memory hold.
use Rattle.std.specs.Prelude.{◌≡◌, IfSome, ℕ, Bool, ◌&&◌, List, [], ◌∷◌, ◌++◌, map, Option, Some, None, option_map, string_bytes, if◌then◌else◌}
use Rattle.std.proofs.Common.{Bor}
use Rattle.std.specs.FinMap.{from_entries, empty}
use Rattle.std.specs.Map.{keys_of}
use Rattle.std.specs.Str.{bytes_eq}
use Rattle.med_base.specs.declared.key.FileKey.{FileKey}
use Rattle.med_base.specs.Key.{key_eq}
use Rattle.med_outside.specs.Counts.{SnapshotCounts, Tagged, tagged}
use Rattle.med_outside.specs.Snapshot.{Snapshot, SnapState, key_of_raw}
use Rattle.med_outside.specs.World.{NodesState}
use Rattle.med_mem.specs.Distinct.{distinct}
use Rattle.med_mem.specs.Failing.{Failing, after_call}
use Rattle.med_mem.specs.declared.snapshot.MemFile.{MemFile}
use Rattle.med_mem.specs.declared.snapshot.MemSnap.{MemSnap}
use Rattle.med_mem.specs.declared.nodes.Added.{Added}

-- the keys, and the bytes of each
abbrev pub files_of : List MemFile → List (FileKey × List ℕ)
files_of = map (λ (f : MemFile). (key_of_raw f.key, f.bytes.items))

-- each key once, in the order of first occurrence
abbrev pub order_of : List (FileKey × List ℕ) → List FileKey
order_of files = distinct key_eq (keys_of files)

-- files and texts, as they are given
pub record Parts : Type 0 where
  pub files : List (FileKey × List ℕ)
  pub schema : List ℕ
  pub ring : List ℕ

abbrev pub parts_of : MemSnap → Parts
parts_of s = record {
  files = files_of s.files.items;
  schema = s.schema.items;
  ring = s.ring.items;
}

-- a snapshot of these; of two files with one key the first counts
abbrev pub snapshot_with : Parts → Snapshot
snapshot_with p = record {
  files = from_entries p.files;
  order = order_of p.files;
  schema = p.schema;
  ring = p.ring;
}

-- what such a snapshot holds
abbrev pub snapshot_of : MemSnap → Snapshot
snapshot_of s = snapshot_with (parts_of s)

-- what a contract sees of a snapshot that was opened
pub record Opened : Type 0 where
  pub parts : Parts
  -- the calls of all its methods
  pub calls : Failing
  -- what it was opened for
  pub of : Tagged

-- what it holds
abbrev pub held_by : Opened → Snapshot
held_by s = snapshot_with s.parts

-- the same snapshot, of which a call was made
abbrev pub asked : Opened → Opened
asked s = record { parts = s.parts; calls = after_call s.calls; of = s.of }

-- no files, an empty schema and an empty ring
abbrev pub no_snapshot : Snapshot
no_snapshot = record { files = empty; order = []; schema = []; ring = [] }

-- a snapshot, and the root, node and tag that it was added for
pub record Given : Type 0 where
  pub of : Tagged
  pub parts : Parts

-- what a contract sees of nodes in memory
pub record Known : Type 0 where
  -- what was added, in order
  pub given : List Given
  -- the calls of `open`, and the faults of the snapshots that were closed too
  pub calls : Failing
  -- the numbers of the calls that fail of each snapshot that is opened from now on
  pub snap_steps : List ℕ
  pub counts : SnapshotCounts

-- the same nodes, of which other calls were made or fail
abbrev pub with_opens : Failing → Known → Known
with_opens calls m = record {
  given = m.given;
  calls = calls;
  snap_steps = m.snap_steps;
  counts = m.counts;
}

-- the same nodes, whose snapshots fail at one call more from now on
abbrev pub with_snap_step : ℕ → Known → Known
with_snap_step step m = record {
  given = m.given;
  calls = m.calls;
  snap_steps = m.snap_steps ++ step ∷ [];
  counts = m.counts;
}

-- it was added for these
abbrev pub is_for : List ℕ → List ℕ → List ℕ → Given → Bool
is_for root node tag g =
    (bytes_eq g.of.root root && bytes_eq g.of.node node) && bytes_eq g.of.tag tag

-- the first that was added for them
abbrev pub first_for : List ℕ → List ℕ → List ℕ → List Given → Option Snapshot
first_for root node tag [] = None
first_for root node tag (g ∷ gs) =
    if is_for root node tag g then Some (snapshot_with g.parts)
    else first_for root node tag gs

-- what was added for a root, a node and a tag
abbrev pub added_for : List ℕ → List ℕ → List ℕ → Known → Option Snapshot
added_for root node tag m = first_for root node tag m.given

-- where nothing was added there is nothing
abbrev pub or_nothing : Option Snapshot → Snapshot
or_nothing None = no_snapshot
or_nothing (Some s) = s

-- what the trait tells of them
abbrev pub snapshot_at : Known → List ℕ → List ℕ → List ℕ → Snapshot
snapshot_at m root node tag = or_nothing (added_for root node tag m)

-- the snapshot stands for the three names where nothing was added for them before
abbrev pub HasAdded : (root node tag : List ℕ) → Snapshot → (old new : Known) → Type 0
HasAdded root node tag s old new =
    added_for root node tag old ≡ None → added_for root node tag new ≡ Some s

-- what was added before stays
abbrev pub Keeps : Known → Known → Type 0
Keeps old new =
    (root node tag : List ℕ)
    → IfSome (added_for root node tag old) (λ s. added_for root node tag new ≡ Some s)

-- nothing changed for other names
abbrev pub KeepsOthers : (root node tag : List ℕ) → (old new : Known) → Type 0
KeepsOthers root node tag old new =
    (r n t : List ℕ) → ¬ ((r ≡ root) × (n ≡ node) × (t ≡ tag))
    → added_for r n t new ≡ added_for r n t old

-- ---- for this crate's own clauses

-- a snapshot that is added for these
abbrev pub given_for : List ℕ → List ℕ → List ℕ → MemSnap → Given
given_for root node tag s = record { of = tagged root node tag; parts = parts_of s }

-- what a field of the nodes means
abbrev pub given_as : Added → Given
given_as a = given_for (string_bytes a.root) (string_bytes a.node) (string_bytes a.tag) a.snap

-- the same of all of them
abbrev pub given : List Added → List Given
given = map given_as

-- what the trait sees of an opened snapshot in memory
abbrev pub snap_state : Opened → SnapState
snap_state s = record { held = Some (held_by s); faults = s.calls.faults; of = s.of }

-- what the trait sees of nodes in memory
abbrev pub nodes_state : Known → NodesState
nodes_state m = record {
  snaps = λ (root node tag : List ℕ). Some (snapshot_at m root node tag);
  faults = m.calls.faults;
  counts = m.counts;
}

-- a snapshot that was found, or none
abbrev pub shown : Option (Bor MemSnap) → Option Snapshot
shown = option_map (λ (s : Bor MemSnap). snapshot_of s.now)
