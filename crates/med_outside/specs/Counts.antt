-- Which snapshots of nodes are open, and how many were opened.
use Rattle.std.specs.Prelude.{ℕ, Bool, ◌&&◌, List, [], ◌∷◌, bytes_eq, if◌then◌else◌, Result, Ok, Err}
use Rattle.med_outside.specs.Causes.{one_more}
use Rattle.med_outside.specs.declared.denied.Denied.{Denied}

-- what a snapshot is opened for: a tag of a node under a root
pub record Tagged : Type 0 where
  pub root : List ℕ
  pub node : List ℕ
  pub tag : List ℕ

pub record SnapshotCounts : Type 0 where
  -- how many were opened, held at the last value of a 64-bit counter
  pub opened : ℕ
  -- those that are open, the last one first
  pub still_open : List Tagged
  -- what was opened last; three empty texts where nothing was opened yet
  pub last : Tagged

abbrev pub tagged : (root node tag : List ℕ) → Tagged
tagged root node tag = record { root = root; node = node; tag = tag }

abbrev pub is_same : Tagged → Tagged → Bool
is_same a b = (bytes_eq a.root b.root && bytes_eq a.node b.node) && bytes_eq a.tag b.tag

-- the list without the first that is this one
abbrev pub without_first : Tagged → List Tagged → List Tagged
without_first of [] = []
without_first of (t ∷ ts) = if is_same of t then ts else t ∷ without_first of ts

-- one more was opened, for this
abbrev pub with_opened : Tagged → SnapshotCounts → SnapshotCounts
with_opened of counts = record {
  opened = one_more counts.opened;
  still_open = of ∷ counts.still_open;
  last = of;
}

-- one that was opened for this was closed; it changes nothing where none of these is open
abbrev pub with_closed : Tagged → SnapshotCounts → SnapshotCounts
with_closed of counts = record counts { still_open = without_first of counts.still_open }

-- what a call that opens a snapshot leaves: one more was opened, unless it was refused
abbrev pub after_open : {T : Type 0} → Result T Denied → Tagged → SnapshotCounts → SnapshotCounts
after_open (Ok snap) of counts = with_opened of counts
after_open (Err denied) of counts = counts

-- this one snapshot was opened, and closed again
abbrev pub opened_once : Tagged → SnapshotCounts → SnapshotCounts
opened_once of counts = record counts { opened = one_more counts.opened; last = of }
