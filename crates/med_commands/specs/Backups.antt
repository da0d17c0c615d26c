-- The command `backup`, in either mode: what its steps answer, and what it leaves where it ends.
use Rattle.std.specs.Prelude.{◌≡◌, ◌≢◌, ◌⊎◌, ◌≤◌, ℕ, Bool, List, [], ◌∷◌, Option, Some, None, IfSome, Result, Ok, Err}
use Rattle.med_base.specs.Content.{Content}
use Rattle.med_commands.specs.Changes.{IsNothing, IsMadeBy}
use Rattle.med_commands.specs.NodeConfig.{NodeConfig, opened_at, snap_at, tagged_at}
use Rattle.med_base.specs.Layout.{backup_folder}
use Rattle.med_backup.specs.Walked.{IsFirstBad}
use Rattle.med_core.specs.Reach.{AreWithin}
use Rattle.med_core.specs.Run.{IsRun}
use Rattle.med_core.specs.Section.{Claim, Done, Event, Rebuild}
use Rattle.med_index.specs.Modes.{is_differential}
use Rattle.med_backup.specs.Backups.{AnswersBackup, AreSourcesOf, HasBadRing, IsBackedUp, IsClaimed, IsCutBehind, LacksHost, Sources, WhereRefused}
use Rattle.med_backup.specs.Sections.{all_effects}
use Rattle.med_backup.specs.declared.backup.BackupError.{BackupError}
use Rattle.med_backup.specs.declared.backup.BackupError.TheVariants as error
use Rattle.med_backup.specs.declared.report.BackupReport.{BackupReport}
use Rattle.med_outside.specs.Counts.{SnapshotCounts, opened_once}
use Rattle.med_outside.specs.declared.copy_fault.CopyFault.{CopyFault}
use Rattle.med_outside.specs.declared.copy_fault.CopyFault.TheVariants as fault
use Rattle.med_outside.specs.Device.{Files, Nodes, Storage, on}
use Rattle.med_outside.specs.Sent.{device_of}
use Rattle.med_outside.specs.Snapshot.{Snapshot}
use Rattle.med_outside.specs.State.{State, ChangesWithin, History}
use Rattle.med_outside.specs.World.{NodesState, World, rose_of_node}
use Rattle.med_outside.specs.declared.mode.Mode.{Mode}
use Rattle.med_plan.specs.Ends.{Refusal, Taken, NoSnapshot, BadFileName, BadRing, NotInRing, Passed, Plan, step}
use Rattle.med_ring.specs.declared.error.RingWhy.{RingWhy}
use Rattle.med_shelf.specs.Claims.{IsFirstUnder}
use Rattle.med_words.specs.Request.{Asked}
use Rattle.med_commands.specs.Report.{report_line}
use Rattle.med_commands.specs.Steps.{ReadsConfig, IsLeft, IsUntouched, prints}
use Rattle.med_commands.specs.Texts.{ring_why_text}

-- ---- sections

-- Exactly the changes of these events were made, in order. They are of the node, and remove nothing of
-- a backup. Over what is told the events are a run that begins where no backup is being made.
pub record AreMade (before f : List ℕ) (events : List Event) (old new : State)
    (stood_before stood_after : History) : Type 0
  where
    pub moves : ChangesWithin (all_effects events) old new stood_before stood_after
    pub within : AreWithin before f Rebuild (all_effects events)
    pub run : IfSome old.content (λ c. IsRun before c [] events)

-- Behind the look at the name this fault cut the backup short: in its claim, which isn't one of the
-- snapshot; or it was claimed, and a place or the finish was cut short.
abbrev pub IsCutFrom : (before f n : List ℕ) (differential : Bool) (held : Option Snapshot)
    (why : CopyFault) → Sources → List Event → Type 0
IsCutFrom before f n differential held why x events =
    (e : Event) × (rest : List Event) × (events ≡ e ∷ rest)
    × (((rest ≡ []) × (why ≢ fault.Snap) × (e.node ≡ f)
    × (e.call ≡ Claim n differential x.schema x.ring))
    ⊎ (IsClaimed f n differential x Done e
    × IsCutBehind before f n differential held why x.keys rest))

-- ---- what the steps answer

-- what the backup begins with; or the snapshot has no key, or one that is no name of a file, or no
-- token map, or one without the node
abbrev pub Prepares : (f n : List ℕ) → Option Snapshot → Result Sources Refusal → Type 0
Prepares f n held (Ok x) = IfSome held (λ s. AreSourcesOf f s x)
Prepares f n held (Err (NoSnapshot name)) = (name ≡ n) × IfSome held (λ s. s.order ≡ [])
Prepares f n held (Err (BadFileName at)) = IfSome held (λ s. IsFirstBad at s.order)
Prepares f n held (Err (BadRing text)) =
    (why : RingWhy) × HasBadRing held why × (text ≡ ring_why_text why)
Prepares f n held (Err (NotInRing host)) = (host ≡ f) × LacksHost held f
Prepares f n held (Err e) = ⊥

-- no path lies under the folder of the backup, or this is the first
abbrev pub FindsFree : (before f n : List ℕ) → Option Content → Result (Unit {0}) Refusal → Type 0
FindsFree before f n told (Ok x) = IsFirstUnder (backup_folder before f n) told None
FindsFree before f n told (Err (Taken name path)) =
    (name ≡ n) × IsFirstUnder (backup_folder before f n) told (Some path)
FindsFree before f n told (Err e) = ⊥

-- ---- what the command leaves

module _ (node_config : NodeConfig) (n : List ℕ) (a b : World) where
  -- the snapshot that is backed up, where it is told
  abbrev pub held_at : Option Snapshot
  held_at = snap_at a.nodes.snaps node_config n

  -- the bucket was opened, nothing was changed and nothing printed, and so the snapshots are counted
  abbrev pub IsUnchanged : (SnapshotCounts → SnapshotCounts) → Type 0
  IsUnchanged counts =
      IsMadeBy (opened_at node_config a.store) b.store a.stood b.stood IsNothing
      × (b.nodes.counts ≡ counts a.nodes.counts) × (b.out ≡ a.out)

  -- the same, where exactly the snapshot was opened, and closed again
  abbrev pub IsLooked : Type 0
  IsLooked = IsUnchanged (opened_once (tagged_at node_config n))

  module _ (mode : Mode) (x : Sources) where
    -- a first part of the backup was made, which this fault cut short
    pub record IsPart (why : CopyFault) : Type 0 where
      pub events : List Event
      pub made : AreMade node_config.before node_config.node events (opened_at node_config a.store)
          b.store a.stood b.stood
      pub cut : IsCutFrom node_config.before node_config.node n (is_differential mode) held_at why
          x events
      pub snapshot : b.nodes.counts ≡ opened_once (tagged_at node_config n) a.nodes.counts
      pub out : b.out ≡ a.out

    -- The backup was made: in the bucket of the config file, which was opened for it, by exactly its
    -- sections, from these sources; and exactly its snapshot was opened, and closed again. Where
    -- contents and snapshot are told, what it leaves is `backup.backup`.
    pub record IsDone (report : BackupReport) : Type 0 where
      pub events : List Event
      pub made : AreMade node_config.before node_config.node events (opened_at node_config a.store)
          b.store a.stood b.stood
      pub backup : IsBackedUp node_config.before node_config.node n (is_differential mode) held_at
          a.store.content b.store.content events report
      pub sources_are : backup.sources ≡ x
      pub snapshot : b.nodes.counts ≡ opened_once (tagged_at node_config n) a.nodes.counts

-- ---- the plan

module _ (n : List ℕ) (mode : Mode) (a b : World) where
  -- The sections of the backup of these sources, and its line. Where the snapshot fails, no manifest was
  -- put.
  abbrev pub sections_plan : NodeConfig → Sources → Plan (Type 0) (Unit {0})
  sections_plan node_config x =
      step {T = Unit {0}} Passed (Nodes ∷ []) (IsPart node_config n a b mode x fault.Snap) (λ _.
      step {T = BackupReport} Passed (on Storage)
      ((why : CopyFault) × IsPart node_config n a b mode x why) (λ report.
      prints (report_line report) (IsDone node_config n a b mode x report) a b))

  -- the backup of these sources, where the name is free
  abbrev pub copy_plan : NodeConfig → Sources → Plan (Type 0) (Unit {0})
  copy_plan node_config x =
      step (FindsFree node_config.before node_config.node n a.store.content) (on Storage)
      (IsLooked node_config n a b) (λ _. sections_plan node_config x)

  -- the same of an open snapshot
  abbrev pub snapshot_plan : NodeConfig → Plan (Type 0) (Unit {0})
  snapshot_plan node_config =
      step (Prepares node_config.node n (held_at node_config n a b)) (on Nodes)
      (IsLooked node_config n a b) (copy_plan node_config)

  -- the work on the node: the bucket is opened, and then the snapshot
  abbrev pub node_plan : NodeConfig → Plan (Type 0) (Unit {0})
  node_plan node_config =
      step {T = Unit {0}} Passed (on Storage) (IsLeft (λ s. s) IsNothing a b) (λ _.
      step {T = Unit {0}} Passed (on Nodes) (IsUnchanged node_config n a b (λ counts. counts))
      (λ _. snapshot_plan node_config))

  -- the backup of the node of the config file, under this name
  abbrev pub backup_plan : Asked → Plan (Type 0) (Unit {0})
  backup_plan asked =
      step (ReadsConfig a.files.contents asked) (on Files) (IsUntouched a b) node_plan

-- ---- for this crate's own clauses

-- the work over an open bucket and an open snapshot: the sections that it made, by its answer
pub record MakesBackup (before f n : List ℕ) (mode : Mode) (held : Option Snapshot)
    (result : Result BackupReport BackupError) (old new : State)
    (stood_before stood_after : History) : Type 0
  where
    pub events : List Event
    pub made : AreMade before f events old new stood_before stood_after
    pub answer : AnswersBackup before f n [] (is_differential mode) held old.content new.content
        events result
    pub still : WhereRefused result (ChangesWithin [] old new stood_before stood_after)

-- nothing was changed, and the answer is a fault, but not this one
abbrev pub EndsFirst : CopyFault → Result BackupReport BackupError → (old new : State)
    → (stood_before stood_after : History) → Type 0
EndsFirst never result old new stood_before stood_after =
    ((why : CopyFault) × (result ≡ Err (error.Fault why)) × (why ≢ never))
    × ChangesWithin [] old new stood_before stood_after

-- the work over an open bucket: no snapshot was opened, or that of the backup, and closed again
abbrev pub WorksOnSnapshot : NodeConfig → (n : List ℕ) → Mode → (nodes nodes_now : NodesState)
    → Result BackupReport BackupError → (old new : State) → (stood_before stood_after : History)
    → Type 0
WorksOnSnapshot node_config n mode nodes nodes_now result old new stood_before stood_after =
    (EndsFirst fault.Store result old new stood_before stood_after
    × (nodes_now.counts ≡ nodes.counts))
    ⊎ (MakesBackup node_config.before node_config.node n mode (snap_at nodes.snaps node_config n)
    result old new stood_before stood_after
    × (nodes_now.counts ≡ opened_once (tagged_at node_config n) nodes.counts))

-- the work on a node: no bucket was opened, or that of the config file
abbrev pub WorksOnNode : NodeConfig → (n : List ℕ) → Mode → (nodes nodes_now : NodesState)
    → Result BackupReport BackupError → (old new : State) → (stood_before stood_after : History)
    → Type 0
WorksOnNode node_config n mode nodes nodes_now result old new stood_before stood_after =
    (EndsFirst fault.Snap result old new stood_before stood_after × (nodes_now ≡ nodes))
    ⊎ WorksOnSnapshot node_config n mode nodes nodes_now result (opened_at node_config old) new
    stood_before stood_after

-- the snapshots stay as they are, no count of faults falls, and a fault comes only where its count
-- rose
pub record AsksNodes (nodes nodes_now : NodesState) (old new : State)
    (result : Result BackupReport BackupError) : Type 0
  where
    pub same : nodes_now.snaps ≡ nodes.snaps
    pub nodes_later : nodes.faults ≤ nodes_now.faults
    pub store_later : old.faults ≤ new.faults
    pub cause : (why : CopyFault) → result ≡ Err (error.Fault why)
        → rose_of_node nodes.faults nodes_now.faults old.faults new.faults (device_of why)
