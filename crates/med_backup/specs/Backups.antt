-- What the backup of a node makes, answers and reports.
use Rattle.std.specs.Prelude.{◌≡◌, ◌≢◌, ◌⊎◌, ◌++◌, ◌≤◌, ◌-◌, ◌^◌, ℕ, Bool, List, [], ◌∷◌, map, length, min, sum_by, Contains, Option, IfSome, Result, IsOk, Ok, Err}
use Rattle.std.specs.FinMap.{keys}
use Rattle.std.specs.List.{AllByRecursion}
use Rattle.med_base.specs.declared.key.FileKey.{FileKey}
use Rattle.med_base.specs.declared.layout.MetaKind.TheVariants.{Manifest}
use Rattle.med_base.specs.Content.{Content}
use Rattle.med_base.specs.Effects.{Effect, Removes, Stores}
use Rattle.med_base.specs.Layout.{meta_path}
use Rattle.med_core.specs.declared.records.How.{How}
use Rattle.med_core.specs.declared.records.How.TheVariants.{Reused, Stored, Aside}
use Rattle.med_core.specs.declared.records.Record.{Record}
use Rattle.med_core.specs.Place.{placed_record}
use Rattle.med_core.specs.Run.{effects}
use Rattle.med_core.specs.Section.{Abandon, Call, Claim, Done, Ending, Event, Finish, IsRunning, IsTaken, Place, Refusal, Refused, Running}
use Rattle.med_index.specs.Modes.{is_differential}
use Rattle.med_manifest.specs.declared.manifest.FileRecord.{FileRecord}
use Rattle.med_outside.specs.declared.copy_fault.CopyFault.{CopyFault}
use Rattle.med_outside.specs.declared.copy_fault.CopyFault.TheVariants as fault
use Rattle.med_outside.specs.declared.mode.Mode.{Mode}
use Rattle.med_outside.specs.declared.trace.Trace.{Trace}
use Rattle.med_outside.specs.Sent.{IsPrintOf, IsWholeFile, device_of}
use Rattle.med_outside.specs.Snapshot.{Snapshot, SnapState, StaysOpen}
use Rattle.med_outside.specs.State.{State, History}
use Rattle.med_outside.specs.World.{rose_of_node}
use Rattle.med_ring.specs.declared.error.RingWhy.{RingWhy}
use Rattle.med_ring.specs.Blames.{IsRefused}
use Rattle.med_ring.specs.Host.{RingHost}
use Rattle.med_ring.specs.Ring.{IsRing}
use Rattle.med_ring.specs.Written.{ring_text}
use Rattle.med_shelf.specs.declared.finished.Finished.{Finished}
use Rattle.med_shelf.specs.Acts.{event_of}
use Rattle.med_shelf.specs.Finishes.{HasManifestOf}
use Rattle.med_shelf.specs.Records.{files_of, keys_of}
use Rattle.med_shelf.specs.Shelf.{ShelfState, running_of}
use Rattle.med_backup.specs.declared.report.BackupReport.{BackupReport}
use Rattle.med_backup.specs.declared.backup.BackupError.{BackupError}
use Rattle.med_backup.specs.declared.backup.BackupError.TheVariants as error
use Rattle.med_backup.specs.Facts.{IsBackupOf}
use Rattle.med_backup.specs.Sections.{AreDone, MakesSections}
use Rattle.med_backup.specs.Walked.{CanBeWalked, IsFirstBad}

-- what a backup begins with: the keys of the files in order, the schema, the text of the token map
pub record Sources : Type 0 where
  pub keys : List FileKey
  pub schema : List ℕ
  pub ring : List ℕ

-- a host of this name is among the hosts
abbrev pub HasHost : List RingHost → List ℕ → Type 0
HasHost hosts f = (h : RingHost) × Contains hosts h × (h.name ≡ f)

-- these are those of the snapshot of the node f, whose token map has the node
pub record AreSourcesOf (f : List ℕ) (s : Snapshot) (x : Sources) : Type 0 where
  pub keys_are : x.keys ≡ keys s.files
  pub schema_is : x.schema ≡ s.schema
  pub walked : CanBeWalked s
  pub hosts : List RingHost
  pub reads : IsRing s.ring hosts
  pub among : HasHost hosts f
  pub ring_is : x.ring ≡ ring_text hosts

-- a file that was placed: its key, and its bytes
abbrev pub PlacedFile : Type 0
PlacedFile = FileKey × List ℕ

-- these are the whole files of their keys in the snapshot, where that is told
abbrev pub AreWholeFiles : Option Snapshot → List PlacedFile → Type 0
AreWholeFiles held files = AllByRecursion (λ (x : PlacedFile). IsWholeFile held x.0 x.1) files

-- the places of these files
abbrev pub places_of : (n : List ℕ) (differential : Bool) → List PlacedFile → List Call
places_of n differential files =
    map (λ (p : PlacedFile). Place n differential p.0 p.1) files

-- the records of the places of these files over a content
abbrev pub records_over : (before f n : List ℕ) (differential : Bool) → Content → List PlacedFile
    → List Record
records_over before f n differential c files =
    map (λ (p : PlacedFile). placed_record before f n differential p.0 p.1 c) files

-- each record has the fingerprint of its file
abbrev pub ArePrints : Option Snapshot → List Record → Type 0
ArePrints held rs =
    AllByRecursion (λ (r : Record). IsPrintOf held r.file.key r.file.fingerprint) rs

-- ---- reports

-- one where the way is the one that is counted
abbrev pub weight_of : (wanted how : How) → ℕ
weight_of Reused Reused = 1
weight_of Stored Stored = 1
weight_of Aside Aside = 1
weight_of _ _ = 0

-- how many files of the records came to their paths in this way, held at the last value of 64 bits
abbrev pub count_in : (wanted : How) → List Record → ℕ
count_in wanted rs = min (sum_by (λ (r : Record). weight_of wanted r.how) rs) (2 ^ 64 - 1)

-- the sizes of their files in all, held so too
abbrev pub bytes_in : List Record → ℕ
bytes_in rs = min (sum_by (λ (r : Record). r.file.fingerprint.size) rs) (2 ^ 64 - 1)

-- the report counts the records
pub record IsReportOf (f n : List ℕ) (rs : List Record) (report : BackupReport) : Type 0 where
  pub name_is : report.name ≡ n
  pub node_is : report.node ≡ f
  pub files_are : report.files ≡ length rs
  pub bytes_are : report.bytes ≡ bytes_in rs
  pub reused_are : report.reused ≡ count_in Reused rs
  pub stored_are : report.stored ≡ count_in Stored rs
  pub aside_are : report.aside ≡ count_in Aside rs

-- ---- answers

-- Behind its claim, each file of these keys was placed in order, and the backup was finished. Its manifest
-- stands with the records of the answer: one for each key, and, where the storage is told, each with the
-- fingerprint of its file, and as a place over that content records it.
pub record IsFinishedBehind (before f n : List ℕ) (differential : Bool) (held : Option Snapshot)
    (keys : List FileKey) (told told_now : Option Content) (events : List Event)
    (finished : Finished) : Type 0
  where
    pub files : List PlacedFile
    pub whole : AreWholeFiles held files
    pub all : map (λ (x : PlacedFile). x.0) files ≡ keys
    pub looked : List FileRecord
    pub done : AreDone f (places_of n differential files ++ Finish n differential looked ∷ []) events
    pub name_is : finished.name ≡ n
    pub keys_are : keys_of finished.records.items ≡ keys
    pub prints_are : IfSome told (λ c. ArePrints held finished.records.items)
    pub records_are : IfSome told (λ c. finished.records.items
        ≡ records_over before f n differential c files)
    pub looked_are : IfSome told (λ c. looked ≡ files_of finished.records.items)
    pub manifest_is : HasManifestOf before f n told_now finished

-- the place of a file was cut short behind those of the files before it, and the claim given up
pub record IsCutInPlace (f n : List ℕ) (differential : Bool) (held : Option Snapshot)
    (keys : List FileKey) (events : List Event) : Type 0
  where
    pub files : List PlacedFile
    pub next : PlacedFile
    pub rest : List FileKey
    pub whole : AreWholeFiles held (files ++ next ∷ [])
    pub keys_are : map (λ (p : PlacedFile). p.0) (files ++ next ∷ []) ++ rest ≡ keys
    pub front : List Event
    pub done : AreDone f (places_of n differential files) front
    pub cut : Event
    pub node_is : cut.node ≡ f
    pub call_is : cut.call ≡ Place n differential next.0 next.1
    pub events_are : events ≡ front ++ cut ∷ event_of f (Abandon n) Done [] ∷ []

-- the change puts a manifest of the backup
abbrev pub PutsManifest : (before f n : List ℕ) → Effect → Type 0
PutsManifest before f n (Stores path bytes second) = path ≡ meta_path before f n Manifest
PutsManifest before f n (Removes path) = ⊥

-- The finish was cut short behind the places of all files. A fault of the snapshot did that before its
-- manifest was put.
pub record IsCutInFinish (before f n : List ℕ) (differential : Bool) (held : Option Snapshot)
    (why : CopyFault) (keys : List FileKey) (events : List Event) : Type 0
  where
    pub files : List PlacedFile
    pub whole : AreWholeFiles held files
    pub all : map (λ (p : PlacedFile). p.0) files ≡ keys
    pub front : List Event
    pub done : AreDone f (places_of n differential files) front
    pub looked : List FileRecord
    pub cut : Event
    pub node_is : cut.node ≡ f
    pub call_is : cut.call ≡ Finish n differential looked
    pub no_manifest : why ≡ fault.Snap
        → AllByRecursion (λ (x : Effect). PutsManifest before f n x → ⊥) (effects cut)
    pub events_are : events ≡ front ++ cut ∷ []

-- the event is the claim of the backup, which ended so
pub record IsClaimed (f n : List ℕ) (differential : Bool) (x : Sources) (ending : Ending) (e : Event)
    : Type 0
  where
    pub node_is : e.node ≡ f
    pub call_is : e.call ≡ Claim n differential x.schema x.ring
    pub ending_is : e.ending ≡ ending

-- The backup was claimed, and finished behind that: from the keys, the schema and the token map of the
-- snapshot. The report counts the records. Over contents that are told it is a backup of the snapshot.
pub record IsBackedUp (before f n : List ℕ) (differential : Bool) (held : Option Snapshot)
    (told told_now : Option Content) (events : List Event) (report : BackupReport) : Type 0
  where
    pub sources : Sources
    pub sources_are : IfSome held (λ s. AreSourcesOf f s sources)
    pub claim : Event
    pub claimed : IsClaimed f n differential sources Done claim
    pub rest : List Event
    pub events_are : events ≡ claim ∷ rest
    pub finished : Finished
    pub made : IsFinishedBehind before f n differential held sources.keys told told_now rest finished
    pub report_is : IsReportOf f n finished.records.items report
    pub backup : IfSome told (λ c. IfSome told_now (λ d. IfSome held
        (λ s. IsBackupOf before f n differential s c d finished.records.items)))

-- the one event is a claim that was refused for this cause
abbrev pub IsClaimRefused : (f n : List ℕ) (differential : Bool) (held : Option Snapshot)
    → Refusal → List Event → Type 0
IsClaimRefused f n differential held why events =
    (x : Sources) × IfSome held (λ s. AreSourcesOf f s x)
    × ((e : Event) × IsClaimed f n differential x (Refused why) e × (events ≡ e ∷ []))

-- behind the claim the backup was cut short, by this fault, in a place or in its finish
abbrev pub IsCutBehind : (before f n : List ℕ) (differential : Bool) (held : Option Snapshot)
    (why : CopyFault) → List FileKey → List Event → Type 0
IsCutBehind before f n differential held why keys events =
    IsCutInPlace f n differential held keys events
    ⊎ IsCutInFinish before f n differential held why keys events

-- The backup was cut short: before its claim, where the storage wasn't asked; in its claim, where the
-- snapshot isn't asked; or in one of the calls behind it.
abbrev pub IsCut : (before f n : List ℕ) (differential : Bool) (held : Option Snapshot)
    (why : CopyFault) → List Event → Type 0
IsCut before f n differential held why events =
    ((events ≡ []) × (why ≢ fault.Store))
    ⊎ ((x : Sources) × IfSome held (λ s. AreSourcesOf f s x)
    × ((e : Event) × (rest : List Event) × (events ≡ e ∷ rest)
    × (((rest ≡ []) × (why ≢ fault.Snap) × (e.node ≡ f)
    × (e.call ≡ Claim n differential x.schema x.ring))
    ⊎ (IsClaimed f n differential x Done e
    × IsCutBehind before f n differential held why x.keys rest))))

-- the snapshot's keys are names of files, and its token map doesn't read, for this cause
abbrev pub HasBadRing : Option Snapshot → RingWhy → Type 0
HasBadRing held why = IfSome held (λ s. CanBeWalked s × IsRefused s.ring why)

-- the snapshot's keys are names of files, and its token map reads, without a host of this name
abbrev pub LacksHost : Option Snapshot → List ℕ → Type 0
LacksHost held f =
    IfSome held
    (λ s. CanBeWalked s
    × ((hosts : List RingHost) × IsRing s.ring hosts × (HasHost hosts f → ⊥)))

-- each answer and what was done
abbrev pub AnswersBackup : (before f n : List ℕ) (running : Running) (differential : Bool)
    → Option Snapshot → (told told_now : Option Content) → List Event
    → Result BackupReport BackupError → Type 0
AnswersBackup before f n running differential held told told_now events (Ok report) =
    IsBackedUp before f n differential held told told_now events report
AnswersBackup before f n running differential held told told_now events (Err error.NoSnapshot) =
    (events ≡ []) × IfSome held (λ s. s.order ≡ [])
AnswersBackup before f n running differential held told told_now events
    (Err (error.BadFileName at)) =
    (events ≡ []) × IfSome held (λ s. IsFirstBad at s.order)
AnswersBackup before f n running differential held told told_now events
    (Err (error.BadRing why)) =
    (events ≡ []) × HasBadRing held why
AnswersBackup before f n running differential held told told_now events
    (Err (error.NotInRing host)) =
    (events ≡ []) × (host ≡ f) × LacksHost held f
AnswersBackup before f n running differential held told told_now events
    (Err (error.Running name)) =
    (name ≡ n) × Contains running (f, n) × IsClaimRefused f n differential held IsRunning events
AnswersBackup before f n running differential held told told_now events (Err (error.Taken path)) =
    IsClaimRefused f n differential held (IsTaken path) events
AnswersBackup before f n running differential held told told_now events (Err (error.Fault why)) =
    IsCut before f n differential held why events

-- this holds where the backup was refused, for another cause than a fault
abbrev pub WhereRefused : Result BackupReport BackupError → Type 0 → Type 0
WhereRefused (Ok report) P = Unit {0}
WhereRefused (Err (error.Fault why)) P = Unit {0}
WhereRefused (Err _) P = P

-- the error is a fault of the storage
abbrev pub IsStoreFault : Result BackupReport BackupError → Type 0
IsStoreFault (Err (error.Fault why)) = why ≡ fault.Store
IsStoreFault _ = ⊥

-- the backup made these sections, by its answer
pub record BacksUp (shelf shelf_now : ShelfState) (n : List ℕ) (mode : Mode)
    (held : Option Snapshot) (result : Result BackupReport BackupError) (old new : State)
    (stood_before stood_after : History) (before after : Trace) : Type 0
  where
    pub events : List Event
    pub sections : MakesSections shelf shelf_now events (IsOk result) (IsStoreFault result) old new
        stood_before stood_after before after
    pub answer : AnswersBackup shelf.layout shelf.node n (running_of shelf) (is_differential mode)
        held old.content new.content events result

-- a call asked a snapshot and a storage: the snapshot stays open, no count of faults falls, and a
-- fault comes only where its count rose
pub record AsksAsBackup (snap snap_now : SnapState) (store store_now : State)
    (result : Result BackupReport BackupError) : Type 0
  where
    pub same : StaysOpen snap snap_now
    pub snap_later : snap.faults ≤ snap_now.faults
    pub store_later : store.faults ≤ store_now.faults
    pub cause : (why : CopyFault) → result ≡ Err (error.Fault why)
        → rose_of_node snap.faults snap_now.faults store.faults store_now.faults (device_of why)
