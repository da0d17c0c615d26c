-- What one call on a node's backups may do: the changes that it makes, and how it ends.
-- This project's own. A section is over the part of its node, and none of that node comes between.
use Rattle.std.specs.Prelude.{◌≡◌, ◌≢◌, ◌⊎◌, ◌++◌, ◌<◌, ◌^◌, ℕ, Bool, List, [], ◌∷◌, map, Contains}
use Rattle.std.specs.Cmp.Lexicographic.{slice_cmp}
use Rattle.std.specs.List.{AllByRecursion}
use Rattle.std.specs.Ordering.{nat_cmp}
use Rattle.std.specs.declared.cmp.Ordering.TheVariants.{Less}
use Rattle.med_base.specs.declared.key.FileKey.{FileKey}
use Rattle.med_base.specs.Content.{Content, Object, objects_under}
use Rattle.med_base.specs.Effects.{Effect}
use Rattle.med_base.specs.Key.{IsKey, AreRising}
use Rattle.med_base.specs.Kinds.{IsFqdn, IsBackupName}
use Rattle.med_base.specs.Layout.{backup_folder}
use Rattle.med_manifest.specs.declared.manifest.FileRecord.{FileRecord}
use Rattle.med_manifest.specs.Index.{Entries, IsGiven}
use Rattle.med_manifest.specs.Manifest.{IsManifest, IsPathOf}
use Rattle.med_manifest.specs.Reads.{DoAllRead, IsFirstUnread}
use Rattle.med_manifest.specs.Rebuild.{changes_of_rebuild}
use Rattle.med_manifest.specs.Vault.{IsBackup}
use Rattle.med_manifest.specs.Written.{manifest_text}
use Rattle.med_core.specs.Claim.{changes_of_claim}
use Rattle.med_core.specs.Finish.{Fresh, checked, changes_of_finish}
use Rattle.med_core.specs.Outside.{AreNamedOutside}
use Rattle.med_core.specs.Place.{placing}
use Rattle.med_core.specs.Removal.{changes_of_removal}

-- the backups that are being made, by node and name
abbrev pub Running : Type 0
Running = List (List ℕ × List ℕ)

-- a call on the backups of a node, with what it is asked for
pub data Call : Type 0 where
  -- a backup starts, with its schema and its token map
  Claim : (name : List ℕ) (is_differential : Bool) (schema ring : List ℕ) → Call
  -- a file of its snapshot is stored or reused
  Place : (name : List ℕ) (is_differential : Bool) (key : FileKey) (bytes : List ℕ) → Call
  -- it is finished with these records of its files, in order of their keys
  Finish : (name : List ℕ) (is_differential : Bool) (records : List FileRecord) → Call
  -- it is given up
  Abandon : (name : List ℕ) → Call
  -- the backups of these names are removed, with so many days of grace for shared files
  Remove : (names : List (List ℕ)) (grace now : ℕ) → Call
  -- the index is made anew
  Rebuild : Call

-- why a call makes no change, by what it found
pub data Refusal : Type 0 where
  IsRunning : Refusal
  IsTaken : (path : List ℕ) → Refusal
  HasBadManifest : (path : List ℕ) → Refusal
  IsNoBackup : Refusal

-- what cut a call short: the storage, the snapshot, or want of memory
pub data Halt : Type 0 where
  Store : Halt
  Snap : Halt
  Memory : Halt

-- how a call ended
pub data Ending : Type 0 where
  Done : Ending
  Refused : (why : Refusal) → Ending
  Halted : (by : Halt) → Ending
  -- the change after those that were made answered a fault; it took effect or not
  Unsure : (change : Effect) (took_effect : Bool) → Ending
  -- the process ended
  Stopped : Ending

-- texts in byte order, none of them twice
abbrev pub AreInByteOrder : List (List ℕ) → Type 0
AreInByteOrder [] = Unit {0}
AreInByteOrder (x ∷ xs) =
    AllByRecursion (λ y. slice_cmp nat_cmp x y ≡ Less) xs × AreInByteOrder xs

-- what the call is made with: names, keys and paths of the backup, which is running
abbrev pub IsAsked : List ℕ → Running → List ℕ → Call → Type 0
IsAsked before running f (Claim n is_differential schema ring) = IsBackupName n
IsAsked before running f (Place n is_differential key bytes) =
    IsBackupName n × Contains running (f, n) × IsKey key
IsAsked before running f (Finish n is_differential records) =
    IsBackupName n × Contains running (f, n) × AreRising (map (λ (r : FileRecord). r.key) records)
    × AllByRecursion (λ (r : FileRecord). IsKey r.key × IsPathOf before f n r.key r.path) records
IsAsked before running f (Abandon n) = IsBackupName n × Contains running (f, n)
IsAsked before running f (Remove names grace now) =
    AllByRecursion IsBackupName names × AreInByteOrder names
IsAsked before running f Rebuild = Unit {0}

-- no object lies in the folder of the backup
abbrev pub IsFree : List ℕ → Content → List ℕ → List ℕ → Type 0
IsFree before c f n = objects_under (backup_folder before f n) c ≡ []

-- none of these names of the node is running
abbrev pub AreIdle : Running → List ℕ → List (List ℕ) → Type 0
AreIdle running f names = AllByRecursion (λ n. Contains running (f, n) → ⊥) names

-- these are all the changes of the call over the content, with the seconds that its puts had; that
-- of a schema or a manifest, which an entry names, has 64 bits
abbrev pub IsListOf : List ℕ → Content → Running → List ℕ → Call → List Effect → Type 0
IsListOf before c running f (Claim n is_differential schema ring) xs =
    (Contains running (f, n) → ⊥) × IsFree before c f n
    × ((seconds : ℕ → ℕ) × (seconds 0 < 2 ^ 64)
    × (xs ≡ changes_of_claim before f n is_differential schema ring seconds))
IsListOf before c running f (Place n is_differential key bytes) xs =
    (second : ℕ) × (xs ≡ (placing before f n is_differential key bytes second c).changes)
IsListOf before c running f (Finish n is_differential records) xs =
    (fresh : Fresh) × (of_puts : ℕ → ℕ) × (of_mend : ℕ → ℕ) × (of_puts 0 < 2 ^ 64)
    × IsManifest before f n
    (manifest_text (checked before f n is_differential fresh c records).files)
    (checked before f n is_differential fresh c records).files
    × (xs ≡ changes_of_finish before f n c (checked before f n is_differential fresh c records)
    (manifest_text (checked before f n is_differential fresh c records).files) of_puts of_mend)
IsListOf before c running f (Abandon n) xs = xs ≡ []
IsListOf before c running f (Remove names grace now) xs =
    AreIdle running f names × DoAllRead before c f names
    × ((named : List (List ℕ)) × (seconds : ℕ → ℕ) × AreNamedOutside before c f names named
    × (xs ≡ changes_of_removal before c f names named grace now seconds))
IsListOf before c running f Rebuild xs =
    DoAllRead before c f []
    × ((entries : Entries) × (of_mend : ℕ → ℕ) × (of_entries : List ℕ → ℕ)
    × IsGiven before c f entries
    × (xs ≡ changes_of_rebuild before c f entries of_mend of_entries))

-- the call has this cause to be refused; that a name is no backup's is a cause of deletions alone
abbrev pub IsRefusedFor : List ℕ → Content → Running → List ℕ → Call → Refusal → Type 0
IsRefusedFor before c running f (Claim n is_differential schema ring) IsRunning =
    Contains running (f, n)
IsRefusedFor before c running f (Claim n is_differential schema ring) (IsTaken path) =
    (Contains running (f, n) → ⊥) × ((o : Object) × (rest : List (List ℕ × Object))
    × (objects_under (backup_folder before f n) c ≡ (path, o) ∷ rest))
IsRefusedFor before c running f (Remove names grace now) IsRunning =
    (n : List ℕ) × Contains names n × Contains running (f, n)
IsRefusedFor before c running f (Remove names grace now) IsNoBackup =
    AreIdle running f names
    × ((n : List ℕ) × (names ≡ n ∷ []) × (IsBackup c before f n → ⊥))
IsRefusedFor before c running f (Remove names grace now) (HasBadManifest path) =
    AreIdle running f names × IsFirstUnread before c f names path
IsRefusedFor before c running f Rebuild (HasBadManifest path) = IsFirstUnread before c f [] path
IsRefusedFor before c running f _ _ = ⊥

-- a part of a list that is left where the call is halted: a claim whose list was made is done
abbrev pub IsLeft : Call → List Effect → Type 0
IsLeft (Claim n is_differential schema ring) rest = rest ≢ []
IsLeft (Abandon n) rest = ⊥
IsLeft _ rest = Unit {0}

-- these are all the changes of a look at the records of a finish. A file that is placed again may be
-- too large for a manifest, and then no more of the finish follows
abbrev pub IsLookOf : List ℕ → Content → List ℕ → Call → List Effect → Type 0
IsLookOf before c f (Finish n is_differential records) xs =
    (fresh : Fresh) × (xs ≡ (checked before f n is_differential fresh c records).changes)
IsLookOf before c f _ xs = ⊥

-- a call that was cut short had begun these changes
abbrev pub IsBegunList : List ℕ → Content → Running → List ℕ → Call → List Effect → Type 0
IsBegunList before c running f call xs =
    IsListOf before c running f call xs ⊎ IsLookOf before c f call xs

-- the changes begin those of the call, or there is none
abbrev pub BeginsList : List ℕ → Content → Running → List ℕ → Call → List Effect → Type 0
BeginsList before c running f call xs =
    (xs ≡ [])
    ⊎ ((rest : List Effect) × IsLeft call rest × IsBegunList before c running f call (xs ++ rest))

-- the changes were made where the call ended so
abbrev pub EndsSo : List ℕ → Content → Running → List ℕ → Call → Ending → List Effect → Type 0
EndsSo before c running f call Done xs = IsListOf before c running f call xs
EndsSo before c running f call (Refused why) xs =
    (xs ≡ []) × IsRefusedFor before c running f call why
EndsSo before c running f call (Halted by) xs = BeginsList before c running f call xs
EndsSo before c running f call (Unsure x took_effect) xs =
    (rest : List Effect) × IsBegunList before c running f call (xs ++ x ∷ rest)
EndsSo before c running f call Stopped xs =
    (xs ≡ []) ⊎ ((rest : List Effect) × IsBegunList before c running f call (xs ++ rest))

-- a call on a node's backups, with the changes that it made
pub record Event : Type 0 where
  pub node : List ℕ
  pub call : Call
  pub changes : List Effect
  pub ending : Ending

-- the event is a section over the content, with these running names before it
pub record IsSection (before : List ℕ) (c : Content) (running : Running) (e : Event) : Type 0 where
  pub node : IsFqdn e.node
  pub asked : IsAsked before running e.node e.call
  pub ends : EndsSo before c running e.node e.call e.ending e.changes
