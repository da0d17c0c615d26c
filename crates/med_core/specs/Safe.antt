-- What holds at every moment of every run.
use Rattle.std.specs.Prelude.{◌≡◌, ◌≢◌, ◌⊎◌, ℕ, List, [], ◌∷◌, Contains}
use Rattle.med_base.specs.declared.layout.MetaKind.TheVariants.{Manifest}
use Rattle.med_base.specs.Classify.{kind_of}
use Rattle.med_base.specs.Content.{Content}
use Rattle.med_base.specs.Effects.{Effect, Stores, Removes, made}
use Rattle.med_base.specs.Kinds.{Meta, IsFqdn, IsBackupName}
use Rattle.med_manifest.specs.Index.{IsIndexSound}
use Rattle.med_manifest.specs.Vault.{IsFinished}
use Rattle.med_manifest.specs.Whole.{IsWhole}
use Rattle.med_core.specs.Run.{effects, next_running, next_content}
use Rattle.med_core.specs.Section.{Running, Event}

-- some backups, by node and name
abbrev pub Backups : Type 1
Backups = List ℕ → List ℕ → Type 0

-- the texts are a node and a name, and their backup is whole
pub record IsWholeBackup (before : List ℕ) (c : Content) (f n : List ℕ) : Type 0 where
  pub node : IsFqdn f
  pub name : IsBackupName n
  pub whole : IsWhole before f n c

-- what the index says of finished backups is so, for each node
abbrev pub AreIndexesSound : List ℕ → Content → Type 0
AreIndexesSound before c = (f : List ℕ) → IsFqdn f → IsIndexSound before c f

-- the backups that are kept are whole, no running name is finished, and the indexes are sound where
-- they were at the opening
pub record IsSafe (before : List ℕ) (opening : Type 0) (c : Content) (running kept : Backups)
    : Type 0
  where
    pub whole : (f n : List ℕ) → kept f n → IsWholeBackup before c f n
    pub unfinished : (f n : List ℕ) → IsFqdn f → IsBackupName n → running f n
        → IsFinished c before f n → ⊥
    pub sound : opening → AreIndexesSound before c

-- the backups that are kept after a change: a put of a manifest adds its backup, and a removal of
-- one takes its backup out
abbrev pub kept_after : List ℕ → Backups → Effect → Backups
kept_after before kept (Stores path bytes second) f n =
    kept f n ⊎ (kind_of before path ≡ Meta f n Manifest)
kept_after before kept (Removes path) f n = kept f n × (kind_of before path ≢ Meta f n Manifest)

-- the backups that are kept after these changes
abbrev pub kept_after_all : List ℕ → Backups → List Effect → Backups
kept_after_all before kept [] = kept
kept_after_all before kept (x ∷ xs) = kept_after_all before (kept_after before kept x) xs

-- no running name is finished
abbrev pub AreUnfinished : List ℕ → Content → Running → Type 0
AreUnfinished before c running =
    (f n : List ℕ) → IsFqdn f → IsBackupName n → Contains running (f, n)
    → IsFinished c before f n → ⊥

-- so it is before and after each of these changes
abbrev pub IsSafeAlong : List ℕ → Type 0 → Content → (running kept : Backups) → List Effect → Type 0
IsSafeAlong before opening c running kept [] = IsSafe before opening c running kept
IsSafeAlong before opening c running kept (x ∷ xs) =
    IsSafe before opening c running kept
    × IsSafeAlong before opening (made x c) running (kept_after before kept x) xs

-- the name of the node is among the running ones
abbrev pub RunsIn : Running → Backups
RunsIn running f n = Contains running (f, n)

-- running before and after
abbrev pub RunsThrough : Running → Running → Backups
RunsThrough first then f n = Contains first (f, n) × Contains then (f, n)

-- so it is at each moment of a run: between its events and within them, where the running names are
-- those that run before and after the event
abbrev pub IsSafeThrough : List ℕ → Type 0 → Content → Running → Backups → List Event → Type 0
IsSafeThrough before opening c running kept [] =
    IsSafe before opening c (RunsIn running) kept
IsSafeThrough before opening c running kept (e ∷ es) =
    IsSafe before opening c (RunsIn running) kept
    × IsSafeAlong before opening c (RunsThrough running (next_running running e)) kept
    (effects e)
    × IsSafeThrough before opening (next_content c e) (next_running running e)
    (kept_after_all before kept (effects e)) es
