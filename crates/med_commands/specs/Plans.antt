-- What each command does, as a plan: its steps in their order, what each answers, and what stands
-- where the command ends there.
use Rattle.std.specs.Prelude.{◌≡◌, ℕ, List, [], ◌∷◌, Err}
use Rattle.med_commands.specs.Changes.{IsNothing}
use Rattle.med_commands.specs.NodeConfig.{NodeConfig, opened_at}
use Rattle.med_plan.specs.Ends.{Passed}
use Rattle.med_outside.specs.Device.{Files, Storage, Memory, on}
use Rattle.med_outside.specs.State.{ChangesWithin}
use Rattle.med_outside.specs.World.{World}
use Rattle.med_plan.specs.Ends.{NotBuilt, Plan, last, step, then, said_as}
use Rattle.med_words.specs.Request.{Asked}
use Rattle.med_words.specs.Tables.{Action, backup, build_index, word_of}
use Rattle.med_commands.specs.Backups.{backup_plan}
use Rattle.med_commands.specs.Indexed.{Rebuilt, AreIndexed, all_of, nodes_plan}
use Rattle.med_commands.specs.Report.{index_lines}
use Rattle.med_commands.specs.Steps.{ReadsConfig, ReadsWords, IfTold, IsLeft, IsUnasked, IsUntouched, prints}

-- The index of each node that has a backup is exact, and all else stands as before (`AreIndexed`).
-- Exactly these lists of changes were made, one after another, in the bucket of the config file,
-- which was opened for it; and no node was asked anything.
pub record IsIndexed (node_config : NodeConfig) (rows : List Rebuilt) (a b : World) : Type 0 where
  pub indexed : IfTold a.store.content b.store.content (AreIndexed node_config.before)
  pub made : ChangesWithin (all_of rows) (opened_at node_config a.store) b.store a.stood b.stood
  pub nodes : b.nodes ≡ a.nodes

-- the index of each node that has a backup is made anew
abbrev pub index_plan : Asked → (a b : World) → Plan (Type 0) (Unit {0})
index_plan asked a b =
    step (ReadsConfig a.files.contents asked) (on Files) (IsUntouched a b) (λ node_config.
    step {T = Unit {0}} Passed (on Storage) (IsLeft (λ s. s) IsNothing a b) (λ _.
    then (said_as (λ made. IsLeft (opened_at node_config) made a b)
    (nodes_plan node_config.before a.store.content)) (λ rows.
    prints (index_lines rows) (IsIndexed node_config rows a b) a b)))

-- a command that isn't built yet
abbrev pub unbuilt_plan : List ℕ → (a b : World) → Plan (Type 0) (Unit {0})
unbuilt_plan word a b =
    step {T = Unit {0}} (λ r. r ≡ Err (NotBuilt word)) [] (IsUnasked a b) (λ _. last ⊥ tt)

abbrev pub action_plan : Action → Asked → (a b : World) → Plan (Type 0) (Unit {0})
action_plan (backup n mode) asked a b = backup_plan n mode a b asked
action_plan build_index asked a b = index_plan asked a b
action_plan action asked a b = unbuilt_plan (word_of action) a b

abbrev pub plan_of : Asked → (a b : World) → Plan (Type 0) (Unit {0})
plan_of asked a b = action_plan asked.action asked a b

-- the words are read first
abbrev pub words_plan : List (List ℕ) → (a b : World) → Plan (Type 0) (Unit {0})
words_plan words a b =
    step (ReadsWords words) (Memory ∷ []) (IsUnasked a b) (λ asked. plan_of asked a b)
