-- The work of the command `build-index` on the nodes of an open bucket, in its order.
use Rattle.std.specs.Prelude.{◌≡◌, ℕ, List, [], ◌∷◌, ◌++◌, map, flat_map, Option, IfSome, Result, Ok, Err}
use Rattle.std.specs.FinMap.{get}
use Rattle.std.specs.List.Sorted.{IsStrictlySortedBy}
use Rattle.med_base.specs.Classify.{kind_of}
use Rattle.med_base.specs.Content.{Content}
use Rattle.med_base.specs.Effects.{Effect, after_all}
use Rattle.med_base.specs.NameOrder.{name_cmp}
use Rattle.med_commands.specs.Changes.{ChangeLists, IsNothing, FollowedBy}
use Rattle.med_plan.specs.Ends.{Passed}
use Rattle.med_index.specs.Rebuilt.{AreOfIndex, IsFirstBad, IsOfIndex, stores, removals}
use Rattle.med_index.specs.Rows.{AreNodes, HasBackup}
use Rattle.med_manifest.specs.Index.{IsIndexExact}
use Rattle.med_manifest.specs.Rebuild.{IsRebuildOf}
use Rattle.med_manifest.specs.declared.why.ManifestWhy.{ManifestWhy}
use Rattle.med_outside.specs.Causes.{RoseOrFull}
use Rattle.med_outside.specs.Device.{Device, Files, Nodes, Storage, Output, Memory, on}
use Rattle.med_plan.specs.Ends.{Refusal, BadManifest, Plan, last, step, then, said_as}
use Rattle.med_outside.specs.State.{State, ChangesWithin, History}
use Rattle.med_commands.specs.Report.{index_line, index_lines}

-- ---- lists of changes

-- this list
abbrev pub IsList : List Effect → ChangeLists
IsList xs made = made ≡ xs

-- a first part of it
abbrev pub IsFirstOf : List Effect → ChangeLists
IsFirstOf xs made = (rest : List Effect) × (xs ≡ made ++ rest)

-- a node, and the list of its rebuild
abbrev pub Rebuilt : Type 0
Rebuilt = List ℕ × List Effect

-- the lists of these rebuilds, one after another
abbrev pub all_of : List Rebuilt → List Effect
all_of rows = flat_map (λ (row : Rebuilt). row.1) rows

-- ---- what the steps answer

-- the nodes that have a backup, in byte order
abbrev pub FindsNodes : List ℕ → Option Content → Result (List (List ℕ)) Refusal → Type 0
FindsNodes before told (Ok nodes) =
    IsStrictlySortedBy name_cmp nodes × IfSome told (λ c. AreNodes c before nodes)
FindsNodes before told (Err f) = ⊥

-- the list of the rebuild of a node; or this is the path of its first manifest that doesn't read
abbrev pub Rebuilds : List ℕ → List ℕ → Option Content → Result (List Effect) Refusal → Type 0
Rebuilds before f told (Ok xs) =
    AreOfIndex before f xs × IfSome told (λ c. IsRebuildOf before c f xs)
Rebuilds before f told (Err (BadManifest path)) =
    IfSome told (λ c. (why : ManifestWhy) × IsFirstBad before c f path why)
Rebuilds before f told (Err e) = ⊥

-- ---- the plans

-- the rebuild of a node: all that it needs is read, and then its list is made
abbrev pub rebuild_plan : List ℕ → List ℕ → Option Content → Plan ChangeLists (List Effect)
rebuild_plan before f told =
    step (Rebuilds before f told) (on Storage) IsNothing (λ xs.
    step {T = Unit {0}} Passed (on Storage) (IsFirstOf xs) (λ _. last (IsList xs) xs))

-- the rebuilds of these nodes in turn, after those that were made: each over the content as it is
-- then
abbrev pub rebuilds_plan : List ℕ → Option Content → List Rebuilt → List (List ℕ)
    → Plan ChangeLists (List Rebuilt)
rebuilds_plan before told done [] = last (IsList (all_of done)) done
rebuilds_plan before told done (f ∷ fs) =
    then (said_as (FollowedBy (IsList (all_of done)))
    (rebuild_plan before f (after_all (all_of done) told)))
    (λ xs. rebuilds_plan before told (done ++ (f, xs) ∷ []) fs)

-- the work on the open bucket: which nodes there are, and then the rebuild of each
abbrev pub nodes_plan : List ℕ → Option Content → Plan ChangeLists (List Rebuilt)
nodes_plan before told =
    step (FindsNodes before told) (on Storage) IsNothing
    (λ nodes. rebuilds_plan before told [] nodes)

-- ---- what is left at the end

-- the index of each node with a backup is exact, and what is neither an entry of such a node nor
-- tells of its latest backup is as before
pub record AreIndexed (before : List ℕ) (c d : Content) : Type 0 where
  pub exact : (f : List ℕ) → HasBackup c before f → IsIndexExact before d f
  pub others : (path : List ℕ)
      → ((f : List ℕ) → HasBackup c before f → IsOfIndex f (kind_of before path) → ⊥)
      → get d path ≡ get c path

-- ---- for this crate's own clauses

-- which counts of faults rose, of calls that ask the storage and memory alone
abbrev pub rose_of_store : (store store_now : ℕ) → Device → Type 0
rose_of_store store store_now Files = ⊥
rose_of_store store store_now Nodes = ⊥
rose_of_store store store_now Storage = RoseOrFull store store_now
rose_of_store store store_now Output = ⊥
rose_of_store store store_now Memory = Unit {0}

-- these were rebuilt in turn, after those that were made
abbrev pub AreRebuilt : List ℕ → Option Content → (done rows : List Rebuilt) → Type 0
AreRebuilt before told done [] = Unit {0}
AreRebuilt before told done (row ∷ rows) =
    Rebuilds before row.0 (after_all (all_of done) told) (Ok row.1)
    × AreRebuilt before told (done ++ row ∷ []) rows

-- the nodes of these rebuilds
abbrev pub nodes_of : List Rebuilt → List (List ℕ)
nodes_of rows = map (λ (row : Rebuilt). row.0) rows

-- these nodes were rebuilt, and the text has their lines
pub record HasRebuilt (before : List ℕ) (old new : State) (stood_before stood_after : History)
    (nodes : List (List ℕ)) (text : List ℕ) : Type 0
  where
    pub rows : List Rebuilt
    pub nodes_are : nodes_of rows ≡ nodes
    pub rebuilt : AreRebuilt before old.content [] rows
    pub moves : ChangesWithin (all_of rows) old new stood_before stood_after
    pub lines : text ≡ index_lines rows

-- all nodes that have a backup were rebuilt, and the text has their lines
pub record HasRebuiltAll (before : List ℕ) (old new : State) (stood_before stood_after : History)
    (text : List ℕ) : Type 0
  where
    pub nodes : List (List ℕ)
    pub found : FindsNodes before old.content (Ok nodes)
    pub work : HasRebuilt before old new stood_before stood_after nodes text

-- one node was rebuilt, and the text gained its line
pub record HasRebuiltOne (before : List ℕ) (old new : State) (stood_before stood_after : History)
    (f text text_now : List ℕ) : Type 0
  where
    pub changes : List Effect
    pub rebuilt : Rebuilds before f old.content (Ok changes)
    pub moves : ChangesWithin changes old new stood_before stood_after
    pub line : text_now ≡ text ++ index_line f (stores changes) (removals changes)
