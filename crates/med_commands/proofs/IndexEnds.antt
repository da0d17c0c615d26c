-- How the command `build-index` ends, out of its parts.
use Rattle.std.proofs.Common.{◌≡◌, ◌≤◌, ℕ, List, [], Result, Ok, Err, OnOk, OnErr, inl, inr, refl, sym, subst}
use Rattle.med_commands.specs.Changes.{ChangeLists, IsMadeBy}
use Rattle.med_commands.specs.NodeConfig.{NodeConfig, node_config_of, opened_at}
use Rattle.med_plan.specs.Ends.{Passed}
use Rattle.med_commands.proofs.Made.{made_later}
use Rattle.med_commands.proofs.Made.{same_content}
use Rattle.med_ini.specs.declared.config.Config.{Config}
use Rattle.med_outside.specs.Device.{Device, Files, Nodes, Storage, Output, Memory, on}
use Rattle.med_plan.specs.Ends.{Stop, Failed, Plan, IsAmong, Steps, Ends, then, said_as, seen}
use Rattle.med_outside.specs.State.{State, ChangesWithin, History}
use Rattle.med_outside.specs.World.{World, rose_of, rose_of_output}
use Rattle.med_plan.proofs.EndsLemmas.{carried, carried_as, goes_on, stops_all}
use Rattle.med_outside.proofs.Passing.{moves_on}
use Rattle.med_words.specs.Request.{Asked}
use Rattle.med_words.specs.Tables.{Action, build_index}
use Rattle.med_commands.specs.Fault.{stop_of}
use Rattle.med_commands.specs.Headline.{End, says}
use Rattle.med_commands.specs.Indexed.{Rebuilt, all_of, AreRebuilt, FindsNodes, rebuilds_plan, nodes_plan, rose_of_store, HasRebuilt, HasRebuiltAll}
use Rattle.med_commands.specs.Loaded.{IsConfigured}
use Rattle.med_commands.specs.Plans.{IsIndexed, index_plan, action_plan, plan_of}
use Rattle.med_commands.specs.Steps.{IsLeft, prints}
use Rattle.med_commands.specs.Printed.{Wrote, WrotePart}
use Rattle.med_commands.specs.Report.{index_lines}
use Rattle.med_commands.specs.declared.fault.Fault.{Fault}
use Rattle.med_commands.proofs.BackupSteps.{printed}
use Rattle.med_commands.proofs.IndexFacts.{rebuilt_indexed}
use Rattle.med_commands.proofs.IndexSteps.{all_passed, later_rose}

-- ---- the nodes were found, and after that

module _ (before : List ℕ) (nodes : List (List ℕ)) (s0 s1 s2 : State) (p0 p1 p2 : History)
    (first : ChangesWithin [] s0 s1 p0 p1) (found : FindsNodes before s0.content (Ok nodes)) where
  same_told : s1.content ≡ s0.content
  same_told = same_content s0 s1 p0 p1 first.passes

  pub all_refused : (stop : Stop) → s0.faults ≤ s1.faults
      → Ends (rose_of_store s1.faults s2.faults) (IsMadeBy s1 s2 p1 p2)
      (rebuilds_plan before s1.content [] nodes) (Err stop)
      → Ends (rose_of_store s0.faults s2.faults) (IsMadeBy s0 s2 p0 p2)
      (nodes_plan before s0.content) (Err stop)
  all_refused stop later e =
      inr (
        nodes,
        found,
        carried (rose_of_store s1.faults s2.faults) (rose_of_store s0.faults s2.faults)
            (later_rose s0.faults s1.faults s2.faults later) (IsMadeBy s1 s2 p1 p2)
            (IsMadeBy s0 s2 p0 p2) (made_later s0 s1 s2 p0 p1 p2 first)
            (rebuilds_plan before s0.content [] nodes) (Err stop)
            (subst (λ t. Ends (rose_of_store s1.faults s2.faults) (IsMadeBy s1 s2 p1 p2)
            (rebuilds_plan before t [] nodes) (Err stop)) same_told e),
      )

  pub all_rebuilt : (text : List ℕ) → HasRebuilt before s1 s2 p1 p2 nodes text
      → HasRebuiltAll before s0 s2 p0 p2 text
  all_rebuilt text h = record {
    nodes = nodes;
    found = found;
    work = record {
      rows = h.rows;
      nodes_are = h.nodes_are;
      rebuilt = subst (λ t. AreRebuilt before t [] h.rows) same_told h.rebuilt;
      moves = moves_on [] (all_of h.rows) s0 s1 s2 p0 p1 p2 first h.moves;
      lines = h.lines;
    };
  }

-- ---- the command

-- what rose of the storage rose of the whole
up_store : (a b : World) (d : Device) → rose_of_store a.store.faults b.store.faults d
    → rose_of a b d
up_store a b Files h = absurd h
up_store a b Nodes h = absurd h
up_store a b Storage h = h
up_store a b Output h = absurd h
up_store a b Memory h = h

-- the bucket was opened, and after that
module _ (node_config : NodeConfig) (a b : World) (s1 : State) (p1 : History)
    (first : ChangesWithin [] (opened_at node_config a.store) s1 a.stood p1)
    (nodes_are : b.nodes ≡ a.nodes) where
  abbrev before : List ℕ
  before = node_config.before

  told_as_before : s1.content ≡ a.store.content
  told_as_before = same_content (opened_at node_config a.store) s1 a.stood p1 first.passes

  abbrev ending : List Rebuilt → Plan (Type 0) (Unit {0})
  ending rows = prints (index_lines rows) (IsIndexed node_config rows a b) a b

  abbrev word : ChangeLists → Type 0
  word made = IsLeft (opened_at node_config) made a b

  -- the work on the nodes, and what follows it
  abbrev pub work : Plan (Type 0) (Unit {0})
  work = then (said_as word (nodes_plan before a.store.content)) ending

  pub work_stops : (stop : Stop) → a.store.faults ≤ s1.faults → b.out ≡ a.out
      → Ends (rose_of_store s1.faults b.store.faults) (IsMadeBy s1 b.store p1 b.stood)
      (nodes_plan before s1.content) (Err stop)
      → Ends (rose_of a b) says work (Err stop)
  work_stops stop later out e =
      stops_all (rose_of a b) says ending stop (said_as word (nodes_plan before a.store.content))
      (carried_as (rose_of_store s1.faults b.store.faults) (rose_of a b)
      (λ d h. up_store a b d (later_rose a.store.faults s1.faults b.store.faults later d h))
      (IsMadeBy s1 b.store p1 b.stood) says word
      (λ made h. (
        made_later (opened_at node_config a.store) s1 b.store a.stood p1 b.stood first
            made h,
        nodes_are,
        out,
      )) (nodes_plan before a.store.content) (Err stop)
      (subst (λ t. Ends (rose_of_store s1.faults b.store.faults) (IsMadeBy s1 b.store p1 b.stood)
      (nodes_plan before t) (Err stop)) told_as_before e))

  module _ (text : List ℕ) (h : HasRebuiltAll before s1 b.store p1 b.stood text) where
    abbrev rows : List Rebuilt
    rows = h.work.rows

    all_made : ChangesWithin (all_of rows) (opened_at node_config a.store) b.store a.stood b.stood
    all_made = moves_on [] (all_of rows) (opened_at node_config a.store) s1 b.store a.stood p1
        b.stood first h.work.moves

    nodes_found : FindsNodes before a.store.content (Ok h.nodes)
    nodes_found = subst (λ t. FindsNodes before t (Ok h.nodes)) told_as_before h.found

    rebuilt_so : AreRebuilt before a.store.content [] rows
    rebuilt_so = subst (λ t. AreRebuilt before t [] rows) told_as_before h.work.rebuilt

    indexed : IsIndexed node_config rows a b
    indexed = record {
      indexed = rebuilt_indexed before a.store.content b.store.content h.nodes rows
          all_made.passes.content h.work.nodes_are nodes_found.1 rebuilt_so;
      made = all_made;
      nodes = nodes_are;
    }

    passed_all : Ends (rose_of a b) (λ (w : Type 0). Unit {0})
        (said_as word (nodes_plan before a.store.content)) (Ok rows)
    passed_all =
        carried_as (rose_of a b) (rose_of a b) (λ d up. up) (λ (made : ChangeLists). Unit {0})
        (λ (w : Type 0). Unit {0}) word (λ made holds. tt) (nodes_plan before a.store.content)
        (Ok rows)
        (inr (
          h.nodes,
          nodes_found,
          subst (λ fs. Ends (rose_of a b) (λ (made : ChangeLists). Unit {0})
              (rebuilds_plan before a.store.content [] fs) (Ok rows)) h.work.nodes_are
              (all_passed before a.store.content [] rows rebuilt_so (rose_of a b)
              (λ (made : ChangeLists). Unit {0}) tt),
        ))

    pub work_ends : (r : Result (Unit {0}) Fault)
        → Steps {T = Unit {0}} (rose_of_output a.out.faults b.out.faults) Passed (on Output)
        (seen (λ x. x) stop_of r)
        → OnOk r (Wrote text a.out.taken b.out.taken)
        → OnErr r (WrotePart text a.out.taken b.out.taken)
        → Ends (rose_of a b) says work (seen (λ x. x) stop_of r)
    work_ends r steps whole part =
        goes_on (rose_of a b) says ending (rose_of a b) (λ (w : Type 0). Unit {0}) rows
        (seen (λ x. x) stop_of r) (said_as word (nodes_plan before a.store.content)) passed_all
        (printed a b (index_lines rows) (IsIndexed node_config rows a b) r steps indexed
        (subst (λ l. OnOk r (Wrote l a.out.taken b.out.taken)) h.work.lines whole)
        (subst (λ l. OnErr r (WrotePart l a.out.taken b.out.taken)) h.work.lines part))

-- the plan of a rebuild is that of what is asked for
pub asked_index : (asked : Asked) (a b : World) (end : End) → asked.action ≡ build_index
    → Ends (rose_of a b) says (index_plan asked a b) end
    → Ends (rose_of a b) says (plan_of asked a b) end
asked_index asked a b end is e =
    subst (λ (x : Action). Ends (rose_of a b) says (action_plan x asked a b) end) (sym is) e

-- the bucket wasn't opened
pub open_stops : (asked : Asked) (config : Config) (a b : World) (d : Device)
    → asked.action ≡ build_index → IsConfigured a.files.contents asked config
    → IsAmong d (on Storage) → rose_of a b d
    → ChangesWithin [] a.store b.store a.stood b.stood → b.nodes ≡ a.nodes → b.out ≡ a.out
    → Ends (rose_of a b) says (plan_of asked a b) (Err (Failed d))
open_stops asked config a b d asks configured among up moves nodes_are out_is =
    asked_index asked a b (Err (Failed d)) asks
    (inr (
      node_config_of config,
      (config, configured, refl),
      inl ((among, up), (([], refl, moves), nodes_are, out_is)),
    ))

-- the bucket was opened, and the work ended so
pub open_goes_on : (asked : Asked) (config : Config) (a b : World) (s1 : State) (p1 : History)
    (first : ChangesWithin [] (opened_at (node_config_of config) a.store) s1 a.stood p1)
    (nodes_are : b.nodes ≡ a.nodes) (end : End) → asked.action ≡ build_index
    → IsConfigured a.files.contents asked config
    → Ends (rose_of a b) says (work (node_config_of config) a b s1 p1 first nodes_are) end
    → Ends (rose_of a b) says (plan_of asked a b) end
open_goes_on asked config a b s1 p1 first nodes_are end asks configured e =
    asked_index asked a b end asks
    (inr (node_config_of config, (config, configured, refl), inr (tt, tt, e)))
