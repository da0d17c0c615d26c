-- How the command `backup` ends, by what the work on its node made and answered.
use Rattle.std.proofs.Common.{◌≡◌, ◌≢◌, ◌⊎◌, inl, inr, ℕ, Bool, true, false, List, [], ◌∷◌, ◌++◌, append-nil, Contains, arith, Option, Some, None, IfSome, Result, Ok, Err, refl, sym, ap, ◌∙◌, subst}
use Rattle.std.specs.List.{AllByRecursion}
use Rattle.med_base.specs.Content.{Content, Object, objects_under}
use Rattle.med_base.specs.Effects.{Effect}
use Rattle.med_base.specs.Kinds.{IsFqdn}
use Rattle.med_base.specs.Layout.{backup_folder}
use Rattle.med_base.specs.Part.{node_part}
use Rattle.med_base.proofs.Lists.{all_append, all_split}
use Rattle.med_commands.specs.NodeConfig.{NodeConfig, opened_at, snap_at, tagged_at}
use Rattle.med_core.specs.Reach.{MayChange}
use Rattle.med_core.specs.Run.{IsRun, effects, effects_of}
use Rattle.med_core.specs.Section.{Call, Claim, Done, EndsSo, Ending, Event, Halted, IsRefusedFor, IsTaken, Rebuild, Refused, Stopped, Unsure}
use Rattle.med_core.proofs.OverParts.{under_part}
use Rattle.med_index.specs.Modes.{is_differential}
use Rattle.med_backup.specs.Backups.{AnswersBackup, IsCut, Sources, WhereRefused}
use Rattle.med_backup.specs.Sections.{MakesSections, all_effects}
use Rattle.med_backup.specs.declared.backup.BackupError.{BackupError}
use Rattle.med_backup.specs.declared.backup.BackupError.TheVariants as error
use Rattle.med_backup.specs.declared.report.BackupReport.{BackupReport}
use Rattle.med_outside.specs.Counts.{opened_once}
use Rattle.med_outside.specs.Makes.{Last, Sure, took, tried}
use Rattle.med_outside.specs.Makes as makes
use Rattle.med_outside.specs.Sent.{device_of}
use Rattle.med_outside.specs.State.{ChangesWithin, History, State}
use Rattle.med_outside.specs.World.{NodesState, World, rose_of}
use Rattle.med_outside.proofs.Passing.{after_all-nothing, moves_on}
use Rattle.med_outside.specs.declared.copy_fault.CopyFault.{CopyFault}
use Rattle.med_outside.specs.declared.copy_fault.CopyFault.TheVariants as fault
use Rattle.med_outside.specs.declared.mode.Mode.{Mode}
use Rattle.med_outside.specs.declared.trace.Trace.{Trace}
use Rattle.med_outside.specs.Device.{Nodes, Storage, on}
use Rattle.med_plan.specs.Ends.{Ends}
use Rattle.med_shelf.specs.Claims.{IsFirstUnder}
use Rattle.med_shelf.specs.Shelf.{ShelfState}
use Rattle.med_commands.specs.Backups.{AreMade, IsCutFrom, IsDone, IsLooked, IsPart, MakesBackup, WorksOnNode, WorksOnSnapshot, copy_plan, node_plan, sections_plan, snapshot_plan}
use Rattle.med_commands.specs.Fault.{stop_of, fault_for}
use Rattle.med_commands.specs.Headline.{End, says}
use Rattle.med_commands.specs.Report.{report_line}
use Rattle.med_commands.specs.Steps.{prints}

-- ---- sections that were made

took_one : (P : Effect → Type 0) (last : Last) (rest : List Effect)
    → AllByRecursion P (tried last ++ rest) → AllByRecursion P (took last)
took_one P Sure rest all = tt
took_one P (makes.Unsure x true) rest all = (all.0, tt)
took_one P (makes.Unsure x false) rest all = tt

took_within : (P : Effect → Type 0) (done : List Effect) (last : Last) (rest : List Effect)
    → AllByRecursion P (done ++ (tried last ++ rest)) → AllByRecursion P (done ++ took last)
took_within P done last rest all =
    let cut = all_split P done (tried last ++ rest) all in
    all_append P done (took last) cut.0 (took_one P last rest cut.1)

abbrev pub new_shelf : (before f : List ℕ) → ShelfState
new_shelf before f = record { layout = before; node = f; running = [] }

-- the sections of a new shelf
pub made_anew : (before f : List ℕ) (now : ShelfState) (events : List Event) (fine bad : Type 0)
    (s0 s1 : State) (p0 p1 : History) (t0 t1 : Trace)
    → MakesSections (new_shelf before f) now events fine bad s0 s1 p0 p1 t0 t1
    → AreMade before f events s0 s1 p0 p1
made_anew before f now events fine bad s0 s1 p0 p1 t0 t1 so = record {
  moves = subst (λ (xs : List Effect). ChangesWithin xs s0 s1 p0 p1) (sym so.effects_are)
      so.makes.moves;
  within = subst (AllByRecursion (MayChange before f Rebuild)) (sym so.effects_are)
      (took_within (MayChange before f Rebuild) so.makes.done so.makes.last so.makes.rest
      (subst (AllByRecursion (MayChange before f Rebuild)) so.makes.split so.within));
  run = so.run;
}

-- ---- what a claim found

module _ (before f n : List ℕ) where
  abbrev folder : List ℕ
  folder = backup_folder before f n

  module _ (c : Content) (node : IsFqdn f) where
    -- what lies in the folder lies there over the part of the node
    over_all : (objects : List (List ℕ × Object)) → objects_under folder (node_part before f c)
        ≡ objects → objects_under folder c ≡ objects
    over_all objects are = sym (under_part before f node n c) ∙ are

    module _ (d : Bool) (schema ring : List ℕ) where
      -- the changes of a claim were begun where its folder is free
      by_ending : (ending : Ending) (changes : List Effect)
          → EndsSo before (node_part before f c) [] f (Claim n d schema ring) ending changes
          → (effects_of ending changes ≡ []) ⊎ IsFirstUnder folder (Some c) None
      by_ending Done changes (idle, free, rest) = inr (over_all [] free)
      by_ending (Refused why) changes (none, for) = inl none
      by_ending (Halted by) changes (inl none) = inl none
      by_ending (Halted by) changes (inr (rest, left, inl (idle, free, are))) =
          inr (over_all [] free)
      by_ending (Halted by) changes (inr (rest, left, inr look)) = absurd look
      by_ending (Unsure x took_effect) changes (rest, inl (idle, free, are)) =
          inr (over_all [] free)
      by_ending (Unsure x took_effect) changes (rest, inr look) = absurd look
      by_ending Stopped changes (inl none) = inl none
      by_ending Stopped changes (inr (rest, inl (idle, free, are))) = inr (over_all [] free)
      by_ending Stopped changes (inr (rest, inr look)) = absurd look

  module _ (d : Bool) (schema ring : List ℕ) (e : Event) (rest : List Event) (node_is : e.node ≡ f)
      (call_is : e.call ≡ Claim n d schema ring) where
    -- the first event of a run
    ends_as : (c : Content) → IsRun before c [] (e ∷ rest) → IsFqdn f
        × EndsSo before (node_part before f c) [] f (Claim n d schema ring) e.ending e.changes
    ends_as c run =
        subst (λ (g : List ℕ). IsFqdn g
        × EndsSo before (node_part before g c) [] g (Claim n d schema ring) e.ending e.changes)
        node_is (
          run.0.node,
          subst (λ (call : Call). EndsSo before (node_part before e.node c) [] e.node call e.ending
              e.changes) call_is run.0.ends,
        )

    pub begun_free : (told : Option Content) → IfSome told (λ c. IsRun before c [] (e ∷ rest))
        → (effects e ≡ []) ⊎ IsFirstUnder folder told None
    begun_free None run = inr tt
    begun_free (Some c) run =
        let ends = ends_as c run in by_ending c ends.0 d schema ring e.ending e.changes ends.1

    pub claimed_free : (told : Option Content) → IfSome told (λ c. IsRun before c [] (e ∷ rest))
        → e.ending ≡ Done → IsFirstUnder folder told None
    claimed_free None run is = tt
    claimed_free (Some c) run is =
        let ends = ends_as c run in
        let list = subst (λ (ending : Ending). EndsSo before (node_part before f c) [] f
        (Claim n d schema ring) ending e.changes) is ends.1 in
        over_all c ends.0 [] list.1

    pub taken_first : (told : Option Content) → IfSome told (λ c. IsRun before c [] (e ∷ rest))
        → (path : List ℕ) → e.ending ≡ Refused (IsTaken path)
        → IsFirstUnder folder told (Some path)
    taken_first None run path is = tt
    taken_first (Some c) run path is =
        let ends = ends_as c run in
        let found : (e.changes ≡ []) × IsRefusedFor before (node_part before f c) [] f
        (Claim n d schema ring) (IsTaken path) = subst (λ (ending : Ending). EndsSo before
        (node_part before f c) [] f (Claim n d schema ring) ending e.changes) is ends.1 in
        let (o, rest, are) = found.1.1 in (o, rest, over_all c ends.0 _ are)

-- ---- the ends

nothing_in : {X : Type 0} (x : X) → Contains [] x → ⊥
nothing_in x (k, below, is) = omega arith

module _ (node_config : NodeConfig) (n : List ℕ) (mode : Mode) (a b : World) where
  abbrev stop_for : BackupError → End
  stop_for e = Err (stop_of (fault_for n e))

  -- the work over the open bucket and the open snapshot
  abbrev Works : Result BackupReport BackupError → Type 0
  Works result =
      MakesBackup node_config.before node_config.node n mode (snap_at a.nodes.snaps node_config n)
      result (opened_at node_config a.store) b.store a.stood b.stood

  -- nothing was changed over the open bucket
  abbrev Still : Type 0
  Still = ChangesWithin [] (opened_at node_config a.store) b.store a.stood b.stood

  abbrev IsCounted : Type 0
  IsCounted = b.nodes.counts ≡ opened_once (tagged_at node_config n) a.nodes.counts

  none_changed : (events : List Event)
      → ChangesWithin (all_effects events) (opened_at node_config a.store) b.store a.stood b.stood
      → all_effects events ≡ [] → Still
  none_changed events moves none =
      subst (λ (xs : List Effect). ChangesWithin xs (opened_at node_config a.store) b.store a.stood
      b.stood) none moves

  module _ (out_is : b.out ≡ a.out) (counts : IsCounted) where
    looked : Still → IsLooked node_config n a b
    looked still = (([], refl, still), counts, out_is)

    -- a fault cut it short
    cut_ends : (why : CopyFault) → rose_of a b (device_of why) → Works (Err (error.Fault why))
        → Ends (rose_of a b) says (snapshot_plan n mode a b node_config)
        (stop_for (error.Fault why))
    cut_ends why rose made = by_part made.answer
      where
        at_first : (w : CopyFault) → w ≢ fault.Store → rose_of a b (device_of w) → Still
            → Ends (rose_of a b) says (snapshot_plan n mode a b node_config)
            (stop_for (error.Fault w))
        at_first fault.Snap never up still = inl ((inl refl, up), looked still)
        at_first fault.Store never up still = absurd (never refl)
        at_first fault.Memory never up still = inl ((inr (inl refl), tt), looked still)

        at_name : (w : CopyFault) → w ≢ fault.Snap → rose_of a b (device_of w) → Still
            → (x : Sources) → Ends (rose_of a b) says (copy_plan n mode a b node_config x)
            (stop_for (error.Fault w))
        at_name fault.Snap never up still x = absurd (never refl)
        at_name fault.Store never up still x = inl ((inl refl, up), looked still)
        at_name fault.Memory never up still x = inl ((inr (inl refl), tt), looked still)

        part : (x : Sources)
            → IsCutFrom node_config.before node_config.node n (is_differential mode)
            (snap_at a.nodes.snaps node_config n) why x made.events
            → IsPart node_config n a b mode x why
        part x cut = record {
          events = made.events;
          made = made.made;
          cut = cut;
          snapshot = counts;
          out = out_is;
        }

        in_sections : (w : CopyFault) → rose_of a b (device_of w) → (x : Sources)
            → IsPart node_config n a b mode x w
            → Ends (rose_of a b) says (sections_plan n mode a b node_config x)
            (stop_for (error.Fault w))
        in_sections fault.Snap up x so = inl ((inl refl, up), so)
        in_sections fault.Store up x so =
            inr (tt, tt, inl ((inl refl, up), (fault.Store, so)))
        in_sections fault.Memory up x so =
            inr (tt, tt, inl ((inr (inl refl), up), (fault.Memory, so)))

        by_part : IsCut node_config.before node_config.node n (is_differential mode)
            (snap_at a.nodes.snaps node_config n) why made.events
            → Ends (rose_of a b) says (snapshot_plan n mode a b node_config)
            (stop_for (error.Fault why))
        by_part (inl (none, never)) =
            at_first why never rose
            (none_changed made.events made.made.moves (ap all_effects none))
        by_part (inr (x, of, (e, rest, are, inl (alone, never, node_is, call_is)))) =
            let run = subst (λ (es : List Event). IfSome a.store.content
            (λ c. IsRun node_config.before c [] es)) are made.made.run in
            inr (
              x,
              of,
              on_begun (begun_free node_config.before node_config.node n
                  (is_differential mode) x.schema x.ring e rest node_is call_is a.store.content run),
            )
          where
            on_begun : (effects e ≡ [])
                ⊎ IsFirstUnder (backup_folder node_config.before node_config.node n)
                a.store.content None
                → Ends (rose_of a b) says (copy_plan n mode a b node_config x)
                (stop_for (error.Fault why))
            on_begun (inl none) =
                at_name why never rose (none_changed made.events made.made.moves
                (ap all_effects (are ∙ ap (λ (es : List Event). e ∷ es) alone)
                ∙ append-nil (effects e) ∙ none)) x
            on_begun (inr free) =
                inr (
                  tt,
                  free,
                  in_sections why rose x
                      (part x (e, rest, are, inl (alone, never, node_is, call_is))),
                )
        by_part (inr (x, of, (e, rest, are, inr (claimed, behind)))) =
            let run = subst (λ (es : List Event). IfSome a.store.content
            (λ c. IsRun node_config.before c [] es)) are made.made.run in
            let free = claimed_free node_config.before node_config.node n (is_differential mode)
            x.schema x.ring e rest claimed.node_is claimed.call_is a.store.content run
            claimed.ending_is in
            inr (
              x,
              of,
              inr (
                tt,
                free,
                in_sections why rose x (part x (e, rest, are, inr (claimed, behind))),
              ),
            )

    -- it was refused, or a fault cut it short
    short_ends : (e : BackupError)
        → ((why : CopyFault) → e ≡ error.Fault why → rose_of a b (device_of why)) → Works (Err e)
        → Ends (rose_of a b) says (snapshot_plan n mode a b node_config) (stop_for e)
    short_ends error.NoSnapshot rose made = inl ((refl, made.answer.1), looked made.still)
    short_ends (error.BadFileName at) rose made = inl (made.answer.1, looked made.still)
    short_ends (error.BadRing why) rose made =
        inl ((why, made.answer.1, refl), looked made.still)
    short_ends (error.NotInRing host) rose made =
        inl ((made.answer.1, made.answer.2), looked made.still)
    short_ends (error.Running name) rose made = absurd (nothing_in (node_config.node, n) made.answer.1)
    short_ends (error.Taken path) rose made =
        let (x, of, (e, claimed, are)) = made.answer in
        let run = subst (λ (es : List Event). IfSome a.store.content
        (λ c. IsRun node_config.before c [] es)) are made.made.run in
        inr (
          x,
          of,
          inl (
            (
              refl,
              taken_first node_config.before node_config.node n
                  (is_differential mode) x.schema x.ring e [] claimed.node_is claimed.call_is
                  a.store.content run path claimed.ending_is,
            ),
            looked made.still,
          ),
        )
    short_ends (error.Fault why) rose made = cut_ends why (rose why refl) made

  module _ (out_is : b.out ≡ a.out) where
    -- no bucket was opened
    unopened_ends : (why : CopyFault) → why ≢ fault.Snap → rose_of a b (device_of why)
        → ChangesWithin [] a.store b.store a.stood b.stood → b.nodes ≡ a.nodes
        → Ends (rose_of a b) says (node_plan n mode a b node_config) (stop_for (error.Fault why))
    unopened_ends fault.Snap never up moves same = absurd (never refl)
    unopened_ends fault.Store never up moves same =
        inl ((inl refl, up), (([], refl, moves), same, out_is))
    unopened_ends fault.Memory never up moves same =
        inl ((inr (inl refl), tt), (([], refl, moves), same, out_is))

    -- no snapshot was opened
    untagged_ends : (why : CopyFault) → why ≢ fault.Store → rose_of a b (device_of why) → Still
        → b.nodes.counts ≡ a.nodes.counts
        → Ends (rose_of a b) says (node_plan n mode a b node_config) (stop_for (error.Fault why))
    untagged_ends fault.Store never up moves same = absurd (never refl)
    untagged_ends fault.Snap never up moves same =
        inr (tt, tt, inl ((inl refl, up), (([], refl, moves), same, out_is)))
    untagged_ends fault.Memory never up moves same =
        inr (tt, tt, inl ((inr (inl refl), tt), (([], refl, moves), same, out_is)))

    -- the backup wasn't made
    pub unmade : (e : BackupError)
        → ((why : CopyFault) → e ≡ error.Fault why → rose_of a b (device_of why))
        → WorksOnNode node_config n mode a.nodes b.nodes (Err e) a.store b.store a.stood b.stood
        → Ends (rose_of a b) says (node_plan n mode a b node_config) (stop_for e)
    unmade e rose (inl (((why, is, never), moves), same)) =
        let e_is : e ≡ error.Fault why = cc is in
        subst (λ (x : BackupError). Ends (rose_of a b) says (node_plan n mode a b node_config)
        (stop_for x)) (sym e_is) (unopened_ends why never (rose why e_is) moves same)
    unmade e rose (inr (inl (((why, is, never), moves), same))) =
        let e_is : e ≡ error.Fault why = cc is in
        subst (λ (x : BackupError). Ends (rose_of a b) says (node_plan n mode a b node_config)
        (stop_for x)) (sym e_is) (untagged_ends why never (rose why e_is) moves same)
    unmade e rose (inr (inr (made, counts))) = inr (
      tt,
      tt,
      inr (
        tt,
        tt,
        short_ends out_is counts e rose made,
      ),
    )

  -- it was made, and its line printed as the last step says
  pub made_ends : (report : BackupReport) (end : End)
      → WorksOnNode node_config n mode a.nodes b.nodes (Ok report) a.store b.store a.stood b.stood
      → ((done : Type 0) → done → Ends (rose_of a b) says
      (prints (report_line report) done a b) end)
      → Ends (rose_of a b) says (node_plan n mode a b node_config) end
  made_ends report end (inl (((why, is, never), moves), same)) printed = absurd (cc is)
  made_ends report end (inr (inl (((why, is, never), moves), same))) printed = absurd (cc is)
  made_ends report end (inr (inr (made, counts))) printed =
      let backup = made.answer in
      let run = subst (λ (es : List Event). IfSome a.store.content
      (λ c. IsRun node_config.before c [] es)) backup.events_are made.made.run in
      let free = claimed_free node_config.before node_config.node n (is_differential mode)
      backup.sources.schema backup.sources.ring backup.claim backup.rest backup.claimed.node_is
      backup.claimed.call_is a.store.content run backup.claimed.ending_is in
      inr (
        tt,
        tt,
        inr (
          tt,
          tt,
          inr (
            backup.sources,
            backup.sources_are,
            inr (
              tt,
              free,
              inr (
                tt,
                tt,
                inr (
                  report,
                  tt,
                  printed (IsDone node_config n a b mode backup.sources report)
                      (record {
                        events = made.events;
                        made = made.made;
                        backup = backup;
                        sources_are = refl;
                        snapshot = counts;
                      }),
                ),
              ),
            ),
          ),
        ),
      )

-- ---- calls that changed nothing come first

where_map : (r : Result BackupReport BackupError) (P Q : Type 0) → (P → Q) → WhereRefused r P
    → WhereRefused r Q
where_map (Ok report) P Q to h = tt
where_map (Err (error.Fault why)) P Q to h = tt
where_map (Err error.NoSnapshot) P Q to h = to h
where_map (Err (error.BadFileName at)) P Q to h = to h
where_map (Err (error.BadRing why)) P Q to h = to h
where_map (Err (error.NotInRing host)) P Q to h = to h
where_map (Err (error.Running name)) P Q to h = to h
where_map (Err (error.Taken path)) P Q to h = to h

pub works_later : (node_config : NodeConfig) (n : List ℕ) (mode : Mode)
    (nodes nodes_now : NodesState) (result : Result BackupReport BackupError) (s0 s1 s2 : State)
    (p0 p1 p2 : History) → ChangesWithin [] s0 s1 p0 p1
    → WorksOnSnapshot node_config n mode nodes nodes_now result s1 s2 p1 p2
    → WorksOnSnapshot node_config n mode nodes nodes_now result s0 s2 p0 p2
works_later node_config n mode nodes nodes_now result s0 s1 s2 p0 p1 p2 first
    (inl ((why, moves), same)) =
    inl ((why, moves_on [] [] s0 s1 s2 p0 p1 p2 first moves), same)
works_later node_config n mode nodes nodes_now result s0 s1 s2 p0 p1 p2 first (inr (made, counts)) =
    let same : s1.content ≡ s0.content = first.passes.content ∙ after_all-nothing s0.content in
    inr (
      record {
        events = made.events;
        made = record {
          moves = moves_on [] (all_effects made.events) s0 s1 s2 p0 p1 p2 first made.made.moves;
          within = made.made.within;
          run = subst (λ (told : Option Content). IfSome told
              (λ c. IsRun node_config.before c [] made.events)) same made.made.run;
        };
        answer = subst (λ (told : Option Content). AnswersBackup node_config.before node_config.node n
            [] (is_differential mode) (snap_at nodes.snaps node_config n) told s2.content made.events
            result) same made.answer;
        still = where_map result _ _ (λ (moves : ChangesWithin [] s1 s2 p1 p2).
            moves_on [] [] s0 s1 s2 p0 p1 p2 first moves) made.still;
      },
      counts,
    )
