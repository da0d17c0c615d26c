-- How the work of the command `build-index` ends, out of its parts.
use Rattle.std.proofs.Common.{◌≡◌, ◌⊎◌, ◌≤◌, ℕ, List, [], ◌∷◌, ◌++◌, map, flat_map, Option, Some, None, IfSome, Result, Ok, Err, IsOk, IsErrOf, inl, inr, refl, sym, ◌∙◌, ap, ap₂, subst, arith, append_assoc, append-nil}
use Rattle.std.proofs.lemmas.Option.{IfSome_then}
use Rattle.med_base.specs.Content.{Content}
use Rattle.med_base.specs.Effects.{Effect, after_all}
use Rattle.med_commands.specs.Changes.{ChangeLists, IsNothing, FollowedBy, IsMadeBy}
use Rattle.med_commands.proofs.Made.{made_on}
use Rattle.med_index.specs.Rebuilt.{AreOfIndex, IsRebuild, stores, removals}
use Rattle.med_manifest.specs.Rebuild.{IsRebuildOf}
use Rattle.med_index.specs.declared.report.IndexReport.{IndexReport}
use Rattle.med_index.specs.declared.errors.IndexError.{IndexError}
use Rattle.med_index.specs.declared.errors.IndexError.TheVariants as index
use Rattle.med_outside.specs.Causes.{RoseOrFull}
use Rattle.med_outside.specs.Device.{Device, Files, Nodes, Storage, Output, Memory, on}
use Rattle.med_plan.specs.Ends.{Stop, Failed, IsAmong, Ends, said_as}
use Rattle.med_outside.specs.Makes.{Last, tried, took, IsError, Makes}
use Rattle.med_outside.specs.State.{State, ChangesWithin, History}
use Rattle.med_outside.specs.declared.trace.Trace.{Trace}
use Rattle.med_plan.proofs.EndsLemmas.{carried_as, stops_all}
use Rattle.med_outside.proofs.Moments.{effects_front}
use Rattle.med_outside.proofs.Passing.{moves_on}
use Rattle.med_commands.specs.Fault.{stop_of, fault_of_rebuild}
use Rattle.med_commands.specs.Indexed.{IsList, IsFirstOf, Rebuilt, all_of, Rebuilds, rebuild_plan, rebuilds_plan, rose_of_store, AreRebuilt, nodes_of, HasRebuilt, HasRebuiltOne}
use Rattle.med_commands.specs.Report.{index_line}

-- ---- lists

-- what is gained by one more at the end
pub flat_push : {A B : Type 0} (f : A → List B) (xs : List A) (x : A)
    → flat_map f (xs ++ x ∷ []) ≡ flat_map f xs ++ f x
flat_push f [] x = append-nil (f x)
flat_push f (y ∷ xs) x =
    ap (λ l. f y ++ l) (flat_push f xs x) ∙ sym (append_assoc (f y) (flat_map f xs) (f x))

map_push : {A B : Type 0} (f : A → B) (xs : List A) (x : A)
    → map f (xs ++ x ∷ []) ≡ map f xs ++ f x ∷ []
map_push f [] x = refl
map_push f (y ∷ xs) x = ap (λ l. f y ∷ l) (map_push f xs x)

no_first : (xs ys : List Effect) → [] ≡ xs ++ ys → xs ≡ []
no_first [] ys e = refl
no_first (x ∷ xs) ys e = cc e

-- ---- a list that was made

module _ (fine fault : Type 0) (xs : List Effect) (s0 s1 : State) (p0 p1 : History)
    (t0 t1 : Trace) (m : Makes fine fault xs s0 s1 p0 p1 t0 t1) where
  first_made : IsMadeBy s0 s1 p0 p1 (IsFirstOf xs)
  first_made =
      let (ys, cut) = effects_front m.done m.last m.rest in
      (m.done ++ took m.last, (ys, m.split ∙ cut), m.moves)

  none_made : xs ≡ [] → IsMadeBy s0 s1 p0 p1 IsNothing
  none_made none =
      let (ys, (rest, cut), moves) = first_made in
      (ys, no_first ys rest (sym none ∙ cut), moves)

  pub whole_made : fine → ChangesWithin xs s0 s1 p0 p1
  whole_made ok =
      let ended = m.whole ok in
      let all : xs ≡ m.done ++ took m.last =
      m.split ∙ ap₂ (λ (l : Last) (rest : List Effect). m.done ++ (tried l ++ rest)) ended.0 ended.1
      ∙ sym (ap (λ (l : Last). m.done ++ took l) ended.0) in
      subst (λ (l : List Effect). ChangesWithin l s0 s1 p0 p1) (sym all) m.moves

-- ---- the rebuild of one node

-- a device failed: before anything was made, or after a first part of the list
halted : (before f : List ℕ) (told : Option Content) (xs : List Effect) (s0 s1 : State)
    (p0 p1 : History) (rose : Device → Type 0) (d : Device) → IsAmong d (on Storage) → rose d
    → AreOfIndex before f xs → IfSome told (λ c. (xs ≡ []) ⊎ IsRebuildOf before c f xs)
    → (xs ≡ [] → IsMadeBy s0 s1 p0 p1 IsNothing) → IsMadeBy s0 s1 p0 p1 (IsFirstOf xs)
    → Ends rose (IsMadeBy s0 s1 p0 p1) (rebuild_plan before f told) (Err (Failed d))
halted before f None xs s0 s1 p0 p1 rose d among up reach list none some =
    inr (xs, (reach, tt), inl ((among, up), some))
halted before f (Some c) xs s0 s1 p0 p1 rose d among up reach (inl is) none some =
    inl ((among, up), none is)
halted before f (Some c) xs s0 s1 p0 p1 rose d among up reach (inr is) none some =
    inr (xs, (reach, is), inl ((among, up), some))

-- the rebuild was refused
pub one_refused : (before f : List ℕ) (e : IndexError) (xs : List Effect) (s0 s1 : State)
    (p0 p1 : History) (t0 t1 : Trace)
    → IsRebuild before s0.content f (Err e) xs
    → Makes (IsOk {T = IndexReport} (Err e)) (IsError {T = IndexReport} (Err e) index.Store) xs s0
    s1 p0 p1 t0 t1
    → (IsErrOf {T = IndexReport} (Err e) index.Store → RoseOrFull s0.faults s1.faults)
    → Ends (rose_of_store s0.faults s1.faults) (IsMadeBy s0 s1 p0 p1)
    (rebuild_plan before f s0.content) (Err (stop_of (fault_of_rebuild e)))
one_refused before f (index.BadManifest path why) xs s0 s1 p0 p1 t0 t1 is m up =
    inl (
      IfSome_then s0.content is.list (λ c h. (why, h)),
      none_made _ _ xs s0 s1 p0 p1 t0 t1 m is.reports,
    )
one_refused before f index.Store xs s0 s1 p0 p1 t0 t1 is m up =
    halted before f s0.content xs s0 s1 p0 p1 (rose_of_store s0.faults s1.faults) Storage (inl refl)
    (up refl) is.reach is.list (none_made _ _ xs s0 s1 p0 p1 t0 t1 m)
    (first_made _ _ xs s0 s1 p0 p1 t0 t1 m)
one_refused before f index.Memory xs s0 s1 p0 p1 t0 t1 is m up =
    halted before f s0.content xs s0 s1 p0 p1 (rose_of_store s0.faults s1.faults) Memory
    (inr (inl refl)) tt is.reach is.list (none_made _ _ xs s0 s1 p0 p1 t0 t1 m)
    (first_made _ _ xs s0 s1 p0 p1 t0 t1 m)

module _ (before f : List ℕ) (report : IndexReport) (xs : List Effect) (s0 s1 : State)
    (p0 p1 : History) (fault : Type 0) (t0 t1 : Trace)
    (is : IsRebuild before s0.content f (Ok report) xs)
    (m : Makes (IsOk {E = IndexError} (Ok report)) fault xs s0 s1 p0 p1 t0 t1) where
  -- the list was made, and there was no memory for its line
  pub line_refused : Ends (rose_of_store s0.faults s1.faults) (IsMadeBy s0 s1 p0 p1)
      (rebuild_plan before f s0.content) (Err (Failed Memory))
  line_refused =
      inr (
        xs,
        (is.reach, is.list),
        inl ((inr (inl refl), tt), first_made _ _ xs s0 s1 p0 p1 t0 t1 m),
      )

  -- the list was made, and its line was added
  pub one_rebuilt : (text text_now : List ℕ)
      → text_now ≡ text ++ index_line f report.put report.deleted
      → HasRebuiltOne before s0 s1 p0 p1 f text text_now
  one_rebuilt text text_now line = record {
    changes = xs;
    rebuilt = (is.reach, is.list);
    moves = whole_made _ _ xs s0 s1 p0 p1 t0 t1 m refl;
    line = line ∙ ap₂ (λ (put deleted : ℕ). text ++ index_line f put deleted) is.reports.0
        is.reports.1;
  }

-- ---- one node after another

module _ (before : List ℕ) (told : Option Content) where
  -- what ends the rest ends the whole
  passed : (done rows : List Rebuilt) (fs : List (List ℕ)) → AreRebuilt before told done rows
      → (rose : Device → Type 0) (means : ChangeLists → Type 0) (end : Result (List Rebuilt) Stop)
      → Ends rose means (rebuilds_plan before told (done ++ rows) fs) end
      → Ends rose means (rebuilds_plan before told done (nodes_of rows ++ fs)) end
  passed done [] fs h rose means end e =
      subst (λ (l : List Rebuilt). Ends rose means (rebuilds_plan before told l fs) end)
      (append-nil done) e
  passed done ((f, xs) ∷ rows) fs h rose means end e =
      inr (
        xs,
        h.0,
        inr (
          tt,
          tt,
          passed (done ++ (f, xs) ∷ []) rows fs h.1 rose means end
              (subst (λ (l : List Rebuilt). Ends rose means (rebuilds_plan before told l fs) end)
              (sym (append_assoc done ((f, xs) ∷ []) rows)) e),
        ),
      )

  rebuilt_push : (done rows : List Rebuilt) (row : Rebuilt) → AreRebuilt before told done rows
      → Rebuilds before row.0 (after_all (all_of (done ++ rows)) told) (Ok row.1)
      → AreRebuilt before told done (rows ++ row ∷ [])
  rebuilt_push done [] row h is = (
    subst (λ (l : List Rebuilt).
        Rebuilds before row.0 (after_all (all_of l) told) (Ok row.1)) (append-nil done) is,
    tt,
  )
  rebuilt_push done (r ∷ rows) row h is = (
    h.0,
    rebuilt_push (done ++ r ∷ []) rows row h.1
        (subst (λ (l : List Rebuilt).
        Rebuilds before row.0 (after_all (all_of l) told) (Ok row.1))
        (sym (append_assoc done (r ∷ []) rows)) is),
  )

  pub all_passed : (done rows : List Rebuilt) → AreRebuilt before told done rows
      → (rose : Device → Type 0) (means : ChangeLists → Type 0)
      → means (IsList (all_of (done ++ rows)))
      → Ends rose means (rebuilds_plan before told done (nodes_of rows)) (Ok (done ++ rows))
  all_passed done rows h rose means holds =
      subst (λ (fs : List (List ℕ)). Ends rose means (rebuilds_plan before told done fs)
      (Ok (done ++ rows))) (append-nil (nodes_of rows))
      (passed done rows [] h rose means (Ok (done ++ rows)) (refl, holds))

-- ---- the loop over the nodes

-- a count that rose from later on rose
pub later_rose : (before mid now : ℕ) → before ≤ mid → (d : Device) → rose_of_store mid now d
    → rose_of_store before now d
later_rose before mid now later Files h = h
later_rose before mid now later Nodes h = h
later_rose before mid now later Storage h = omega arith
later_rose before mid now later Output h = h
later_rose before mid now later Memory h = h

pub none_rebuilt : (before : List ℕ) (s : State) (p : History) (text : List ℕ) → text ≡ []
    → ChangesWithin [] s s p p → HasRebuilt before s s p p [] text
none_rebuilt before s p text none moves = record {
  rows = [];
  nodes_are = refl;
  rebuilt = tt;
  moves = moves;
  lines = none;
}

module _ (before : List ℕ) (s0 s1 s2 : State) (p0 p1 p2 : History) (fs : List (List ℕ))
    (text : List ℕ) (h : HasRebuilt before s0 s1 p0 p1 fs text) where
  told_then : s1.content ≡ after_all (all_of h.rows) s0.content
  told_then = h.moves.passes.content

  pub next_rebuilt : (f text_now : List ℕ) → HasRebuiltOne before s1 s2 p1 p2 f text text_now
      → HasRebuilt before s0 s2 p0 p2 (fs ++ f ∷ []) text_now
  next_rebuilt f text_now one = record {
    rows = h.rows ++ (f, one.changes) ∷ [];
    nodes_are = map_push (λ (row : Rebuilt). row.0) h.rows (f, one.changes)
        ∙ ap (λ (l : List (List ℕ)). l ++ f ∷ []) h.nodes_are;
    rebuilt = rebuilt_push before s0.content [] h.rows (f, one.changes) h.rebuilt
        (subst (λ (t : Option Content). Rebuilds before f t (Ok one.changes)) told_then
        one.rebuilt);
    moves = subst (λ (l : List Effect). ChangesWithin l s0 s2 p0 p2)
        (sym (flat_push (λ (row : Rebuilt). row.1) h.rows (f, one.changes)))
        (moves_on (all_of h.rows) one.changes s0 s1 s2 p0 p1 p2 h.moves one.moves);
    lines = one.line
        ∙ ap (λ (l : List ℕ). l ++ index_line f (stores one.changes) (removals one.changes)) h.lines
        ∙ sym (flat_push (λ (row : Rebuilt).
        index_line row.0 (stores row.1) (removals row.1)) h.rows (f, one.changes));
  }

  pub next_refused : (f : List ℕ) (gs : List (List ℕ)) (stop : Stop) → s0.faults ≤ s1.faults
      → Ends (rose_of_store s1.faults s2.faults) (IsMadeBy s1 s2 p1 p2)
      (rebuild_plan before f s1.content) (Err stop)
      → Ends (rose_of_store s0.faults s2.faults) (IsMadeBy s0 s2 p0 p2)
      (rebuilds_plan before s0.content [] (fs ++ f ∷ gs)) (Err stop)
  next_refused f gs stop later e =
      let rose = rose_of_store s0.faults s2.faults in
      let means = IsMadeBy s0 s2 p0 p2 in
      let word = FollowedBy (IsList (all_of h.rows)) in
      let plan = rebuild_plan before f (after_all (all_of h.rows) s0.content) in
      subst (λ (l : List (List ℕ)). Ends rose means
      (rebuilds_plan before s0.content [] (l ++ f ∷ gs)) (Err stop)) h.nodes_are
      (passed before s0.content [] h.rows (f ∷ gs) h.rebuilt rose means (Err stop)
      (stops_all rose means
      (λ xs. rebuilds_plan before s0.content (h.rows ++ (f, xs) ∷ []) gs) stop
      (said_as word plan)
      (carried_as (rose_of_store s1.faults s2.faults) rose
      (later_rose s0.faults s1.faults s2.faults later) (IsMadeBy s1 s2 p1 p2) means word
      (λ made is. made_on s0 s1 s2 p0 p1 p2 (IsList (all_of h.rows)) made
      (all_of h.rows, refl, h.moves) is) plan (Err stop)
      (subst (λ (t : Option Content). Ends (rose_of_store s1.faults s2.faults)
      (IsMadeBy s1 s2 p1 p2) (rebuild_plan before f t) (Err stop)) told_then e))))
