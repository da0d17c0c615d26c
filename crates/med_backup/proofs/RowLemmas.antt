-- Calls of a shelf in a row: rows behind rows, one call more, and a claim that is given up.
use Rattle.std.proofs.Common.{◌≡◌, ◌∙◌, ◌++◌, ℕ, false, List, [], ◌∷◌, append_assoc, append-nil, map, Option, Some, None, IfSome, refl, sym, ap, subst}
use Rattle.std.specs.List.{Contains}
use Rattle.std.proofs.lemmas.List.{map-append}
use Rattle.med_base.specs.Content.{Content}
use Rattle.med_base.specs.Effects.{Effect, after_all, applied}
use Rattle.med_base.specs.Kinds.{IsBackupName, IsFqdn}
use Rattle.med_base.specs.Part.{node_part}
use Rattle.med_base.proofs.Lists.{all_append}
use Rattle.med_core.specs.Reach.{AreWithin, MayChange}
use Rattle.med_core.specs.Run.{IsRun, effects_of, running_after}
use Rattle.med_core.specs.Section.{Abandon, Call, Done, Ending, Event, IsSection, Rebuild, Running}
use Rattle.med_outside.specs.declared.trace.Trace.{Trace}
use Rattle.med_outside.specs.Makes.{Last, Makes, Records, Sure, seen, seen_unsure, took, tried}
use Rattle.med_outside.specs.State.{ChangesWithin, History, State}
use Rattle.med_outside.proofs.Making.{all_made}
use Rattle.med_outside.proofs.Passing.{moves_on}
use Rattle.med_shelf.specs.Acts.{Acts, event_of}
use Rattle.med_shelf.specs.Shelf.{ShelfState, running_of}
use Rattle.med_shelf.proofs.CheckedSoFar.{made_content}
use Rattle.med_backup.specs.Sections.{MakesSections, all_effects, running_through}
use Rattle.med_backup.proofs.SectionLemmas.{NoRemoval, effects_on, all_effects_on, all_running_on, run_on, running_on, runs_on, within_any}

-- what both recorded
records_on : (layout : List ℕ) (front done : List Effect) (last : Last) (t0 t1 t2 : Trace)
    → Records layout front Sure t0 t1 → Records layout done last t1 t2
    → Records layout (front ++ done) last t0 t2
records_on layout front done last t0 t1 t2 one other = record {
  changes =
      other.changes
      ∙ ap (λ l. l ++ (map (seen layout) done ++ map (seen_unsure layout) (tried last)))
      (one.changes ∙ ap (λ l. t0.changes.items ++ l) (append-nil (map (seen layout) front)))
      ∙ append_assoc t0.changes.items (map (seen layout) front)
      (map (seen layout) done ++ map (seen_unsure layout) (tried last))
      ∙ ap (λ l. t0.changes.items ++ l)
      (sym (append_assoc (map (seen layout) front) (map (seen layout) done)
      (map (seen_unsure layout) (tried last)))
      ∙ ap (λ l. l ++ map (seen_unsure layout) (tried last))
      (sym (map-append (seen layout) front done)));
  unsure = other.unsure;
}

-- nothing was made
pub none_made : (a : ShelfState) (s0 s1 : State) (p0 p1 : History) (t0 t1 : Trace)
    (fine fault : Type 0) → t1.changes.items ≡ t0.changes.items → t1.unsure ≡ false
    → ChangesWithin [] s0 s1 p0 p1 → MakesSections a a [] fine fault s0 s1 p0 p1 t0 t1
none_made a s0 s1 p0 p1 t0 t1 fine fault still sure moves = record {
  xs = [];
  within = tt;
  makes = record {
    done = [];
    last = Sure;
    rest = [];
    split = refl;
    moves = moves;
    records = record { changes = still ∙ sym (append-nil t0.changes.items); unsure = sure };
    whole = λ ok. (refl, refl);
    cause = λ unsure. absurd (cc unsure);
  };
  effects_are = refl;
  run = no_run s0.content;
  layout_is = refl;
  node_is = refl;
  running_is = refl;
}
  where
    no_run : (told : Option Content)
        → IfSome told (λ c. IsRun a.layout c (running_of a) [])
    no_run None = tt
    no_run (Some c) = tt

module _ (a b : ShelfState) (es : List Event) (s0 s1 : State) (p0 p1 : History) (t0 t1 : Trace)
    (so : MakesSections a b es (Unit {0}) ⊥ s0 s1 p0 p1 t0 t1) where
  made : so.makes.done ≡ all_effects es
  made =
      sym (so.effects_are ∙ ap (λ l. so.makes.done ++ took l) (so.makes.whole tt).0
      ∙ append-nil so.makes.done)

  pub content_on : s1.content ≡ after_all (all_effects es) s0.content
  content_on =
      made_content ⊥ so.xs s0 s1 p0 p1 t0 t1 so.makes
      ∙ ap (λ l. after_all l s0.content)
      (all_made (Unit {0}) ⊥ so.xs s0 s1 p0 p1 t0 t1 tt so.makes ∙ made)

  -- what was told before them
  pub told_before : (P : Type 0) → IfSome s1.content (λ c. P) → IfSome s0.content (λ c. P)
  told_before P is =
      go s0.content (subst (λ (o : Option Content). IfSome o (λ c. P)) content_on is)
    where
      go : (o : Option Content) → IfSome (after_all (all_effects es) o) (λ c. P)
          → IfSome o (λ c. P)
      go None is = tt
      go (Some c) is = is

  module _ (now : ShelfState) (gs : List Event) (s2 : State) (p2 : History) (t2 : Trace)
      (fine fault : Type 0) (more : MakesSections b now gs fine fault s1 s2 p1 p2 t1 t2) where
    row_over : (o : Option Content) → IfSome o (λ c. IsRun a.layout c (running_of a) es)
        → IfSome (after_all (all_effects es) o)
        (λ c. IsRun a.layout c (running_through (running_of a) es) gs)
        → IfSome o (λ c. IsRun a.layout c (running_of a) (es ++ gs))
    row_over None run later = tt
    row_over (Some c) run later = runs_on a.layout c (running_of a) es gs run later

    behind_row : IfSome s1.content (λ c. IsRun a.layout c (running_through (running_of a) es) gs)
    behind_row =
        subst (λ (running : Running). IfSome s1.content (λ c. IsRun a.layout c running gs))
        so.running_is
        (subst (λ (l : List ℕ). IfSome s1.content (λ c. IsRun l c (running_of b) gs)) so.layout_is
        more.run)

    both_rows : Makes fine fault (so.xs ++ more.xs) s0 s2 p0 p2 t0 t2
    both_rows =
        let front = so.makes in
        let back = more.makes in
        let ended = front.whole tt in
        let moved : ChangesWithin front.done s0 s1 p0 p1 =
        rw (← append-nil front.done) (rw ended.0 at front.moves) in
        let noted : Records s0.terms.bucket.layout front.done Sure t0 t1 =
        rw ended.0 at front.records in
        record {
          done = front.done ++ back.done;
          last = back.last;
          rest = back.rest;
          split = (λ i. all_made (Unit {0}) ⊥ so.xs s0 s1 p0 p1 t0 t1 tt so.makes i ++ back.split i)
              ∙ sym (append_assoc front.done back.done (tried back.last ++ back.rest));
          moves = rw (append_assoc front.done back.done (took back.last))
              (moves_on front.done (back.done ++ took back.last) s0 s1 s2 p0 p1 p2 moved back.moves);
          records = records_on s0.terms.bucket.layout front.done back.done back.last t0 t1 t2 noted
              (rw front.moves.terms at back.records);
          whole = back.whole;
          cause = back.cause;
        }

    pub in_row : MakesSections a now (es ++ gs) fine fault s0 s2 p0 p2 t0 t2
    unfolding both_rows
    in_row = record {
      xs = so.xs ++ more.xs;
      within = all_append (MayChange a.layout a.node Rebuild) so.xs more.xs so.within
          (subst (λ (f : List ℕ). AreWithin a.layout f Rebuild more.xs) so.node_is
          (subst (λ (l : List ℕ). AreWithin l b.node Rebuild more.xs) so.layout_is more.within));
      makes = both_rows;
      effects_are =
          all_effects_on es gs ∙ (λ i. sym made i ++ more.effects_are i)
          ∙ sym (append_assoc so.makes.done more.makes.done (took more.makes.last));
      run = row_over s0.content so.run
          (subst (λ (o : Option Content). IfSome o
          (λ c. IsRun a.layout c (running_through (running_of a) es) gs)) content_on behind_row);
      layout_is = more.layout_is ∙ so.layout_is;
      node_is = more.node_is ∙ so.node_is;
      running_is =
          more.running_is ∙ ap (λ (running : Running). running_through running gs) so.running_is
          ∙ sym (all_running_on (running_of a) es gs);
    }

-- ---- one call

module _ (b now : ShelfState) (s1 s2 : State) (p1 p2 : History) (t1 t2 : Trace) (call : Call)
    (plain : NoRemoval call) (ending : Last → Ending) (fine fault : Type 0)
    (acts : Acts b now call ending fine fault s1 s2 p1 p2 t1 t2)
    (took_so : effects_of (ending acts.makes.last) acts.makes.done
    ≡ acts.makes.done ++ took acts.makes.last) where
  -- a call is a row of one
  one_row : MakesSections b now
      (event_of b.node call (ending acts.makes.last) acts.makes.done ∷ []) fine fault s1 s2 p1 p2 t1
      t2
  one_row = record {
    xs = acts.xs;
    within = within_any b.layout b.node call plain acts.xs acts.within;
    makes = acts.makes;
    effects_are =
        append-nil (effects_of (ending acts.makes.last) acts.makes.done) ∙ took_so;
    run = run_of s1.content acts.section;
    layout_is = acts.layout_is;
    node_is = acts.node_is;
    running_is = acts.running_is;
  }
    where
      run_of : (o : Option Content)
          → IfSome o (λ c. IsSection b.layout (node_part b.layout b.node c) (running_of b)
          (event_of b.node call (ending acts.makes.last) acts.makes.done))
          → IfSome o (λ c. IsRun b.layout c (running_of b)
          (event_of b.node call (ending acts.makes.last) acts.makes.done ∷ []))
      run_of None section = tt
      run_of (Some c) section = (section, tt)

-- a call behind a row
pub one_more : (a b : ShelfState) (es : List Event) (s0 s1 : State) (p0 p1 : History)
    (t0 t1 : Trace) → MakesSections a b es (Unit {0}) ⊥ s0 s1 p0 p1 t0 t1 → (now : ShelfState)
    (s2 : State) (p2 : History) (t2 : Trace) (call : Call) → NoRemoval call
    → (ending : Last → Ending) (fine fault : Type 0)
    → (acts : Acts b now call ending fine fault s1 s2 p1 p2 t1 t2)
    → effects_of (ending acts.makes.last) acts.makes.done
    ≡ acts.makes.done ++ took acts.makes.last
    → MakesSections a now
    (es ++ event_of a.node call (ending acts.makes.last) acts.makes.done ∷ []) fine fault s0 s2 p0
    p2 t0 t2
one_more a b es s0 s1 p0 p1 t0 t1 so now s2 p2 t2 call plain ending fine fault acts took_so =
    subst
    (λ f. MakesSections a now
    (es ++ event_of f call (ending acts.makes.last) acts.makes.done ∷ []) fine fault s0 s2 p0 p2 t0
    t2) so.node_is
    (in_row a b es s0 s1 p0 p1 t0 t1 so now
    (event_of b.node call (ending acts.makes.last) acts.makes.done ∷ []) s2 p2 t2 fine fault
    (one_row b now s1 s2 p1 p2 t1 t2 call plain ending fine fault acts took_so))

-- ---- a claim that is given up

module _ (a b : ShelfState) (es : List Event) (s0 s1 : State) (p0 p1 : History) (t0 t1 : Trace) where
  -- the claim is given up behind them
  module _ (fine fault : Type 0) (so : MakesSections a b es fine fault s0 s1 p0 p1 t0 t1)
      (now : ShelfState) (n : List ℕ) (node : IsFqdn a.node) (name : IsBackupName n)
      (runs : Contains (running_of b) (a.node, n)) where
    abbrev pub end : Event
    end = event_of a.node (Abandon n) Done []

    section : (c : Content) → IsSection a.layout c (running_through (running_of a) es) end
    section c = record {
      node = node;
      asked = (
        name,
        subst (λ (running : Running). Contains running (a.node, n)) so.running_is runs,
      );
      ends = refl;
    }

    ended : (o : Option Content) → IfSome o (λ c. IsRun a.layout c (running_of a) es)
        → IfSome o (λ c. IsRun a.layout c (running_of a) (es ++ end ∷ []))
    ended None run = tt
    ended (Some c) run =
        run_on a.layout c (running_of a) es end run
        (section (node_part a.layout a.node (applied (all_effects es) c)))

    pub given_up : now.layout ≡ b.layout → now.node ≡ b.node
        → running_of now ≡ running_after (running_of b) b.node (Abandon n) Done
        → MakesSections a now (es ++ end ∷ []) fine fault s0 s1 p0 p1 t0 t1
    given_up layout_is node_is running_is = record {
      xs = so.xs;
      within = so.within;
      makes = so.makes;
      effects_are = effects_on es end ∙ append-nil (all_effects es) ∙ so.effects_are;
      run = ended s0.content so.run;
      layout_is = layout_is ∙ so.layout_is;
      node_is = node_is ∙ so.node_is;
      running_is =
          running_is ∙ (λ i. running_after (so.running_is i) (so.node_is i) (Abandon n) Done)
          ∙ sym (running_on (running_of a) es end);
    }
