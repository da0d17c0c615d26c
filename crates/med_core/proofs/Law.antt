-- Every moment of every run is safe.
use Rattle.std.proofs.Common.{◌≡◌, ◌⊎◌, true, false, not, List, [], ◌∷◌, ◌++◌, Some, sym, ◌∙◌, ap, subst, inl, inr, Contains, append_assoc, ⊎_elim, bytes_eq}
use Rattle.std.proofs.lemmas.List.Elements.{All-contains, filter_passes}
use Rattle.std.proofs.lemmas.List.Elements.{All-from_recursion}
use Rattle.std.specs.FinMap as fin
use Rattle.med_base.specs.Classify.{kind_of}
use Rattle.med_base.specs.Content.{Content}
use Rattle.med_base.specs.Effects.{Effect, applied}
use Rattle.med_core.proofs.Lists.{AreQuiet, FitsAll, all_quiet_fit, fits_front, quiet_elsewhere, safe_along, safe_at_end}
use Rattle.med_core.proofs.Mends.{mend_fits, rebuild_fits}
use Rattle.med_core.proofs.Places.{claim_quiet, finish_fits, good_check, good_placing}
use Rattle.med_core.proofs.Removes.{remove_fits}
use Rattle.med_core.proofs.SafeByKind.{SafeAlongByKind, SafeByKind}
use Rattle.med_core.proofs.Sections.{BegunByKind, FrontByKind, IsUnder, ListByKind, LookByKind, RunByKind, SafeThroughByKind, SectionByKind}
use Rattle.med_core.specs.Claim.{changes_of_claim}
use Rattle.med_core.specs.Finish.{checked, manifest_puts}
use Rattle.med_core.specs.Run.{effects, effects_of, is_same_backup, next_content, next_running, running_after, without}
use Rattle.med_core.specs.Safe.{RunsThrough, kept_after_all}
use Rattle.med_core.specs.Section.{Abandon, Call, Claim, Done, Ending, Event, Finish, Halted, Place, Rebuild, Refused, Remove, Running, Stopped, Unsure}
use Rattle.med_manifest.proofs.ByKind.{FinishedByKind, Text, files, manifest}
use Rattle.med_manifest.proofs.Elsewhere.{get_elsewhere}
use Rattle.med_manifest.proofs.Gets.{same_itself}
use Rattle.med_manifest.proofs.IndexByKind.{IsGivenAs, pairs}
use Rattle.med_manifest.proofs.Members.{contains_filtered, contains_first, contains_nothing}
use Rattle.med_manifest.proofs.Rebuilds.{pairs_given, rebuild_is}
use Rattle.med_manifest.specs.Named.{named}

without_itself : (a : Text × Text) (r : Running) → ¬ (Contains (without a r) a)
without_itself a r h =
    let out : not (is_same_backup a a) ≡ true = All-contains (λ b. not (is_same_backup a b) ≡ true)
    (without a r) a (filter_passes (λ b. not (is_same_backup a b)) r) h in
    let one : bytes_eq a.0 a.0 ≡ true = same_itself a.0 in
    let two : bytes_eq a.1 a.1 ≡ true = same_itself a.1 in
    let both : is_same_backup a a ≡ true = rw (one, two) in
    let no : not (is_same_backup a a) ≡ false = ap not both in
    cc

-- a finish takes its name out
abbrev pub IsClosed : Text → Call → Running → Type 0
IsClosed f (Finish n d records) r = ¬ (Contains r (f, n))
IsClosed f _ r = Unit {0}

closed_after : (r : Running) (f : Text) (call : Call) (end : Ending) → IsClosed f call
    (running_after r f call end)
closed_after r f (Finish n d records) Stopped = contains_nothing (f, n)
closed_after r f (Finish n d records) _ = without_itself (f, n) r
closed_after r f _ _ = tt

-- but for a claim that was done, no name is running that was not running before
abbrev pub IsNewOnly : Text → Call → Ending → Text × Text → Type 0
IsNewOnly f (Claim n d schema ring) Done x = (f, n) ≡ x
IsNewOnly f _ _ x = ⊥

ran_before : (r : Running) (f : Text) (call : Call) (end : Ending) (x : Text × Text)
    → Contains (running_after r f call end) x → Contains r x ⊎ IsNewOnly f call end x
ran_before r f (Claim n d schema ring) Done x h = ⊎_elim (λ e. inr e) (λ k. inl k)
    (contains_first (f, n) x r h)
ran_before r f (Claim n d schema ring) Stopped x h = absurd (contains_nothing x h)
ran_before r f (Claim n d schema ring) _ x h = inl h
ran_before r f (Finish n d records) Stopped x h = absurd (contains_nothing x h)
ran_before r f (Finish n d records) _ x h = inl
    (contains_filtered (λ b. not (is_same_backup (f, n) b)) r
    x h)
ran_before r f (Abandon n) Stopped x h = absurd (contains_nothing x h)
ran_before r f (Abandon n) _ x h = inl (contains_filtered (λ b. not (is_same_backup (f, n) b)) r x
    h)
ran_before r f (Place n d k b) Stopped x h = absurd (contains_nothing x h)
ran_before r f (Place n d k b) _ x h = inl h
ran_before r f (Remove names grace now) Stopped x h = absurd (contains_nothing x h)
ran_before r f (Remove names grace now) _ x h = inl h
ran_before r f Rebuild Stopped x h = absurd (contains_nothing x h)
ran_before r f Rebuild _ x h = inl h

module _ (before : Text) where
  list_fits : (c : Content) (r q : Running) (f : Text) → ((n : Text) → Contains r (f, n)
      → ¬ (FinishedByKind before c f n)) → (call : Call) → IsClosed f call q → (xs : List Effect)
      → ListByKind before c r f call xs
      → FitsAll before c (RunsThrough r q) xs
  list_fits c r q f idle (Claim n d schema ring) closed xs (has, _, free, (t, fit, e)) = subst
      (FitsAll before c (RunsThrough r q)) (sym e) (all_quiet_fit before c
      (RunsThrough r q) (changes_of_claim before f n d schema ring t)
      (claim_quiet before f n has d schema ring t fit))
  list_fits c r q f idle (Place n d k b) closed xs (keyed, runs, (t, e)) = subst
      (FitsAll before c (RunsThrough r q)) (sym e) (good_placing before
      (RunsThrough r q) c f n k keyed b t d (idle n runs)).fits
  list_fits c r q f idle (Finish n d records) closed xs (
    node,
    has,
    runs,
    apart,
    keyed,
    files,
    (x, b, t, u, fit, reads, e),
  ) = subst (FitsAll before c (RunsThrough r q)) (sym e)
      (finish_fits before (RunsThrough r q) c f n b has records
      (checked before f n d x c records) t fit _ (idle n runs) (λ h. closed h.1)
      (good_check before (RunsThrough r q) f n d x records c (idle n runs) apart keyed
      files) reads
      (mend_fits before f node (RunsThrough r q) (applied (manifest_puts before f n b t)
      (applied (checked before f n d x c records).changes c)) [] u))
  list_fits c r q f idle (Abandon n) closed xs e = subst (FitsAll before c (RunsThrough r q))
      (sym e) tt
  list_fits c r q f idle (Remove names grace now) closed xs (node, are, _, (named, t, has, e)) =
      subst (FitsAll before c (RunsThrough r q)) (sym e) (remove_fits before
      (RunsThrough r q) c f node names named grace now t are has)
  list_fits c r q f idle Rebuild closed xs (node, (G, t, u, h, e)) = subst
      (FitsAll before c (RunsThrough r q)) (sym (e ∙ rebuild_is before f node c G h t u))
      (rebuild_fits before f node (RunsThrough r q) c (pairs G (fin.keys G)) t u
      (All-from_recursion (λ x. IsGivenAs before c f x.1 (kind_of before x.0))
      (pairs G (fin.keys G)) (pairs_given before f c G h (fin.keys G))))

  look_fits : (c : Content) (r q : Running) (f : Text) → ((n : Text) → Contains r (f, n)
      → ¬ (FinishedByKind before c f n)) → (call : Call) → (xs : List Effect)
      → LookByKind before c r f call xs → FitsAll before c (RunsThrough r q) xs
  look_fits c r q f idle (Finish n d records) xs (runs, apart, keyed, files, (x, e)) = subst
      (FitsAll before c (RunsThrough r q)) (sym e) (good_check before (RunsThrough r q) f n d x
      records c (idle n runs) apart keyed files).fits
  look_fits c r q f idle (Claim n d schema ring) xs h = absurd h
  look_fits c r q f idle (Place n d k b) xs h = absurd h
  look_fits c r q f idle (Abandon n) xs h = absurd h
  look_fits c r q f idle (Remove names grace now) xs h = absurd h
  look_fits c r q f idle Rebuild xs h = absurd h

  begun_fits : (c : Content) (r q : Running) (f : Text) → ((n : Text) → Contains r (f, n)
      → ¬ (FinishedByKind before c f n)) → (call : Call) → IsClosed f call q → (xs : List Effect)
      → FrontByKind before c r f call xs → FitsAll before c (RunsThrough r q) xs
  begun_fits c r q f idle call closed xs (inl h) = list_fits c r q f idle call closed xs h
  begun_fits c r q f idle call closed xs (inr h) = look_fits c r q f idle call xs h

  effects_fit : (c : Content) (r q : Running) (f : Text) → ((n : Text) → Contains r (f, n)
      → ¬ (FinishedByKind before c f n)) → (call : Call) → IsClosed f call q
      → (end : Ending) (xs : List Effect) → BegunByKind before c r f call end xs
      → FitsAll before c (RunsThrough r q) (effects_of end xs)
  effects_fit c r q f idle call closed Done xs h = list_fits c r q f idle call closed xs h
  effects_fit c r q f idle call closed (Refused why) xs h = subst
      (FitsAll before c (RunsThrough r q)) (sym h) tt
  effects_fit c r q f idle call closed (Halted by) xs (inl none) = subst
      (FitsAll before c (RunsThrough r q)) (sym none) tt
  effects_fit c r q f idle call closed (Halted by) xs (inr (rest, h)) = fits_front before
      (RunsThrough r q) xs rest c (begun_fits c r q f idle call closed (xs ++ rest) h)
  effects_fit c r q f idle call closed Stopped xs (inl none) = subst
      (FitsAll before c (RunsThrough r q)) (sym none) tt
  effects_fit c r q f idle call closed Stopped xs (inr (rest, h)) = fits_front before
      (RunsThrough r q) xs rest c (begun_fits c r q f idle call closed (xs ++ rest) h)
  effects_fit c r q f idle call closed (Unsure x false) xs (rest, h) = fits_front before
      (RunsThrough r q) xs (x ∷ rest) c (begun_fits c r q f idle call closed (xs ++ x
      ∷ rest) h)
  effects_fit c r q f idle call closed (Unsure x true) xs (rest, h) = fits_front before
      (RunsThrough r q) (xs ++ x ∷ []) rest c
      (rw append_assoc (begun_fits c r q f idle call closed (xs ++ x ∷ rest) h))

  -- the name of a claim that was done is not finished
  new_idle : (c : Content) (r : Running) (f : Text) (call : Call) (end : Ending) (xs : List Effect)
      → BegunByKind before c r f call end xs → (g m : Text) → IsNewOnly f call end (g, m)
      → ¬ (FinishedByKind before (applied (effects_of end xs) c) g m)
  new_idle c r f (Claim n d schema ring) Done xs (has, _, free, (t, fit, e)) g m is
      (o, (here_at, stands)) =
      let here : f ≡ g = ap (λ x. x.0) is in
      let name : n ≡ m = ap (λ x. x.1) is in
      let quiet : AreQuiet before xs = subst (AreQuiet before) (sym e)
      (claim_quiet before f n has d schema ring t fit) in
      let there : fin.get c (manifest before g m)
      ≡ Some o = sym (get_elsewhere (manifest before g m) xs c
      (quiet_elsewhere before g m here_at xs quiet)) ∙ stands in
      free (manifest before g m) o there (subst (IsUnder f n) (sym here_at) (sym here, sym name))
  new_idle c r f _ _ xs h g m is _ = absurd is

  pub section_safe : (S : Type 0) (c : Content) (r : Running) (W : Text → Text → Type 0)
      → SafeByKind before S c (λ f n. Contains r (f, n)) W → (e : Event)
      → SectionByKind before c r e
      → SafeAlongByKind before S c (RunsThrough r (next_running r e)) W (effects e)
  section_safe S c r W safe e h = safe_along before S (RunsThrough r (next_running r e))
      (effects e) c W (record {
        whole = safe.whole;
        unfinished = λ f n both. safe.unfinished f n
            both.0;
        sound = safe.sound;
      })
      (effects_fit c r (next_running r e) e.node (λ n. safe.unfinished e.node n) e.call
      (closed_after r e.node e.call e.ending) e.ending e.changes h)

  pub section_end : (S : Type 0) (c : Content) (r : Running) (W : Text → Text → Type 0)
      → (e : Event)
      → SectionByKind before c r e
      → SafeAlongByKind before S c (RunsThrough r (next_running r e)) W (effects e)
      → SafeByKind before S (next_content c e) (λ f n. Contains (next_running r e) (f, n))
      (kept_after_all before W (effects e))
  section_end S c r W e h along =
      let end = safe_at_end before S (RunsThrough r (next_running r e)) (effects e) c W
      along in
      record {
        whole = end.whole;
        unfinished = λ f n runs. ⊎_elim (λ before. end.unfinished f n (before, runs))
            (λ new. new_idle c r e.node e.call e.ending e.changes h f n new)
            (ran_before r e.node e.call e.ending (f, n) runs);
        sound = end.sound;
      }

  pub run_safe : (S : Type 0) (es : List Event) (c : Content) (r : Running) (W : Text → Text
      → Type 0) → SafeByKind before S c (λ f n. Contains r (f, n)) W → RunByKind before c r es
      → SafeThroughByKind before S c r W es
  run_safe S [] c r W safe h = safe
  run_safe S (e ∷ es) c r W safe h =
      let along = section_safe S c r W safe e h.0 in (
        safe,
        along,
        run_safe S es (next_content c e) (next_running r e) (kept_after_all before W
            (effects e)) (section_end S c r W e h.0 along) h.1,
      )
