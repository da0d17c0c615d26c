-- The answers of a backup: nothing was claimed, the claim was refused, and what came behind it.
use Rattle.std.proofs.Common.{◌≡◌, ℕ, Bool, true, false, List, [], ◌∷◌, Option, Some, None, Result, Ok, Err, IsOk, IfSome, inl, inr, refl, subst}
use Rattle.std.specs.List.{AllByRecursion}
use Rattle.med_base.specs.declared.key.FileKey.{FileKey}
use Rattle.med_base.specs.Content.{Content}
use Rattle.med_base.specs.Key.{AreRising}
use Rattle.med_core.specs.Section.{Claim, Done, Event, Running}
use Rattle.med_index.specs.Modes.{is_differential}
use Rattle.med_outside.specs.declared.copy_fault.CopyFault.{CopyFault}
use Rattle.med_outside.specs.declared.copy_fault.CopyFault.TheVariants as fault
use Rattle.med_outside.specs.declared.mode.Mode.{Mode}
use Rattle.med_outside.specs.declared.trace.Trace.{Trace}
use Rattle.med_outside.specs.Makes.{IsError}
use Rattle.med_outside.specs.Snapshot.{HasKey, Snapshot}
use Rattle.med_outside.specs.State.{History, State}
use Rattle.med_outside.proofs.Passing.{moves_at_rest}
use Rattle.med_backup.proofs.Found.{all_have}
use Rattle.med_shelf.specs.declared.errors.ClaimError.{ClaimError}
use Rattle.med_shelf.specs.declared.errors.ClaimError.TheVariants as claim_error
use Rattle.med_shelf.specs.declared.finished.Finished.{Finished}
use Rattle.med_shelf.specs.Acts.{ActsAsClaim, event_of}
use Rattle.med_shelf.specs.Claims.{AnswersClaim, claimed, WhereRefused as ClaimRefused}
use Rattle.med_shelf.specs.Endings.{claim_ending}
use Rattle.med_shelf.specs.Records.{files_of}
use Rattle.med_shelf.specs.Shelf.{ClaimState, ShelfState, running_of}
use Rattle.med_backup.specs.declared.backup.BackupError.{BackupError}
use Rattle.med_backup.specs.declared.backup.BackupError.TheVariants as error
use Rattle.med_backup.specs.declared.report.BackupReport.{BackupReport}
use Rattle.med_backup.specs.Backups.{AnswersBackup, ArePrints, AreSourcesOf, BacksUp, IsReportOf, IsStoreFault, Sources, WhereRefused}
use Rattle.med_backup.specs.Placing.{EndsBehind, MakesBehind}
use Rattle.med_backup.specs.Sections.{MakesSections}
use Rattle.med_backup.specs.Sources.{BlamesSources, error_of_claim}
use Rattle.med_backup.proofs.PlaceSteps.{sections_as}
use Rattle.med_backup.proofs.MadeFacts.{told_backup}
use Rattle.med_backup.proofs.RowLemmas.{content_on, in_row, none_made, one_more, told_before}
use Rattle.med_backup.proofs.SectionLemmas.{claim_effects}

-- ---- nothing was claimed

-- what can't be read is no backup
pub sources_refused : (before f n : List ℕ) (running : Running) (d : Bool) (held : Option Snapshot)
    (told told_now : Option Content) (first later : ℕ) (e : BackupError)
    → BlamesSources f held first later e
    → AnswersBackup before f n running d held told told_now [] (Err e)
sources_refused before f n running d held told told_now first later error.NoSnapshot is = (refl, is)
sources_refused before f n running d held told told_now first later (error.BadFileName at) is = (refl, is)
sources_refused before f n running d held told told_now first later (error.BadRing why) is = (refl, is)
sources_refused before f n running d held told told_now first later (error.NotInRing host) is =
    (refl, is.0, is.1)
sources_refused before f n running d held told told_now first later (error.Running name) never = absurd never
sources_refused before f n running d held told told_now first later (error.Taken path) never = absurd never
sources_refused before f n running d held told told_now first later (error.Fault fault.Snap) is =
    inl (refl, λ e. cc e)
sources_refused before f n running d held told told_now first later (error.Fault fault.Memory) is =
    inl (refl, λ e. cc e)
sources_refused before f n running d held told told_now first later (error.Fault fault.Store) never =
    absurd never

pub none_backed : (a : ShelfState) (n : List ℕ) (mode : Mode) (held : Option Snapshot)
    (e : BackupError) (s : State) (p : History) (t : Trace) → t.unsure ≡ false
    → AnswersBackup a.layout a.node n (running_of a) (is_differential mode) held s.content s.content [] (Err e)
    → BacksUp a a n mode held (Err e) s s p p t t
none_backed a n mode held e s p t sure answer = record {
  events = [];
  sections = none_made a s s p p t t _ _ refl sure (moves_at_rest s p);
  answer = answer;
}

-- ---- the claim was refused

store_of : (T : Type 0) (e : ClaimError) → IsError {T = T} (Err e) claim_error.Store
    → IsStoreFault (Err (error_of_claim e))
store_of T (claim_error.Running name) is = absurd (cc is)
store_of T (claim_error.Taken path) is = absurd (cc is)
store_of T claim_error.Store is = refl
store_of T claim_error.Memory is = absurd (cc is)

module _ (a b : ShelfState) (n : List ℕ) (mode : Mode) (held : Option Snapshot) (x : Sources)
    (src : IfSome held (λ s. AreSourcesOf a.node s x)) (s0 s1 : State) (p0 p1 : History)
    (t0 t1 : Trace) (sure : t0.unsure ≡ false) where
  -- the section of the claim
  one_claim : {T : Type 0} (result : Result T ClaimError)
      → (acts : ActsAsClaim {T = T} a b (Claim n (is_differential mode) x.schema x.ring) result s0
      s1 p0 p1 t0 t1)
      → MakesSections a b
      (event_of a.node (Claim n (is_differential mode) x.schema x.ring)
      (claim_ending result acts.makes.last) acts.makes.done ∷ []) (IsOk result)
      (IsError result claim_error.Store) s0 s1 p0 p1 t0 t1
  one_claim {T} result acts =
      one_more a a [] s0 s0 p0 p0 t0 t0
      (none_made a s0 s0 p0 p0 t0 t0 (Unit {0}) ⊥ refl sure (moves_at_rest s0 p0)) b s1 p1 t1
      (Claim n (is_differential mode) x.schema x.ring) tt (claim_ending result) (IsOk result)
      (IsError result claim_error.Store) acts
      (claim_effects result acts.makes.done acts.makes.last (λ ok. (acts.makes.whole ok).0)
      acts.makes.cause)

  pub claim_refused : (T : Type 0) (e : ClaimError)
      → ActsAsClaim {T = T} a b (Claim n (is_differential mode) x.schema x.ring) (Err e) s0 s1 p0
      p1 t0 t1
      → AnswersClaim a n mode (Err e)
      → BacksUp a b n mode held (Err (error_of_claim e)) s0 s1 p0 p1 t0 t1
  claim_refused T e acts answer = record {
    events = event_of a.node (Claim n (is_differential mode) x.schema x.ring)
        (claim_ending {T = T} (Err e) acts.makes.last) acts.makes.done ∷ [];
    sections = sections_as a b _ (false ≡ true) (IsError {T = T} (Err e) claim_error.Store) _ _ s0 s1
        p0 p1 t0 t1 (λ ok. ok) (store_of T e) (one_claim {T = T} (Err e) acts);
    answer = go e acts answer;
  }
    where
      go : (e : ClaimError)
          → (acts : ActsAsClaim {T = T} a b (Claim n (is_differential mode) x.schema x.ring) (Err e)
          s0 s1 p0 p1 t0 t1) → AnswersClaim a n mode (Err e)
          → AnswersBackup a.layout a.node n (running_of a) (is_differential mode) held s0.content s1.content
          (event_of a.node (Claim n (is_differential mode) x.schema x.ring)
          (claim_ending {T = T} (Err e) acts.makes.last) acts.makes.done ∷ [])
          (Err (error_of_claim e))
      go (claim_error.Running name) acts answer = (
        answer.0,
        answer.1,
        (x, src, (_, record { node_is = refl; call_is = refl; ending_is = refl }, refl)),
      )
      go (claim_error.Taken path) acts answer =
          (x, src, (_, record { node_is = refl; call_is = refl; ending_is = refl }, refl))
      go claim_error.Store acts answer =
          inr (x, src, (_, [], refl, inl (refl, (λ e. cc e), refl, refl)))
      go claim_error.Memory acts answer =
          inr (x, src, (_, [], refl, inl (refl, (λ e. cc e), refl, refl)))

  -- ---- the claim was made

  module _ (claim : ClaimState) (claim_is : claim ≡ claimed a n mode)
      (acts : ActsAsClaim {T = ClaimState} a b (Claim n (is_differential mode) x.schema x.ring)
      (Ok claim) s0 s1 p0 p1 t0 t1) where
    abbrev event : Event
    event = event_of a.node (Claim n (is_differential mode) x.schema x.ring) Done acts.makes.done

    first : MakesSections a b (event ∷ []) (Unit {0}) ⊥ s0 s1 p0 p1 t0 t1
    first =
        sections_as a b (event ∷ []) (true ≡ true) ⊥ (Unit {0}) ⊥ s0 s1 p0 p1 t0 t1 (λ ok. refl)
        (λ never. never) (one_claim (Ok claim) acts)

    module _ (now : ShelfState) (s2 : State) (p2 : History) (t2 : Trace) where
      ends_here : (result : Result Finished CopyFault)
          → (behind : MakesBehind b now claim x.keys held result s1 s2 p1 p2 t1 t2)
          → EndsBehind a.layout a.node n (is_differential mode) held x.keys s1.content s2.content
          behind.events result
      ends_here result behind =
          subst
          (λ (y : List ℕ × List ℕ × List ℕ × Mode). EndsBehind y.0 y.1 y.2 (is_differential y.3) held
          x.keys s1.content s2.content behind.events result)
          (λ i. (
            acts.layout_is i,
            acts.node_is i,
            (claim_is i).name,
            (claim_is i).mode,
          )) behind.ends

      pub claimed_made : AreRising x.keys → (finished : Finished) (report : BackupReport)
          → IsReportOf a.node finished.name finished.records.items report
          → MakesBehind b now claim x.keys held (Ok finished) s1 s2 p1 p2 t1 t2
          → BacksUp a now n mode held (Ok report) s0 s2 p0 p2 t0 t2
      claimed_made rising finished report report_is behind =
          let ends = ends_here (Ok finished) behind in
          let all : MakesSections a now (event ∷ behind.events) (true ≡ true) ⊥ s0 s2 p0 p2 t0 t2 =
          in_row a b (event ∷ []) s0 s1 p0 p1 t0 t1 first now behind.events s2 p2 t2
          (true ≡ true) ⊥ behind.sections in
          let made : MakesSections a now (event ∷ behind.events) (Unit {0}) ⊥ s0 s2 p0 p2 t0 t2 =
          sections_as a now (event ∷ behind.events) (true ≡ true) ⊥ (Unit {0}) ⊥ s0 s2 p0 p2 t0 t2
          (λ ok. refl) (λ never. never) all in
          let (recorded, backup) =
          told_backup a.layout a.node n (is_differential mode) x (running_of a) event behind.events
          refl refl refl rising finished held s0.content s1.content s2.content src
          (content_on a b (event ∷ []) s0 s1 p0 p1 t0 t1 first)
          (content_on a now (event ∷ behind.events) s0 s2 p0 p2 t0 t2 made) all.run ends in
          record {
            events = event ∷ behind.events;
            sections = sections_as a now (event ∷ behind.events) _ _ (true ≡ true) ⊥ s0 s2 p0 p2 t0
                t2 (λ ok. ok) (λ never. never) all;
            answer = record {
              sources = x;
              sources_are = src;
              claim = event;
              claimed = record { node_is = refl; call_is = refl; ending_is = refl };
              rest = behind.events;
              events_are = refl;
              finished = finished;
              made = record {
                files = ends.files;
                whole = ends.whole;
                all = ends.all;
                looked = ends.looked;
                done = ends.done;
                name_is = ends.name_is;
                keys_are = ends.keys_are;
                prints_are = told_before a b (event ∷ []) s0 s1 p0 p1 t0 t1 first
                    (ArePrints held finished.records.items) ends.prints_are;
                records_are = recorded;
                looked_are = told_before a b (event ∷ []) s0 s1 p0 p1 t0 t1 first
                    (ends.looked ≡ files_of finished.records.items)
                    ends.looked_are;
                manifest_is = ends.manifest_is;
              };
              backup = backup;
              report_is = subst
                  (λ (name : List ℕ). IsReportOf a.node name finished.records.items report)
                  ends.name_is report_is;
            };
          }

      pub claimed_cut : (why : CopyFault)
          → MakesBehind b now claim x.keys held (Err why) s1 s2 p1 p2 t1 t2
          → BacksUp a now n mode held (Err (error.Fault why)) s0 s2 p0 p2 t0 t2
      claimed_cut why behind = record {
        events = event ∷ behind.events;
        sections = sections_as a now (event ∷ behind.events) _ _ (false ≡ true)
            (why ≡ fault.Store) s0 s2 p0 p2 t0 t2 (λ ok. ok) (λ is. is)
            (in_row a b (event ∷ []) s0 s1 p0 p1 t0 t1 first now behind.events s2 p2 t2
            (false ≡ true) (why ≡ fault.Store) behind.sections);
        answer = inr (
          x,
          src,
          (
            event,
            behind.events,
            refl,
            inr (
              record { node_is = refl; call_is = refl; ending_is = refl },
              ends_here (Err why) behind,
            ),
          ),
        );
      }

-- ---- the keys of the snapshot

pub keys_there : (f : List ℕ) (held : Option Snapshot) (x : Sources)
    → IfSome held (λ s. AreSourcesOf f s x)
    → IfSome held (λ s. AllByRecursion (λ (k : FileKey). HasKey k s) x.keys)
keys_there f None x src = tt
keys_there f (Some s) x src = all_have (Some s) x.keys src.keys_are

-- ---- refusals

-- what holds after every answer holds where the backup was refused
pub where_refused : (r : Result BackupReport BackupError) (P : Type 0) → P → WhereRefused r P
where_refused (Ok report) P h = tt
where_refused (Err (error.Fault why)) P h = tt
where_refused (Err e) P h = h

-- a name that is refused refuses the backup
pub claim_still : (e : ClaimError) (P : Type 0) → ClaimRefused {T = ClaimState} (Err e) P
    → WhereRefused (Err (error_of_claim e)) P
claim_still (claim_error.Running name) P h = h
claim_still (claim_error.Taken path) P h = h
claim_still claim_error.Store P h = tt
claim_still claim_error.Memory P h = tt
