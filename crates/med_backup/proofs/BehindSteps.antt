-- The calls of a backup behind its claim, and the claim before them.
use Rattle.std.proofs.Common.{◌≡◌, ◌∙◌, ◌++◌, ℕ, Bool, true, false, List, [], ◌∷◌, append_assoc, Option, Some, None, Result, Ok, Err, IsOk, IfSome, inl, inr, refl, sym, ap, subst}
use Rattle.std.specs.List.{AllByRecursion, Contains}
use Rattle.med_base.specs.declared.key.FileKey.{FileKey}
use Rattle.med_base.specs.Content.{Content}
use Rattle.med_base.specs.Effects.{Effect, after_all, applied}
use Rattle.med_base.specs.Key.{AreRising, IsKey}
use Rattle.med_base.specs.Kinds.{IsBackupName, IsFqdn}
use Rattle.med_core.specs.declared.records.Record.{Record}
use Rattle.med_core.specs.Finish.{Fresh, rechecked}
use Rattle.med_core.specs.Run.{IsRun, running_after}
use Rattle.med_core.specs.Section.{Abandon, Done, Event, Finish}
use Rattle.med_index.specs.Modes.{is_differential}
use Rattle.med_outside.specs.declared.copy_fault.CopyFault.{CopyFault}
use Rattle.med_outside.specs.declared.copy_fault.CopyFault.TheVariants as fault
use Rattle.med_outside.specs.declared.mode.Mode.{Mode}
use Rattle.med_outside.specs.declared.trace.Trace.{Trace}
use Rattle.med_outside.specs.Makes.{IsError}
use Rattle.med_outside.specs.Sent.{IsPrintOf, IsWholeFile}
use Rattle.med_outside.specs.Snapshot.{HasKey, Snapshot}
use Rattle.med_outside.specs.State.{History, State}
use Rattle.med_shelf.specs.declared.finished.Finished.{Finished}
use Rattle.med_shelf.specs.Acts.{event_of}
use Rattle.med_shelf.specs.Endings.{copy_ending}
use Rattle.med_shelf.specs.Finishes.{Finishes, HasManifestOf}
use Rattle.med_shelf.specs.Records.{AreSorted, files_of, keys_of}
use Rattle.med_shelf.specs.Shelf.{ClaimState, ShelfState, running_of}
use Rattle.med_shelf.proofs.Acting.{runs_there}
use Rattle.med_shelf.proofs.CheckSteps.{whole_in}
use Rattle.med_shelf.proofs.FinishSteps.{all_moved}
use Rattle.med_backup.specs.Backups.{ArePrints, PutsManifest, places_of, records_over}
use Rattle.med_backup.specs.Placing.{EndsBehind, MakesBehind, PlacedAll, PlacedSome}
use Rattle.med_backup.specs.Sections.{all_effects}
use Rattle.med_backup.proofs.CutSteps.{cut_unfinished}
use Rattle.med_backup.proofs.KeyLemmas.{same_moved}
use Rattle.med_backup.proofs.PlaceSteps.{sections_as}
use Rattle.med_backup.proofs.PrintLemmas.{prints_behind}
use Rattle.med_backup.proofs.RecordSteps.{records_ended}
use Rattle.med_backup.proofs.RowLemmas.{content_on, given_up, one_more, told_before}
use Rattle.med_backup.proofs.SectionLemmas.{copy_effects, done_on}

-- ---- keys of records

-- the snapshot has the keys of the records
has_records : (s : Snapshot) (rs : List Record)
    → AllByRecursion (λ (k : FileKey). HasKey k s) (keys_of rs)
    → AllByRecursion (λ (r : Record). HasKey r.file.key s) rs
has_records s [] has = tt
has_records s (r ∷ rs) has = (has.0, has_records s rs has.1)

pub told_records : (held : Option Snapshot) (rs : List Record) (keys : List FileKey)
    → keys_of rs ≡ keys → IfSome held (λ s. AllByRecursion (λ (k : FileKey). HasKey k s) keys)
    → IfSome held (λ s. AllByRecursion (λ (r : Record). HasKey r.file.key s) rs)
told_records None rs keys is has = tt
told_records (Some s) rs keys is has =
    has_records s rs (subst (AllByRecursion (λ (k : FileKey). HasKey k s)) (sym is) has)

-- ---- a place that was cut short

module _ (a b now : ShelfState) (claim k : ClaimState) (keys : List FileKey)
    (held : Option Snapshot) (s0 s1 : State) (p0 p1 : History) (t0 t1 : Trace)
    (node : IsFqdn a.node) (name : IsBackupName claim.name) where
  pub behind_cut : (why : CopyFault)
      → PlacedSome a b claim k keys held why s0 s1 p0 p1 t0 t1 → now.layout ≡ b.layout
      → now.node ≡ b.node
      → running_of now ≡ running_after (running_of b) b.node (Abandon k.name) Done
      → MakesBehind a now claim keys held (Err why) s0 s1 p0 p1 t0 t1
  behind_cut why so layout_is node_is running_is =
      let runs : Contains {X = List ℕ × List ℕ} (running_of b) (a.node, claim.name) =
      subst (λ (x : List ℕ × List ℕ). Contains (running_of b) x)
      (λ i. (so.sections.node_is i, so.name_is i)) (runs_there b.node k.name b.running so.of.runs) in
      let row : List Event = so.front ++ so.cut ∷ [] in
      let end : Event = event_of a.node (Abandon claim.name) Done [] in
      record {
        events = row ++ end ∷ [];
        sections = sections_as a now (row ++ end ∷ []) ⊥ (why ≡ fault.Store) (false ≡ true)
            (why ≡ fault.Store) s0 s1 p0 p1 t0 t1 (λ ok. absurd (cc ok)) (λ is. is)
            (given_up a b row s0 s1 p0 p1 t0 t1 ⊥ (why ≡ fault.Store) so.sections now claim.name
            node name runs layout_is node_is
            (running_is
            ∙ (λ i. running_after (running_of b) b.node (Abandon (so.name_is i)) Done)));
        ends = inl (record {
          files = so.files;
          next = so.next;
          rest = so.rest;
          whole = so.whole;
          keys_are = so.keys_are;
          front = so.front;
          done = so.done;
          cut = so.cut;
          node_is = so.node_is;
          call_is = so.call_is;
          events_are = append_assoc so.front (so.cut ∷ []) (end ∷ []);
        });
      }

-- ---- a finish

-- what is told of the fingerprints of the records behind a look
told_prints : (before f n : List ℕ) (d : Bool) (held : Option Snapshot) (fresh : Fresh)
    (sorted rs : List Record) → ArePrints held sorted
    → AllByRecursion (λ (r : Record). IsWholeFile held r.file.key (fresh.bytes r.file.key)) sorted
    → (told : Option Content) → IfSome told (λ c. rs ≡ rechecked before f n d fresh c sorted)
    → IfSome told (λ c. ArePrints held rs)
told_prints before f n d held fresh sorted rs prints whole None is = tt
told_prints before f n d held fresh sorted rs prints whole (Some c) is =
    subst (ArePrints held) (sym is) (prints_behind before f n d held fresh sorted prints whole c)

module _ (a b now : ShelfState) (claim k : ClaimState) (keys : List FileKey)
    (held : Option Snapshot) (s0 s1 s2 : State) (p0 p1 p2 : History) (t0 t1 t2 : Trace)
    (node : IsFqdn a.node) (name : IsBackupName claim.name) (rising : AreRising keys)
    (names : AllByRecursion IsKey keys)
    (so : PlacedAll a b claim k keys held s0 s1 p0 p1 t0 t1) where
  pub behind_finish : (result : Result Finished CopyFault)
      → Finishes b now k held result s1 s2 p1 p2 t1 t2
      → MakesBehind a now claim keys held result s0 s2 p0 p2 t0 t2
  behind_finish result fin =
      let m = fin.acts.makes in
      let looked = files_of fin.sorted in
      let call = Finish k.name (is_differential k.mode) looked in
      let event : Event = event_of a.node call (copy_ending result m.last) m.done in
      record {
        events = so.events ++ event ∷ [];
        sections = one_more a b so.events s0 s1 p0 p1 t0 t1 so.sections now s2 p2 t2 call tt
            (copy_ending result) (IsOk result) (IsError result fault.Store) fin.acts
            (copy_effects result m.done m.last (λ ok. (m.whole ok).0) m.cause);
        ends = go result fin;
      }
    where
      layout_so : k.layout ≡ a.layout
      layout_so = so.of.layout_is ∙ so.sections.layout_is

      node_so : k.node ≡ a.node
      node_so = so.of.node_is ∙ so.sections.node_is

      d : Bool
      d = is_differential claim.mode

      sorted_same : (sorted : List Record) → AreSorted k.records sorted → k.records ≡ sorted
      sorted_same sorted is =
          same_moved (λ (r : Record). r.file.key) k.records sorted is.same
          (subst AreRising (sym so.keys_are) rising) is.rising

      told_looked : (sorted rs : List Record) → k.records ≡ sorted → (o : Option Content)
          → IfSome o (λ c. k.records ≡ records_over a.layout a.node claim.name d c so.files)
          → IfSome o (λ c. rs ≡ records_over a.layout a.node claim.name d c so.files)
          → IfSome o (λ c. files_of sorted ≡ files_of rs)
      told_looked sorted rs same None had recorded = tt
      told_looked sorted rs same (Some c) had recorded =
          ap files_of (sym same ∙ had ∙ sym recorded)

      records_so : (fresh : Fresh) (sorted rs : List Record) → k.records ≡ sorted
          → IfSome s1.content
          (λ c. rs ≡ rechecked k.layout k.node k.name (is_differential k.mode) fresh c sorted)
          → IfSome s0.content
          (λ c. rs ≡ records_over a.layout a.node claim.name d c so.files)
      records_so fresh sorted rs same looked =
          over s0.content s1.content (content_on a b so.events s0 s1 p0 p1 t0 t1 so.sections)
          so.sections.run so.records_are looked
        where
          over : (o o' : Option Content) → o' ≡ after_all (all_effects so.events) o
              → IfSome o (λ c. IsRun a.layout c (running_of a) so.events)
              → IfSome o (λ c. k.records ≡ records_over a.layout a.node claim.name d c so.files)
              → IfSome o' (λ c. rs ≡ rechecked k.layout k.node k.name (is_differential k.mode)
              fresh c sorted)
              → IfSome o (λ c. rs ≡ records_over a.layout a.node claim.name d c so.files)
          over None o' told run had look = tt
          over (Some c) None told run had look =
              let bad : ◌≡◌ {A = Option Content} None (Some (applied (all_effects so.events) c)) =
              told in absurd (cc bad)
          over (Some c) (Some c') told run had look =
              records_ended a.layout a.node claim.name d so.files so.events c (running_of a) run
              so.done (subst AreRising (sym so.all) rising) c' (cc told) fresh sorted rs
              (sym same ∙ had)
              (subst
              (λ (y : List ℕ × List ℕ × List ℕ × Mode). rs ≡ rechecked y.0 y.1 y.2
              (is_differential y.3) fresh c' sorted)
              (λ i. (layout_so i, node_so i, so.name_is i, so.mode_is i)) look)

      call_so : (looked : List Record) → Finish k.name (is_differential k.mode) (files_of looked)
          ≡ Finish claim.name (is_differential claim.mode) (files_of looked)
      call_so looked =
          λ i. Finish (so.name_is i) (is_differential (so.mode_is i)) (files_of looked)

      -- what the finish names is that of the claim before all
      puts_so : (xs : List Effect)
          → AllByRecursion (λ (x : Effect). PutsManifest k.layout k.node k.name x → ⊥) xs
          → AllByRecursion (λ (x : Effect). PutsManifest a.layout a.node claim.name x → ⊥) xs
      puts_so xs all =
          subst
          (λ (y : List ℕ × List ℕ × List ℕ). AllByRecursion
          (λ (x : Effect). PutsManifest y.0 y.1 y.2 x → ⊥) xs)
          (λ i. (layout_so i, node_so i, so.name_is i)) all

      sorted_keys : (sorted : List Record) → k.records ≡ sorted
          → AllByRecursion IsKey (keys_of sorted)
      sorted_keys sorted same =
          subst (AllByRecursion IsKey) (sym so.keys_are ∙ ap keys_of same) names

      go : (result : Result Finished CopyFault)
          → (fin : Finishes b now k held result s1 s2 p1 p2 t1 t2)
          → EndsBehind a.layout a.node claim.name (is_differential claim.mode) held keys s0.content
          s2.content
          (so.events ++ event_of a.node
          (Finish k.name (is_differential k.mode) (files_of fin.sorted))
          (copy_ending result fin.acts.makes.last) fin.acts.makes.done ∷ []) result
      go (Err why) fin = inr (record {
        files = so.files;
        whole = so.whole;
        all = so.all;
        front = so.events;
        done = so.done;
        looked = files_of fin.sorted;
        cut = event_of a.node (Finish k.name (is_differential k.mode) (files_of fin.sorted))
            (copy_ending {T = Finished} (Err why) fin.acts.makes.last) fin.acts.makes.done;
        node_is = refl;
        call_is = call_so fin.sorted;
        no_manifest = λ is. puts_so _ (cut_unfinished b now k held s1 s2 p1 p2 t1 t2 why fin
            (subst IsFqdn (sym node_so) node) (subst IsBackupName (sym so.name_is) name)
            (sorted_keys fin.sorted (sorted_same fin.sorted fin.sorted_is)) is);
        events_are = refl;
      })
      go (Ok finished) fin =
          let (name_is, ended) = fin.ends in
          let same = sorted_same fin.sorted fin.sorted_is in
          let recorded = records_so fin.fresh fin.sorted finished.records.items same
          ended.records_are.records_are in
          let P : Record → Type 0 = λ (q : Record). IsPrintOf held q.file.key q.file.fingerprint in
          record {
            files = so.files;
            whole = so.whole;
            all = so.all;
            looked = files_of fin.sorted;
            done = done_on a.node (places_of claim.name (is_differential claim.mode) so.files)
                (Finish claim.name (is_differential claim.mode) (files_of fin.sorted) ∷ [])
                so.events
                (event_of a.node (Finish k.name (is_differential k.mode) (files_of fin.sorted))
                (copy_ending {T = Finished} (Ok finished) fin.acts.makes.last)
                fin.acts.makes.done ∷ []) so.done (refl, call_so fin.sorted, refl, tt);
            name_is = name_is ∙ so.name_is;
            keys_are =
                ended.records_are.keys_are ∙ sym (ap keys_of same) ∙ so.keys_are;
            prints_are = told_before a b so.events s0 s1 p0 p1 t0 t1 so.sections
                (ArePrints held finished.records.items)
                (told_prints k.layout k.node k.name (is_differential k.mode) held fin.fresh
                fin.sorted finished.records.items
                (all_moved P k.records fin.sorted fin.sorted_is.same so.prints_are)
                (whole_in held fin.sorted fin.fresh fin.fresh_is) s1.content
                ended.records_are.records_are);
            records_are = recorded;
            looked_are = told_looked fin.sorted finished.records.items same s0.content
                so.records_are recorded;
            manifest_is =
                subst (λ (n : List ℕ). HasManifestOf a.layout a.node n s2.content finished)
                so.name_is
                (subst (λ (f : List ℕ). HasManifestOf a.layout f k.name s2.content finished)
                node_so
                (subst (λ (l : List ℕ). HasManifestOf l k.node k.name s2.content finished)
                layout_so fin.manifest_is));
          }
