-- Places in a row: one more, and one that was cut short.
use Rattle.std.proofs.Common.{◌≡◌, ◌∙◌, ◌++◌, ℕ, Bool, true, false, List, [], ◌∷◌, append_assoc, map, Option, Some, None, Ok, Err, IfSome, refl, sym, ap, subst}
use Rattle.std.specs.List.{AllByRecursion, Contains}
use Rattle.std.specs.declared.cmp.Ordering.TheVariants.{Less}
use Rattle.std.proofs.lemmas.List.{map-append}
use Rattle.std.proofs.lemmas.List.Elements.{All-contains, All-from_recursion}
use Rattle.med_base.specs.declared.key.FileKey.{FileKey}
use Rattle.med_base.specs.Content.{Content}
use Rattle.med_base.specs.Effects.{after_all, applied}
use Rattle.med_base.specs.Key.{AreRising, IsKey, key_cmp}
use Rattle.med_base.specs.Kinds.{IsBackupName, IsFqdn}
use Rattle.med_base.specs.Part.{node_part}
use Rattle.med_base.proofs.Lists.{all_push, all_split}
use Rattle.med_core.specs.declared.records.How.{How}
use Rattle.med_core.specs.declared.records.Record.{Record}
use Rattle.med_core.specs.Place.{placed_record}
use Rattle.med_core.specs.Run.{IsRun}
use Rattle.med_core.specs.Section.{Event, IsSection, Place}
use Rattle.med_index.specs.Modes.{is_differential}
use Rattle.med_outside.specs.declared.copy_fault.CopyFault.{CopyFault}
use Rattle.med_outside.specs.declared.copy_fault.CopyFault.TheVariants as fault
use Rattle.med_outside.specs.declared.mode.Mode.{Mode}
use Rattle.med_outside.specs.declared.trace.Trace.{Trace}
use Rattle.med_outside.specs.Makes.{is_unsure, took}
use Rattle.med_outside.specs.Sent.{IsPrintOf, IsWholeFile}
use Rattle.med_outside.specs.Snapshot.{HasKey, Snapshot}
use Rattle.med_outside.specs.State.{History, IsReady, State}
use Rattle.med_outside.proofs.Passing.{moves_at_rest, ready_on}
use Rattle.med_shelf.specs.Acts.{event_of}
use Rattle.med_shelf.specs.Endings.{copy_ending}
use Rattle.med_shelf.specs.Places.{IsToPlace, Places}
use Rattle.med_shelf.specs.Records.{keys_of}
use Rattle.med_shelf.specs.Shelf.{ClaimState, IsClaimOf, MayAct, ShelfState, running_of}
use Rattle.med_shelf.proofs.Callers.{stays_of}
use Rattle.med_backup.specs.Backups.{ArePrints, PlacedFile, places_of, records_over}
use Rattle.med_backup.specs.Placing.{PlacedAll, PlacedSome}
use Rattle.med_backup.specs.Sections.{AreDone, MakesSections, all_effects}
use Rattle.med_backup.proofs.KeyLemmas.{not_below}
use Rattle.med_backup.proofs.RecordSteps.{record_on}
use Rattle.med_backup.proofs.RowLemmas.{content_on, none_made, one_more}
use Rattle.med_backup.proofs.SectionLemmas.{copy_effects, done_on}

-- ---- keys

-- the keys before one are below it
below : (front : List FileKey) (key : FileKey) (rest : List FileKey)
    → AreRising (front ++ key ∷ rest)
    → AllByRecursion (λ (k : FileKey). key_cmp k key ≡ Less) front
below [] key rest rising = tt
below (k ∷ front) key rest rising = (
  (all_split (λ (j : FileKey). key_cmp k j ≡ Less) front (key ∷ rest) rising.0).1.0,
  below front key rest rising.1,
)

-- so it isn't among them
not_before : (front : List FileKey) (key : FileKey) (rest : List FileKey)
    → AreRising (front ++ key ∷ rest) → Contains front key → ⊥
not_before front key rest rising among =
    not_below key
    (All-contains (λ (k : FileKey). key_cmp k key ≡ Less) front key
    (All-from_recursion (λ (k : FileKey). key_cmp k key ≡ Less) front
    (below front key rest rising)) among)

-- the snapshot has the key at a place of the list
key_there : (held : Option Snapshot) (keys front : List FileKey) (key : FileKey)
    (rest : List FileKey) → keys ≡ front ++ key ∷ rest
    → IfSome held (λ s. AllByRecursion (λ (k : FileKey). HasKey k s) keys)
    → IfSome held (HasKey key)
key_there None keys front key rest is has = tt
key_there (Some s) keys front key rest is has =
    (all_split (λ (k : FileKey). HasKey k s) front (key ∷ rest)
    (subst (AllByRecursion (λ (k : FileKey). HasKey k s)) is has)).1.0

-- the keys before one rise
front_rising : (front : List FileKey) (key : FileKey) (rest : List FileKey)
    → AreRising (front ++ key ∷ rest) → AreRising front
front_rising [] key rest rising = tt
front_rising (k ∷ front) key rest rising = (
  (all_split (λ (j : FileKey). key_cmp k j ≡ Less) front (key ∷ rest) rising.0).0,
  front_rising front key rest rising.1,
)

-- ---- records

-- one more record over a content
more_records : (before f n : List ℕ) (d : Bool) (files : List PlacedFile) (key : FileKey)
    (bytes : List ℕ) (old now : List Record) (r : Record) (o : Option Content)
    → IfSome o (λ c. old ≡ records_over before f n d c files)
    → IfSome o (λ c. r ≡ placed_record before f n d key bytes c) → now ≡ old ++ r ∷ []
    → IfSome o (λ c. now ≡ records_over before f n d c (files ++ (key, bytes) ∷ []))
more_records before f n d files key bytes old now r None had one is = tt
more_records before f n d files key bytes old now r (Some c) had one is =
    is ∙ (λ i. had i ++ one i ∷ [])
    ∙ sym (map-append (λ (p : PlacedFile). placed_record before f n d p.0 p.1 c) files
    ((key, bytes) ∷ []))

-- ---- what is fine

-- the same sections, where the answer is told otherwise
pub sections_as : (a b : ShelfState) (es : List Event) (fine fault fine' fault' : Type 0)
    (s0 s1 : State) (p0 p1 : History) (t0 t1 : Trace) → (fine' → fine) → (fault → fault')
    → MakesSections a b es fine fault s0 s1 p0 p1 t0 t1
    → MakesSections a b es fine' fault' s0 s1 p0 p1 t0 t1
sections_as a b es fine fault fine' fault' s0 s1 p0 p1 t0 t1 back blames so = record {
  xs = so.xs;
  within = so.within;
  makes = record {
    done = so.makes.done;
    last = so.makes.last;
    rest = so.makes.rest;
    split = so.makes.split;
    moves = so.makes.moves;
    records = so.makes.records;
    whole = λ ok. so.makes.whole (back ok);
    cause = λ unsure. blames (so.makes.cause unsure);
  };
  effects_are = so.effects_are;
  run = so.run;
  layout_is = so.layout_is;
  node_is = so.node_is;
  running_is = so.running_is;
}

-- the storage is ready for a call behind calls that were fine
pub may_on : (a b : ShelfState) (es : List Event) (s0 s1 : State) (p0 p1 : History) (t0 t1 : Trace)
    → MakesSections a b es (Unit {0}) ⊥ s0 s1 p0 p1 t0 t1 → MayAct a s0 t0 → MayAct b s1 t1
may_on a b es s0 s1 p0 p1 t0 t1 so may = record {
  ready = subst (λ layout. IsReady layout s1) (sym so.layout_is)
      (ready_on a.layout (so.makes.done ++ took so.makes.last) s0 s1 p0 p1 so.makes.moves
      may.ready);
  sure = so.makes.records.unsure ∙ ap is_unsure (so.makes.whole tt).0;
}

-- ---- places in a row

module _ (a : ShelfState) (claim : ClaimState) (held : Option Snapshot) where
  -- none was made
  pub none_placed : (s : State) (p : History) (t : Trace) → t.unsure ≡ false → IsClaimOf a claim
      → claim.records ≡ [] → PlacedAll a a claim claim [] held s s p p t t
  none_placed s p t sure of none = record {
    events = [];
    files = [];
    whole = tt;
    all = refl;
    done = tt;
    sections = none_made a s s p p t t (Unit {0}) ⊥ refl sure (moves_at_rest s p);
    of = of;
    name_is = refl;
    mode_is = refl;
    keys_are = ap keys_of none;
    prints_are = subst (ArePrints held) (sym none) tt;
    records_are = none_recorded s.content;
  }
    where
      none_recorded : (o : Option Content) → IfSome o (λ c. claim.records
          ≡ records_over a.layout a.node claim.name (is_differential claim.mode) c [])
      none_recorded None = tt
      none_recorded (Some c) = none

  module _ (b : ShelfState) (k1 : ClaimState) (front : List FileKey) (s0 s1 : State)
      (p0 p1 : History) (t0 t1 : Trace)
      (so : PlacedAll a b claim k1 front held s0 s1 p0 p1 t0 t1) where
    -- the next file may be placed
    pub may_place : (keys : List FileKey) (key : FileKey) (rest : List FileKey)
        → keys ≡ front ++ key ∷ rest → AreRising keys
        → IfSome held (λ s. AllByRecursion (λ (k : FileKey). HasKey k s) keys)
        → IsToPlace key k1 held
    may_place keys key rest is rising has = record {
      fresh = λ among. not_before front key rest (subst AreRising is rising)
          (subst (λ (l : List FileKey). Contains l key) so.keys_are among);
      has = key_there held keys front key rest is has;
    }

    module _ (now : ShelfState) (k2 : ClaimState) (key : FileKey) (s2 : State) (p2 : History)
        (t2 : Trace) where
      -- the call, by the name and the mode of the claim before all
      call_so : (bytes : List ℕ) → Place k1.name (is_differential k1.mode) key bytes
          ≡ Place claim.name (is_differential claim.mode) key bytes
      call_so bytes = λ i. Place (so.name_is i) (is_differential (so.mode_is i)) key bytes

      -- the record of the file is that over the content before all places
      record_so : (bytes : List ℕ) (keys rest : List FileKey) → keys ≡ front ++ key ∷ rest
          → AreRising keys → (r : Record)
          → IfSome s1.content
          (λ c. r ≡ placed_record k1.layout k1.node k1.name (is_differential k1.mode) key bytes c)
          → (e : Event) → e.call ≡ Place k1.name (is_differential k1.mode) key bytes
          → e.node ≡ b.node
          → IfSome s1.content
          (λ c. IsSection b.layout (node_part b.layout b.node c) (running_of b) e)
          → IfSome s0.content
          (λ c. r ≡ placed_record a.layout a.node claim.name (is_differential claim.mode) key bytes
          c)
      record_so bytes keys rest is rising r so_now e call_is node_is section =
          go s0.content s1.content
          (content_on a b so.events s0 s1 p0 p1 t0 t1 so.sections) so.sections.run so_now section
        where
          below_key : AllByRecursion (λ (k : FileKey). key_cmp k key ≡ Less)
              (map (λ (p : PlacedFile). p.0) so.files)
          below_key =
              subst (AllByRecursion (λ (k : FileKey). key_cmp k key ≡ Less)) (sym so.all)
              (below front key rest (subst AreRising is rising))

          asked : (c : Content) (x : Event)
              → x ≡ record { node = b.node; call = Place k1.name (is_differential k1.mode) key bytes; changes = x.changes; ending = x.ending }
              → IsSection b.layout (node_part b.layout b.node c) (running_of b) x
              → IsFqdn b.node × IsBackupName k1.name × IsKey key
          asked c x same there =
              let there' = subst (λ (y : Event).
              IsSection b.layout (node_part b.layout b.node c) (running_of b) y) same there in
              (there'.node, there'.asked.0, there'.asked.2)

          names_are : k1.layout ≡ a.layout
          names_are = so.of.layout_is ∙ so.sections.layout_is

          nodes_are : k1.node ≡ a.node
          nodes_are = so.of.node_is ∙ so.sections.node_is

          go : (o o' : Option Content) → o' ≡ after_all (all_effects so.events) o
              → IfSome o (λ c. IsRun a.layout c (running_of a) so.events)
              → IfSome o' (λ c. r ≡ placed_record k1.layout k1.node k1.name
              (is_differential k1.mode) key bytes c)
              → IfSome o' (λ c. IsSection b.layout (node_part b.layout b.node c) (running_of b) e)
              → IfSome o (λ c. r ≡ placed_record a.layout a.node claim.name
              (is_differential claim.mode) key bytes c)
          go None o' told run here there = tt
          go (Some c) None told run here there =
              let bad : ◌≡◌ {A = Option Content} None (Some (applied (all_effects so.events) c)) =
              told in absurd (cc bad)
          go (Some c) (Some c') told run here there =
              let now_is : c' ≡ applied (all_effects so.events) c = cc told in
              let (node, name, is_key) =
              asked c' e
              (λ i. record {
                node = node_is i;
                call = call_is i;
                changes = e.changes;
                ending = e.ending;
              }) there in
              subst
              (λ (y : List ℕ × List ℕ × List ℕ × Mode). r ≡ placed_record y.0 y.1 y.2
              (is_differential y.3) key bytes c')
              (λ i. (names_are i, nodes_are i, so.name_is i, so.mode_is i)) here
              ∙ record_on a.layout a.node claim.name (is_differential claim.mode) so.files so.events c
              (running_of a) run so.done
              (subst AreRising (sym so.all) (front_rising front key rest (subst AreRising is rising)))
              c' now_is key bytes (subst IsFqdn so.sections.node_is node)
              (subst IsBackupName so.name_is name) is_key below_key

      pub place_on : (how : How) (keys rest : List FileKey) → keys ≡ front ++ key ∷ rest
          → AreRising keys → Places b now k1 k2 key held (Ok how) s1 s2 p1 p2 t1 t2
          → PlacedAll a now claim k2 (front ++ key ∷ []) held s0 s2 p0 p2 t0 t2
      place_on how keys rest is rising places =
          let (r, how_is, now_is, recorded) = places.records in
          let one : PlacedFile = (key, places.bytes) in
          let m = places.acts.makes in
          let call = Place k1.name (is_differential k1.mode) key places.bytes in
          let rs : k2.records ≡ k1.records ++ r ∷ [] =
          ap (λ (c : ClaimState). c.records) now_is in
          let P : Record → Type 0 = λ (q : Record). IsPrintOf held q.file.key q.file.fingerprint in
          record {
            events = so.events ++ event_of a.node call (copy_ending {T = How} (Ok how) m.last) m.done ∷ [];
            files = so.files ++ one ∷ [];
            whole = all_push (λ (x : PlacedFile). IsWholeFile held x.0 x.1) so.files one so.whole
                places.file_is;
            all = map-append (λ (x : PlacedFile). x.0) so.files (one ∷ [])
                ∙ ap (λ l. l ++ key ∷ []) so.all;
            done = subst (λ l. AreDone a.node l
                (so.events ++ event_of a.node call (copy_ending {T = How} (Ok how) m.last) m.done ∷ []))
                (sym (map-append
                (λ (x : PlacedFile). Place claim.name (is_differential claim.mode) x.0 x.1)
                so.files (one ∷ [])))
                (done_on a.node (places_of claim.name (is_differential claim.mode) so.files)
                (Place claim.name (is_differential claim.mode) key places.bytes ∷ []) so.events
                (event_of a.node call (copy_ending {T = How} (Ok how) m.last) m.done ∷ []) so.done
                (refl, call_so places.bytes, refl, tt));
            sections = sections_as a now _ (true ≡ true) ⊥ (Unit {0}) ⊥ s0 s2 p0 p2 t0 t2
                (λ ok. refl) (λ never. never)
                (one_more a b so.events s0 s1 p0 p1 t0 t1 so.sections now s2 p2 t2 call tt
                (copy_ending {T = How} (Ok how)) (true ≡ true) ⊥ places.acts
                (copy_effects {T = How} (Ok how) m.done m.last (λ ok. (m.whole ok).0) m.cause));
            of = stays_of b now k1 k2 key held (Ok how) s1 s2 p1 p2 t1 t2 places so.of;
            name_is = ap (λ (c : ClaimState). c.name) now_is ∙ so.name_is;
            mode_is = ap (λ (c : ClaimState). c.mode) now_is ∙ so.mode_is;
            keys_are =
                ap keys_of rs ∙ map-append (λ (q : Record). q.file.key) k1.records (r ∷ [])
                ∙ (λ i. so.keys_are i ++ recorded.key_is i ∷ []);
            prints_are = subst (AllByRecursion P) (sym rs)
                (all_push P k1.records r so.prints_are
                (record {
                  bytes = places.bytes;
                  file_is = subst (λ (k : FileKey). IsWholeFile held k places.bytes)
                      (sym recorded.key_is) places.file_is;
                  print_is = recorded.print_is;
                }));
            records_are = more_records a.layout a.node claim.name (is_differential claim.mode)
                so.files key places.bytes k1.records k2.records r s0.content so.records_are
                (record_so places.bytes keys rest is rising r recorded.record_is
                (event_of b.node call (copy_ending {T = How} (Ok how) m.last) m.done) refl refl
                places.acts.section) rs;
          }

      pub place_cut : (why : CopyFault) (keys rest : List FileKey) → keys ≡ front ++ key ∷ rest
          → Places b now k1 k2 key held (Err why) s1 s2 p1 p2 t1 t2
          → PlacedSome a now claim k2 keys held why s0 s2 p0 p2 t0 t2
      place_cut why keys rest is places =
          let one : PlacedFile = (key, places.bytes) in
          let m = places.acts.makes in
          let call = Place k1.name (is_differential k1.mode) key places.bytes in
          record {
            files = so.files;
            next = one;
            rest = rest;
            whole = all_push (λ (x : PlacedFile). IsWholeFile held x.0 x.1) so.files one so.whole
                places.file_is;
            keys_are =
                ap (λ l. l ++ rest) (map-append (λ (x : PlacedFile). x.0) so.files (one ∷ [])
                ∙ ap (λ l. l ++ key ∷ []) so.all)
                ∙ append_assoc front (key ∷ []) rest ∙ sym is;
            front = so.events;
            done = so.done;
            cut = event_of a.node call (copy_ending {T = How} (Err why) m.last) m.done;
            node_is = refl;
            call_is = call_so places.bytes;
            sections = sections_as a now _ (false ≡ true) (why ≡ fault.Store) ⊥
                (why ≡ fault.Store) s0 s2 p0 p2 t0 t2 (λ never. absurd never) (λ is. is)
                (one_more a b so.events s0 s1 p0 p1 t0 t1 so.sections now s2 p2 t2 call tt
                (copy_ending {T = How} (Err why)) (false ≡ true) (why ≡ fault.Store) places.acts
                (copy_effects {T = How} (Err why) m.done m.last (λ ok. (m.whole ok).0) m.cause));
            of = stays_of b now k1 k2 key held (Err why) s1 s2 p1 p2 t1 t2 places so.of;
            name_is = ap (λ (c : ClaimState). c.name) places.records ∙ so.name_is;
          }
