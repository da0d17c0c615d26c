-- A call of a shelf as a section of its node, and the records of a claim.
use Rattle.std.proofs.Common.{◌≡◌, ◌∙◌, ℕ, Bool, true, false, List, [], ◌∷◌, ◌++◌, map, append-nil, Option, Some, None, Result, Ok, Err, IsOk, IfSome, inl, inr, refl, sym, ap, subst}
use Rattle.std.specs.Cmp.{eq_by_cmp_equiv}
use Rattle.std.specs.List.{AllByRecursion, Contains, IsDistinct, list_any}
use Rattle.std.proofs.lemmas.List.{map-append}
use Rattle.std.proofs.lemmas.Map.Keys.{IsDistinct-push}
use Rattle.std.proofs.lemmas.Map.Views.{Contains-from_any}
use Rattle.med_base.specs.declared.key.FileKey.{FileKey}
use Rattle.med_base.specs.Classify.{kind_of}
use Rattle.med_base.specs.Content.{Content}
use Rattle.med_base.specs.Effects.{Effect, Stores, Removes}
use Rattle.med_base.specs.Key.{IsKey, key_eq}
use Rattle.med_base.specs.KeyOrder.{key_total}
use Rattle.med_base.specs.Kinds.{IsBackupName, IsFqdn, Own, Shared}
use Rattle.med_base.specs.Part.{node_part}
use Rattle.med_base.proofs.Lists.{all_push, all_with, contains_map}
use Rattle.med_core.specs.declared.records.How.{How}
use Rattle.med_core.specs.declared.records.Record.{Record}
use Rattle.med_core.specs.Place.{placing}
use Rattle.med_core.specs.Reach.{MayChange, MayStore}
use Rattle.med_core.specs.Run.{running_after}
use Rattle.med_core.specs.Section.{BeginsList, Call, EndsSo, IsBegunList, IsLeft, IsListOf, IsSection, Place, Running}
use Rattle.med_core.proofs.OverParts.{section_in_part}
use Rattle.med_index.specs.Modes.{is_differential}
use Rattle.med_manifest.specs.Manifest.{IsPathOf}
use Rattle.med_manifest.proofs.ByKind.{path_has}
use Rattle.med_manifest.proofs.RecordLemmas.{same_key}
use Rattle.med_outside.specs.declared.copy_fault.CopyFault.{CopyFault}
use Rattle.med_outside.specs.declared.copy_fault.CopyFault.TheVariants as fault
use Rattle.med_outside.specs.declared.trace.Trace.{Trace}
use Rattle.med_outside.specs.Makes.{IsError, Last, Sure, Unsure, tried}
use Rattle.med_outside.specs.Snapshot.{Snapshot}
use Rattle.med_outside.specs.State.{State, History}
use Rattle.med_shelf.specs.Acts.{ActsAsCopy, event_of}
use Rattle.med_shelf.specs.Endings.{copy_ending}
use Rattle.med_shelf.specs.Places.{IsFilePut, Places, PlacesFile, with_record}
use Rattle.med_shelf.specs.Records.{AreRecordsOf, keys_of}
use Rattle.med_shelf.specs.Shelf.{ClaimState, IsClaimOf, ShelfState, running_of}

-- ---- sections

-- any part of the list of the call may be left
module _ (before : List ℕ) (c : Content) (running : Running) (f : List ℕ) (call : Call)
    (left : (rest : List Effect) → IsLeft call rest) where
  begun : (done rest : List Effect) → IsBegunList before c running f call (done ++ rest)
      → BeginsList before c running f call done
  begun done rest is = inr (rest, left rest, is)

  -- what a copy made of the list, by its answer
  pub copy_ends : {T : Type 0} (result : Result T CopyFault) (done rest : List Effect) (last : Last)
      → (IsOk result → (last ≡ Sure) × (rest ≡ []))
      → (IsOk result → IsListOf before c running f call (done ++ (tried last ++ rest)))
      → IsBegunList before c running f call (done ++ (tried last ++ rest))
      → EndsSo before c running f call (copy_ending result last) done
  copy_ends (Ok x) done rest last whole list is =
      let ended = whole refl in
      subst (IsListOf before c running f call)
      (ap (λ l. done ++ (tried l ++ rest)) ended.0 ∙ ap (λ l. done ++ l) ended.1
      ∙ append-nil done) (list refl)
  copy_ends (Err fault.Snap) done rest last whole list is = begun done (tried last ++ rest) is
  copy_ends (Err fault.Memory) done rest last whole list is = begun done (tried last ++ rest) is
  copy_ends (Err fault.Store) done rest Sure whole list is = begun done rest is
  copy_ends (Err fault.Store) done rest (Unsure x took) whole list is = (rest, is)

-- the running names stay after a place
pub place_runs : {T : Type 0} (running : Running) (f n : List ℕ) (d : Bool) (key : FileKey)
    (bytes : List ℕ) (result : Result T CopyFault) (last : Last)
    → running_after running f (Place n d key bytes) (copy_ending result last) ≡ running
place_runs running f n d key bytes (Ok x) last = refl
place_runs running f n d key bytes (Err fault.Snap) last = refl
place_runs running f n d key bytes (Err fault.Memory) last = refl
place_runs running f n d key bytes (Err fault.Store) Sure = refl
place_runs running f n d key bytes (Err fault.Store) (Unsure x took) = refl

pub runs_there : (f n : List ℕ) (running : List (List ℕ)) → Contains running n
    → Contains {X = List ℕ × List ℕ} (map (λ m. (f, m)) running) (f, n)
runs_there f n running (i, less, is) =
    let pair : List ℕ → List ℕ × List ℕ = λ m. (f, m) in contains_map pair running i n less (sym is)

module _ (before f n : List ℕ) (d : Bool) (key : FileKey) (node : IsFqdn f) (name : IsBackupName n)
    (valid : IsKey key) where
  -- any call may make the put of a file
  pub put_within : (call : Call) (bytes : List ℕ) (x : Effect) → IsFilePut before f n key bytes x
      → MayChange before f call x
  put_within call bytes (Stores path stored second) (inl is, same) =
      subst (MayStore f)
      (sym (ap (kind_of before) is ∙ path_has before (Shared f key) tt (node, valid))) refl
  put_within call bytes (Stores path stored second) (inr is, same) =
      subst (MayStore f)
      (sym (ap (kind_of before) is ∙ path_has before (Own f n key) tt (node, name, valid))) refl
  put_within call bytes (Removes path) never = absurd never

  module _ (running : List (List ℕ)) (runs : Contains running n) where
    abbrev here : ShelfState
    here = record { layout = before; node = f; running = running }

    place_section : {T : Type 0} (said : Result T CopyFault) (bytes : List ℕ) (second : ℕ)
        (xs done rest : List Effect) (last : Last) → xs ≡ done ++ (tried last ++ rest)
        → (IsOk said → (last ≡ Sure) × (rest ≡ [])) → (told : Option Content)
        → IfSome told (λ c. xs ≡ (placing before f n d key bytes second c).changes)
        → IfSome told
        (λ c. IsSection before (node_part before f c) (running_of here)
        (event_of f (Place n d key bytes) (copy_ending said last) done))
    place_section said bytes second xs done rest last split whole None is = tt
    place_section said bytes second xs done rest last split whole (Some c) is =
        section_in_part before c (running_of here)
        (event_of f (Place n d key bytes) (copy_ending said last) done)
        (record {
          node = node;
          asked = (name, runs_there f n running runs, valid);
          ends = copy_ends before c (running_of here) f (Place n d key bytes) (λ left. tt) said
              done rest last whole (λ fine. (second, sym split ∙ is))
              (inl (second, sym split ∙ is));
        })

    place_acts : {T : Type 0} (held : Option Snapshot) (s0 s1 : State) (p0 p1 : History)
        (t0 t1 : Trace) (result : Result Record CopyFault) (said : Result T CopyFault)
        → (IsOk said → IsOk result) → (IsError result fault.Store → IsError said fault.Store)
        → (placed : PlacesFile before f n d key held result s0 s1 p0 p1 t0 t1)
        → ActsAsCopy here here (Place n d key placed.bytes) said s0 s1 p0 p1 t0 t1
    place_acts held s0 s1 p0 p1 t0 t1 result said back blames placed =
        let m = placed.makes in
        record {
          xs = placed.xs;
          within = all_with (IsFilePut before f n key placed.bytes)
              (MayChange before f (Place n d key placed.bytes))
              (put_within (Place n d key placed.bytes) placed.bytes)
              placed.xs placed.puts;
          makes = record {
            done = m.done;
            last = m.last;
            rest = m.rest;
            split = m.split;
            moves = m.moves;
            records = m.records;
            whole = λ fine. m.whole (back fine);
            cause = λ unsure. blames (m.cause unsure);
          };
          section = place_section said placed.bytes placed.second placed.xs m.done m.rest m.last
              m.split (λ fine. m.whole (back fine)) s0.content placed.list;
          layout_is = refl;
          node_is = refl;
          running_is = sym (place_runs (running_of here) f n d key placed.bytes said m.last);
        }

-- ---- a place of a shelf

module _ (shelf : ShelfState) (claim : ClaimState) (key : FileKey) (held : Option Snapshot)
    (s0 s1 : State) (p0 p1 : History) (t0 t1 : Trace) (node : IsFqdn claim.node)
    (name : IsBackupName claim.name) (valid : IsKey key) (of : IsClaimOf shelf claim) where
  acts_there : {T : Type 0} (result : Result Record CopyFault) (said : Result T CopyFault)
      → (IsOk said → IsOk result) → (IsError result fault.Store → IsError said fault.Store)
      → (placed : PlacesFile claim.layout claim.node claim.name (is_differential claim.mode) key
      held result s0 s1 p0 p1 t0 t1)
      → ActsAsCopy shelf shelf
      (Place claim.name (is_differential claim.mode) key placed.bytes) said s0 s1 p0 p1 t0 t1
  acts_there result said back blames placed =
      let same : record { layout = claim.layout; node = claim.node; running = shelf.running }
      ≡ shelf =
      λ i. record { layout = of.layout_is i; node = of.node_is i; running = shelf.running } in
      subst (λ (there : ShelfState). ActsAsCopy there there
      (Place claim.name (is_differential claim.mode) key placed.bytes) said s0 s1 p0 p1 t0 t1) same
      (place_acts claim.layout claim.node claim.name (is_differential claim.mode) key node name
      valid shelf.running of.runs held s0 s1 p0 p1 t0 t1 result said back blames placed)

  -- the file was placed, and recorded
  pub placed_recorded : (r : Record) (claim_now : ClaimState) → claim_now ≡ with_record r claim
      → PlacesFile claim.layout claim.node claim.name (is_differential claim.mode) key held (Ok r)
      s0 s1 p0 p1 t0 t1
      → Places shelf shelf claim claim_now key held (Ok r.how) s0 s1 p0 p1 t0 t1
  placed_recorded r claim_now now_is placed = record {
    bytes = placed.bytes;
    file_is = placed.file_is;
    acts = acts_there (Ok r) (Ok r.how) (λ fine. refl) (λ never. never) placed;
    records = (r, refl, now_is, placed.record_is);
  }

  -- it wasn't
  pub placed_not : (answer : CopyFault) (claim_now : ClaimState) → claim_now ≡ claim
      → PlacesFile claim.layout claim.node claim.name (is_differential claim.mode) key held
      (Err answer) s0 s1 p0 p1 t0 t1
      → Places shelf shelf claim claim_now key held (Err answer) s0 s1 p0 p1 t0 t1
  placed_not answer claim_now now_is placed = record {
    bytes = placed.bytes;
    file_is = placed.file_is;
    acts = acts_there {T = How} (Err answer) (Err answer) (λ fine. fine) (λ is. is) placed;
    records = now_is;
  }

-- ---- the records of a claim

not_among : (key : FileKey) (keys : List FileKey) → (Contains keys key → ⊥)
    → list_any (key_eq key) keys ≡ false
not_among key keys fresh = go (list_any (key_eq key) keys) refl
  where
    go : (b : Bool) → list_any (key_eq key) keys ≡ b → b ≡ false
    go true is = absurd (fresh (Contains-from_any same_key key keys is))
    go false is = refl

-- one more record
pub records_on : (before f n : List ℕ) (rs now : List Record) (r : Record) (key : FileKey)
    → AreRecordsOf before f n rs → (Contains (keys_of rs) key → ⊥) → r.file.key ≡ key → IsKey key
    → IsPathOf before f n key r.file.path → now ≡ rs ++ r ∷ [] → AreRecordsOf before f n now
records_on before f n rs now r key are fresh key_is valid path_is now_is = record {
  once = subst (IsDistinct key_eq)
      (sym (ap keys_of now_is ∙ map-append (λ (q : Record). q.file.key) rs (r ∷ [])))
      (IsDistinct-push (eq_by_cmp_equiv key_total) (keys_of rs) r.file.key are.once
      (subst (λ (k : FileKey). list_any (key_eq k) (keys_of rs) ≡ false) (sym key_is)
      (not_among key (keys_of rs) fresh)));
  each =
      let P : Record → Type 0 =
      λ (q : Record). IsKey q.file.key × IsPathOf before f n q.file.key q.file.path in
      subst (AllByRecursion P) (sym now_is)
      (all_push P rs r are.each
      (subst (λ (k : FileKey). IsKey k × IsPathOf before f n k r.file.path) (sym key_is)
      (valid, path_is)));
}
