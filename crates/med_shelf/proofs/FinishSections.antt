-- A finish as a section of its node: how it ends by its answer, told or not.
use Rattle.std.proofs.Common.{◌≡◌, ◌≢◌, ◌∙◌, ◌<◌, ◌^◌, inl, inr, ℕ, Bool, true, false, List, [], ◌∷◌, ◌++◌, append-nil, Option, Some, None, Result, Ok, Err, IsOk, IfOk, IfSome, Contains, refl, sym, ap, subst}
use Rattle.std.specs.FinMap.{get}
use Rattle.std.specs.List.{AllByRecursion}
use Rattle.std.proofs.lemmas.List.Elements.{All-contains, All-from_recursion}
use Rattle.med_base.specs.declared.kinds.IndexKind.TheVariants as index_kind
use Rattle.med_base.specs.declared.layout.MetaKind.TheVariants.{Manifest}
use Rattle.med_base.specs.Classify.{kind_of}
use Rattle.med_base.specs.Content.{Content}
use Rattle.med_base.specs.Effects.{Effect, Removes, Stores, after_all, applied}
use Rattle.med_base.specs.Key.{AreRising, IsKey}
use Rattle.med_base.specs.Kinds.{Entry, IsBackupName, IsFqdn, Kind, Latest, Meta, Other, Own, Shared, Stray}
use Rattle.med_base.specs.Layout.{meta_path}
use Rattle.med_base.specs.Part.{node_part}
use Rattle.med_base.proofs.Lists.{all_append, all_with}
use Rattle.med_core.specs.declared.records.Record.{Record}
use Rattle.med_core.specs.Finish.{Fresh, checked, manifest_puts}
use Rattle.med_core.specs.Reach.{AreWithin, MayChange, MayRemove, MayStore}
use Rattle.med_core.specs.Run.{running_after, without}
use Rattle.med_core.specs.Section.{Call, Finish, IsAsked, IsBegunList, IsListOf, IsSection, Running}
use Rattle.med_core.proofs.Kept.{finish_spots}
use Rattle.med_core.proofs.OverParts.{section_in_part}
use Rattle.med_index.specs.Modes.{is_differential}
use Rattle.med_index.specs.Rebuilt.{AreOfLatest, IsLatestOf, changed}
use Rattle.med_manifest.specs.Manifest.{IsManifest, IsPathOf}
use Rattle.med_manifest.specs.Mend.{changes_of_mend}
use Rattle.med_manifest.specs.Written.{manifest_text}
use Rattle.med_manifest.specs.declared.manifest.FileRecord.{FileRecord}
use Rattle.med_manifest.proofs.ByKind.{NameByKind, name_by_kind}
use Rattle.med_manifest.proofs.Elsewhere.{AreElsewhere, applied_append, get_elsewhere}
use Rattle.med_manifest.proofs.Exacts.{AreSpots, look_get}
use Rattle.med_manifest.proofs.Gets.{target}
use Rattle.med_manifest.proofs.IndexByKind.{InMeta}
use Rattle.med_outside.specs.declared.copy_fault.CopyFault.{CopyFault}
use Rattle.med_outside.specs.declared.copy_fault.CopyFault.TheVariants as fault
use Rattle.med_outside.specs.declared.trace.Trace.{Trace}
use Rattle.med_outside.specs.Makes.{Last, Sure, Unsure, tried}
use Rattle.med_outside.specs.Snapshot.{Snapshot}
use Rattle.med_outside.specs.State.{State, History}
use Rattle.med_outside.proofs.Making.{told_as}
use Rattle.med_shelf.specs.declared.finished.Finished.{Finished}
use Rattle.med_shelf.specs.Acts.{event_of}
use Rattle.med_shelf.specs.Checks.{PutsOne}
use Rattle.med_shelf.specs.Endings.{copy_ending}
use Rattle.med_shelf.specs.Ends.{IsEnding}
use Rattle.med_shelf.specs.Finishes.{EndsWith, Finishes, FinishesSorted, HasManifestOf, IsEnded}
use Rattle.med_shelf.specs.Records.{AreSorted, files_of, keys_of}
use Rattle.med_shelf.specs.Shelf.{ClaimState, IsClaimOf, ShelfState, running_of}
use Rattle.med_shelf.proofs.Acting.{copy_ends, put_within, runs_there}
use Rattle.med_shelf.proofs.CheckedLists.{files_are}
use Rattle.med_shelf.proofs.CheckedSoFar.{made_content}
use Rattle.med_shelf.proofs.WriteLemmas.{keys_of_files}

-- ---- the running names

-- a finish takes its name out, whatever its answer is
pub finish_runs : {T : Type 0} (running : Running) (f n : List ℕ) (d : Bool)
    (records : List FileRecord) (result : Result T CopyFault) (last : Last)
    → running_after running f (Finish n d records) (copy_ending result last) ≡ without (f, n) running
finish_runs running f n d records (Ok x) last = refl
finish_runs running f n d records (Err fault.Snap) last = refl
finish_runs running f n d records (Err fault.Memory) last = refl
finish_runs running f n d records (Err fault.Store) Sure = refl
finish_runs running f n d records (Err fault.Store) (Unsure x took) = refl

-- ---- which paths

latest_put : (f : List ℕ) (k : Kind) → IsLatestOf f k → MayStore f k
latest_put f (Latest g e) is = is
latest_put f (Shared g e) is = absurd is
latest_put f (Own g m e) is = absurd is
latest_put f (Meta g m e) is = absurd is
latest_put f (Entry g m e) is = absurd is
latest_put f (Stray g m) is = absurd is
latest_put f Other is = absurd is

latest_gone : (f : List ℕ) (call : Call) (k : Kind) → IsLatestOf f k → MayRemove f call k
latest_gone f call (Latest g e) is = is
latest_gone f call (Shared g e) is = absurd is
latest_gone f call (Own g m e) is = absurd is
latest_gone f call (Meta g m e) is = absurd is
latest_gone f call (Entry g m e) is = absurd is
latest_gone f call (Stray g m) is = absurd is
latest_gone f call Other is = absurd is

latest_within : (before f : List ℕ) (call : Call) (x : Effect)
    → IsLatestOf f (kind_of before (changed x)) → MayChange before f call x
latest_within before f call (Stores path bytes second) is = latest_put f (kind_of before path) is
latest_within before f call (Removes path) is = latest_gone f call (kind_of before path) is

module _ (before f n : List ℕ) (node : IsFqdn f) (name : IsBackupName n) where
  named : NameByKind before f n
  named = name_by_kind before f n node name

  -- an end may make its changes
  ending_within : (call : Call) (told : Option Content) (text : List ℕ) (second : ℕ)
      (xs : List Effect) → IsEnding before f n told text second xs → AreWithin before f call xs
  ending_within call told text second xs ending =
      let t = ending.seconds in
      let small = subst (λ s. s < 2 ^ 64) (sym ending.second_is) ending.fits in
      subst (AreWithin before f call) (sym ending.changes_are)
      (all_append (MayChange before f call) (manifest_puts before f n text t) ending.mend (
        subst (MayStore f) (sym (named.meta Manifest)) refl,
        (
          subst (MayStore f) (sym (named.entry index_kind.Manifest tt)) refl,
          (subst (MayStore f) (sym (named.entry (index_kind.Finished (t 0)) small)) refl, tt),
        ),
      )
      (all_with (λ x. IsLatestOf f (kind_of before (changed x))) (MayChange before f call)
      (latest_within before f call) ending.mend ending.mend_is.reach))

  -- a look may make its puts
  look_within : (call : Call) (held : Option Snapshot) (rs : List Record)
      → ((r : Record) → Contains rs r → IsKey r.file.key) → (xs : List Effect)
      → AllByRecursion (PutsOne before f n held rs) xs → AreWithin before f call xs
  look_within call held rs keys xs puts =
      all_with (PutsOne before f n held rs) (MayChange before f call)
      (λ x (r, bytes, among, whole, put). put_within before f n false r.file.key node name
      (keys r among) call bytes x put) xs puts

  -- ---- the manifest stands

  elsewhere : (xs : List Effect) → AreOfLatest before f xs
      → AreElsewhere (meta_path before f n Manifest) xs
  elsewhere [] all = tt
  elsewhere (x ∷ xs) all = (apart x all.0, elsewhere xs all.1)
    where
      no_latest : (k : Kind) → Meta f n Manifest ≡ k → IsLatestOf f k → ⊥
      no_latest (Latest g e) is of = absurd (cc is)
      no_latest (Shared g e) is of = of
      no_latest (Own g m e) is of = of
      no_latest (Meta g m e) is of = of
      no_latest (Entry g m e) is of = of
      no_latest (Stray g m) is of = of
      no_latest Other is of = of

      apart : (x : Effect) → IsLatestOf f (kind_of before (changed x))
          → meta_path before f n Manifest ≢ target x
      apart (Stores path bytes second) of same =
          no_latest (kind_of before path)
          (sym (named.meta Manifest) ∙ ap (kind_of before) same) of
      apart (Removes path) of same =
          no_latest (kind_of before path)
          (sym (named.meta Manifest) ∙ ap (kind_of before) same) of

  ending_stands : (c : Content) (told : Option Content) (text : List ℕ) (second : ℕ)
      (xs : List Effect) → IsEnding before f n told text second xs
      → get (applied xs c) (meta_path before f n Manifest)
      ≡ Some (record { bytes = text; second = second })
  ending_stands c told text second xs ending =
      let t = ending.seconds in
      let small = subst (λ s. s < 2 ^ 64) (sym ending.second_is) ending.fits in
      let spots : AreSpots before f n (finish_spots text t) = (
        named.meta Manifest,
        (
          named.entry index_kind.Manifest tt,
          (named.entry (index_kind.Finished (t 0)) small, tt),
        ),
      ) in
      ap (λ l. get (applied l c) (meta_path before f n Manifest)) ending.changes_are
      ∙ ap (λ e. get e (meta_path before f n Manifest))
      (applied_append (manifest_puts before f n text t) ending.mend c)
      ∙ get_elsewhere (meta_path before f n Manifest) ending.mend
      (applied (manifest_puts before f n text t) c) (elsewhere ending.mend ending.mend_is.reach)
      ∙ look_get before f n (finish_spots text t) c (InMeta Manifest) (named.meta Manifest) spots
      ∙ ap (λ s. Some (record { bytes = text; second = s })) ending.second_is

-- ---- the call that a finish is

-- what holds of the file of each record holds of each file
of_each_file : (P : FileRecord → Type 0) (rs : List Record)
    → AllByRecursion (λ (r : Record). P r.file) rs → AllByRecursion P (files_of rs)
of_each_file P [] all = tt
of_each_file P (r ∷ rs) all = (all.0, of_each_file P rs all.1)

module _ (before f n : List ℕ) (d : Bool) (sorted : List Record) (fresh : Fresh) where
  -- over a content the look and the end are the list of a finish
  listed : (running : Running) (c : Content) (looked : List Effect) (rs : List Record)
      (second : ℕ) (xs : List Effect)
      → looked ≡ (checked before f n d fresh c (files_of sorted)).changes
      → IsEnded before f n d sorted fresh (Some c) looked rs second xs
      → IsListOf before c running f (Finish n d (files_of sorted)) (looked ++ xs)
  listed running c looked rs second xs list ended =
      let found = checked before f n d fresh c (files_of sorted) in
      let e = ended.ending in
      let files : files_of rs ≡ found.files =
      ap files_of ended.records_are.records_are ∙ files_are before f n d fresh sorted c in
      let (u, mend_is) = e.mend_is.list in
      let text = manifest_text (files_of rs) in (
        fresh,
        e.seconds,
        u,
        subst (λ s. s < 2 ^ 64) (sym e.second_is) e.fits,
        subst (λ (l : List FileRecord). IsManifest before f n (manifest_text l) l) files
            ended.names,
        ap (λ l. looked ++ l)
            (e.changes_are ∙ ap (λ l. manifest_puts before f n text e.seconds ++ l) mend_is)
            ∙ (λ i. list i ++ (manifest_puts before f n (manifest_text (files i)) e.seconds
            ++ changes_of_mend before
            (applied (manifest_puts before f n (manifest_text (files i)) e.seconds)
            (applied (list i) c)) f [] u)),
      )

  -- so it is after each answer, as far as a finish came
  ends_listed : (running : Running) (c : Content) (looked xs : List Effect)
      (result : Result Finished CopyFault) → IsOk result
      → looked ≡ (checked before f n d fresh c (files_of sorted)).changes
      → EndsWith before f n d sorted fresh (Some c) looked result xs
      → IsListOf before c running f (Finish n d (files_of sorted)) (looked ++ xs)
  ends_listed running c looked xs (Ok finished) fine list (name_is, ended) =
      listed running c looked finished.records.items finished.second xs list ended
  ends_listed running c looked xs (Err answer) fine list ends = absurd (cc fine)

  ends_begun : (running : Running) (c : Content) (looked xs : List Effect)
      (result : Result Finished CopyFault)
      → looked ≡ (checked before f n d fresh c (files_of sorted)).changes
      → EndsWith before f n d sorted fresh (Some c) looked result xs
      → IsBegunList before c running f (Finish n d (files_of sorted)) (looked ++ xs)
  ends_begun running c looked xs (Ok finished) list (name_is, ended) =
      inl (listed running c looked finished.records.items finished.second xs list ended)
  ends_begun running c looked xs (Err answer) list (inl none) =
      inr (fresh, ap (λ l. looked ++ l) none ∙ append-nil looked ∙ list)
  ends_begun running c looked xs (Err answer) list (inr (apart, rs, second, ended)) =
      inl (listed running c looked rs second xs list ended)

-- ---- a finish of a shelf

module _ (before f n : List ℕ) (d : Bool) (sorted : List Record) (node : IsFqdn f)
    (name : IsBackupName n) (running : Running) (runs : Contains running (f, n))
    (rising : AreRising (keys_of sorted))
    (each : AllByRecursion
    (λ (r : Record). IsKey r.file.key × IsPathOf before f n r.file.key r.file.path) sorted) where
  abbrev call : Call
  call = Finish n d (files_of sorted)

  asked : IsAsked before running f call
  asked = (
    name,
    runs,
    subst AreRising (sym (keys_of_files sorted)) rising,
    of_each_file (λ (q : FileRecord). IsKey q.key × IsPathOf before f n q.key q.path) sorted each,
  )

  finish_section : (fresh : Fresh) (looked xs done rest : List Effect) (last : Last)
      (result : Result Finished CopyFault) → looked ++ xs ≡ done ++ (tried last ++ rest)
      → (IsOk result → (last ≡ Sure) × (rest ≡ [])) → (told : Option Content)
      → IfSome told (λ c. looked ≡ (checked before f n d fresh c (files_of sorted)).changes)
      → EndsWith before f n d sorted fresh told looked result xs
      → IfSome told
      (λ c. IsSection before (node_part before f c) running
      (event_of f call (copy_ending result last) done))
  finish_section fresh looked xs done rest last result split whole None list ends = tt
  finish_section fresh looked xs done rest last result split whole (Some c) list ends =
      section_in_part before c running (event_of f call (copy_ending result last) done)
      (record {
        node = node;
        asked = asked;
        ends = copy_ends before c running f call (λ left. tt) result done rest last whole
            (λ fine. subst (IsListOf before c running f call) split
            (ends_listed before f n d sorted fresh running c looked xs result fine list ends))
            (subst (IsBegunList before c running f call) split
            (ends_begun before f n d sorted fresh running c looked xs result list ends));
      })

-- the changes behind the look are within
ends_within : (before f n : List ℕ) → IsFqdn f → IsBackupName n → (d : Bool) (sorted : List Record)
    (fresh : Fresh) (told : Option Content) (looked xs : List Effect)
    (result : Result Finished CopyFault) (call : Call)
    → EndsWith before f n d sorted fresh told looked result xs → AreWithin before f call xs
ends_within before f n node name d sorted fresh told looked xs (Ok finished) call (name_is, ended) =
    ending_within before f n node name call _ _ finished.second xs ended.ending
ends_within before f n node name d sorted fresh told looked xs (Err answer) call (inl none) =
    subst (AreWithin before f call) (sym none) tt
ends_within before f n node name d sorted fresh told looked xs (Err answer) call
    (inr (apart, rs, second, ended)) =
    ending_within before f n node name call _ _ second xs ended.ending

-- the manifest stands behind a finish
stands_behind : (before f n : List ℕ) → IsFqdn f → IsBackupName n → (d : Bool)
    (sorted : List Record) (fresh : Fresh) (told : Option Content) (looked xs : List Effect)
    (finished : Finished)
    → EndsWith before f n d sorted fresh told looked (Ok finished) xs
    → HasManifestOf before f n (after_all (looked ++ xs) told) finished
stands_behind before f n node name d sorted fresh None looked xs finished ends = tt
stands_behind before f n node name d sorted fresh (Some c) looked xs finished (name_is, ended) =
    ap (λ e. get e (meta_path before f n Manifest)) (applied_append looked xs c)
    ∙ ending_stands before f n node name (applied looked c) _ _ finished.second xs ended.ending

module _ (shelf now : ShelfState) (claim : ClaimState) (held : Option Snapshot) (s0 s1 : State)
    (p0 p1 : History) (t0 t1 : Trace) (node : IsFqdn claim.node) (name : IsBackupName claim.name)
    (of : IsClaimOf shelf claim) (sorted : List Record) (sorted_is : AreSorted claim.records sorted)
    (each : AllByRecursion (λ (r : Record). IsKey r.file.key
    × IsPathOf claim.layout claim.node claim.name r.file.key r.file.path) sorted) where
  abbrev here : ShelfState
  here = record { layout = claim.layout; node = claim.node; running = shelf.running }

  same : here ≡ shelf
  same = λ i. record { layout = of.layout_is i; node = of.node_is i; running = shelf.running }

  key_among : (r : Record) → Contains sorted r → IsKey r.file.key
  key_among r among =
      (All-contains (λ (r : Record). IsKey r.file.key
      × IsPathOf claim.layout claim.node claim.name r.file.key r.file.path) sorted r
      (All-from_recursion _ sorted each) among).0

  manifest_stands : (result : Result Finished CopyFault)
      → (m : FinishesSorted claim.layout claim.node claim.name (is_differential claim.mode) sorted
      held result s0 s1 p0 p1 t0 t1)
      → IfOk result (HasManifestOf claim.layout claim.node claim.name s1.content)
  manifest_stands (Err answer) m = tt
  manifest_stands (Ok finished) m =
      subst (λ told. HasManifestOf claim.layout claim.node claim.name told finished)
      (sym (made_content ⊥ (m.looked ++ m.ended) s0 s1 p0 p1 t0 t1
      (told_as (true ≡ true) ⊥ (Unit {0}) ⊥ (m.looked ++ m.ended) s0 s1 p0 p1 t0 t1
      (λ ok. refl) (λ never. never) m.makes)))
      (stands_behind claim.layout claim.node claim.name node name (is_differential claim.mode)
      sorted m.fresh s0.content m.looked m.ended finished m.ends)

  pub finishes : now.layout ≡ shelf.layout → now.node ≡ shelf.node
      → running_of now ≡ without (shelf.node, claim.name) (running_of shelf)
      → (result : Result Finished CopyFault)
      → FinishesSorted claim.layout claim.node claim.name (is_differential claim.mode) sorted held
      result s0 s1 p0 p1 t0 t1
      → Finishes shelf now claim held result s0 s1 p0 p1 t0 t1
  finishes layout_is node_is running_is result m =
      let k = m.makes in
      subst (λ there. Finishes there now claim held result s0 s1 p0 p1 t0 t1) same
      (record {
        sorted = sorted;
        sorted_is = sorted_is;
        fresh = m.fresh;
        fresh_is = m.fresh_is;
        acts = record {
          xs = m.looked ++ m.ended;
          within = all_append (MayChange claim.layout claim.node
              (Finish claim.name (is_differential claim.mode) (files_of sorted))) m.looked m.ended
              (look_within claim.layout claim.node claim.name node name
              (Finish claim.name (is_differential claim.mode) (files_of sorted)) held sorted
              key_among m.looked m.looked_are)
              (ends_within claim.layout claim.node claim.name node name
              (is_differential claim.mode) sorted m.fresh s0.content m.looked m.ended result
              (Finish claim.name (is_differential claim.mode) (files_of sorted)) m.ends);
          makes = k;
          section = finish_section claim.layout claim.node claim.name (is_differential claim.mode)
              sorted node name (running_of here)
              (runs_there claim.node claim.name shelf.running of.runs) sorted_is.rising each
              m.fresh m.looked m.ended k.done k.rest k.last result k.split k.whole s0.content
              m.list m.ends;
          layout_is = layout_is ∙ sym of.layout_is;
          node_is = node_is ∙ sym of.node_is;
          running_is = running_is
              ∙ ap (λ (s : ShelfState). without (s.node, claim.name) (running_of s)) (sym same)
              ∙ sym (finish_runs (running_of here) claim.node claim.name
              (is_differential claim.mode) (files_of sorted) result k.last);
        };
        looked = m.looked;
        looked_are = m.looked_are;
        ended = m.ended;
        ends = m.ends;
        changes_are = refl;
        manifest_is = manifest_stands result m;
      })
