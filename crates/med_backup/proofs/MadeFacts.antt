-- What a backup leaves over what is told: out of its claim, its places and its finish.
use Rattle.std.proofs.Common.{◌≡◌, ◌≢◌, ◌∙◌, ◌++◌, ℕ, Bool, true, List, [], ◌∷◌, map, Option, Some, None, IfSome, is_some, option_map, append-nil, refl, sym, ap, subst}
use Rattle.std.specs.FinMap.{get}
use Rattle.std.specs.List.{AllByRecursion}
use Rattle.med_base.specs.declared.fingerprint.Fingerprint.{Fingerprint}
use Rattle.med_base.specs.declared.key.FileKey.{FileKey}
use Rattle.med_base.specs.declared.layout.MetaKind.{MetaKind}
use Rattle.med_base.specs.declared.layout.MetaKind.TheVariants as meta
use Rattle.med_base.specs.Classify.{kind_of}
use Rattle.med_base.specs.Content.{Content, Object}
use Rattle.med_base.specs.Effects.{Effect, after_all, applied}
use Rattle.med_base.proofs.Lists.{all_with}
use Rattle.med_base.specs.Key.{AreRising}
use Rattle.med_base.specs.Kinds.{Entry, IsBackupName, Kind, Latest, Meta, Other, Own, Shared, Stray}
use Rattle.med_base.specs.Layout.{meta_path, shared_path}
use Rattle.med_core.proofs.SafeByKind.{same_print}
use Rattle.med_core.specs.declared.records.Record.{Record}
use Rattle.med_core.specs.Finish.{is_stored_as}
use Rattle.med_core.specs.Place.{placed_record}
use Rattle.med_core.specs.Run.{IsRun, effects, next_content, next_running}
use Rattle.med_core.specs.Section.{Claim, Done, Event, Finish, Running}
use Rattle.med_manifest.proofs.ByKind.{KeyByKind, name_by_kind}
use Rattle.med_manifest.specs.Vault.{FileMap, IsBackup, IsFilesOf, IsRow, IsStarted, Row, by_others, by_schema, second_of}
use Rattle.med_manifest.specs.Whole.{HasManifest, IsStoredAs}
use Rattle.med_manifest.specs.Written.{manifest_text}
use Rattle.med_manifest.specs.declared.manifest.FileRecord.{FileRecord}
use Rattle.med_outside.specs.Sent.{IsWholeFile}
use Rattle.med_outside.specs.Snapshot.{Snapshot}
use Rattle.med_outside.proofs.Passing.{applied-append}
use Rattle.med_shelf.specs.declared.finished.Finished.{Finished}
use Rattle.med_shelf.specs.Records.{files_of, keys_of}
use Rattle.med_backup.specs.Backups.{AreSourcesOf, IsFinishedBehind, PlacedFile, Sources, places_of, records_over}
use Rattle.med_backup.specs.Facts.{GainsRow, IsBackupOf, IsFileOf, MayDiffer}
use Rattle.med_backup.specs.Sections.{AreDone, all_effects}
use Rattle.med_backup.proofs.EndFacts.{IsClaimDone, IsFinishedAt, IsOfBackup, IsOfEnd, IsStored, claim_section, finish_section, split_done, split_run}
use Rattle.med_backup.proofs.KindSteps.{untouched}
use Rattle.med_backup.proofs.PlacedFiles.{ArePlaced, IsKept, IsKeptAs, IsOfKey, all_placed, record_at, same_record}
use Rattle.med_backup.proofs.PrintLemmas.{placed_so}
use Rattle.med_backup.proofs.SectionLemmas.{effects_on}

-- ---- lists

all_mapped : {A B : Type 0} (g : A → B) (P : B → Type 0) (xs : List A)
    → AllByRecursion (λ (x : A). P (g x)) xs → AllByRecursion P (map g xs)
all_mapped g P [] all = tt
all_mapped g P (x ∷ xs) all = (all.0, all_mapped g P xs all.1)

all_three : {A : Type 0} (P Q R S : A → Type 0) → ((x : A) → P x → Q x → R x → S x)
    → (xs : List A) → AllByRecursion P xs → AllByRecursion Q xs → AllByRecursion R xs
    → AllByRecursion S xs
all_three P Q R S so [] a b c = tt
all_three P Q R S so (x ∷ xs) a b c =
    (so x a.0 b.0 c.0, all_three P Q R S so xs a.1 b.1 c.1)

all_two : {A : Type 0} (P Q R : A → Type 0) → ((x : A) → P x → Q x → R x) → (xs : List A)
    → AllByRecursion P xs → AllByRecursion Q xs → AllByRecursion R xs
all_two P Q R so [] a b = tt
all_two P Q R so (x ∷ xs) a b = (so x a.0 b.0, all_two P Q R so xs a.1 b.1)

all_of : {A : Type 0} (P : A → Type 0) → ((x : A) → P x) → (xs : List A) → AllByRecursion P xs
all_of P so [] = tt
all_of P so (x ∷ xs) = (so x, all_of P so xs)

-- ---- kinds

not_start : (f n : List ℕ) (k : FileKey) (kind : Kind) → IsOfKey k kind → IsOfBackup f n kind → ⊥
not_start f n k (Shared g j) is start = start
not_start f n k (Own g m j) is start = start
not_start f n k (Meta g m i) is start = is
not_start f n k (Entry g m i) is start = is
not_start f n k (Latest g i) is start = is
not_start f n k (Stray g m) is start = is
not_start f n k Other is start = is

not_end : (f n : List ℕ) (k : FileKey) (kind : Kind) → IsOfKey k kind → IsOfEnd f n kind → ⊥
not_end f n k (Shared g j) is end = end
not_end f n k (Own g m j) is end = end
not_end f n k (Meta g m i) is end = is
not_end f n k (Entry g m i) is end = is
not_end f n k (Latest g i) is end = is
not_end f n k (Stray g m) is end = is
not_end f n k Other is end = is

start_may : (f n : List ℕ) (d : Bool) (o : Option Object) (kind : Kind) → IsOfBackup f n kind
    → MayDiffer f n d o kind
start_may f n d o (Shared g j) is = absurd is
start_may f n d o (Own g m j) is = absurd is
start_may f n d o (Meta g m i) is = is
start_may f n d o (Entry g m i) is = is
start_may f n d o (Latest g i) is = absurd is
start_may f n d o (Stray g m) is = absurd is
start_may f n d o Other is = absurd is

end_may : (f n : List ℕ) (d : Bool) (o : Option Object) (kind : Kind) → IsOfEnd f n kind
    → MayDiffer f n d o kind
end_may f n d o (Shared g j) is = absurd is
end_may f n d o (Own g m j) is = absurd is
end_may f n d o (Meta g m i) is = (is.0, is.1)
end_may f n d o (Entry g m i) is = is
end_may f n d o (Latest g i) is = is
end_may f n d o (Stray g m) is = absurd is
end_may f n d o Other is = absurd is

-- ---- rows of other backups

module _ (before f m : List ℕ) (c e : Content)
    (same : (kind : MetaKind) → get e (meta_path before f m kind)
    ≡ get c (meta_path before f m kind)) where
  second_same : (kind : MetaKind) → second_of e before f m kind ≡ second_of c before f m kind
  second_same kind = ap (option_map (λ (o : Object). o.second)) (same kind)

  started_same : (start : ℕ) → IsStarted c before f m start → IsStarted e before f m start
  started_same start (by_schema is) = by_schema (second_same meta.Schema ∙ is)
  started_same start (by_others none kind is least) =
      by_others (second_same meta.Schema ∙ none) kind (second_same kind ∙ is)
      (λ other later stands. least other later (sym (second_same other) ∙ stands))

  manifest_same : (files : List FileRecord) → HasManifest before f m c files
      → HasManifest before f m e files
  manifest_same files has =
      record {
        object = has.object;
        stands = same meta.Manifest ∙ has.stands;
        names = has.names;
      }

  manifest_back : (files : List FileRecord) → HasManifest before f m e files
      → HasManifest before f m c files
  manifest_back files has =
      record {
        object = has.object;
        stands = sym (same meta.Manifest) ∙ has.stands;
        names = has.names;
      }

  files_same : (files : Option FileMap) → IsFilesOf c before f m files → IsFilesOf e before f m files
  files_same (Some map) (files, has, is) = (files, manifest_same files has, is)
  files_same None none = λ files has. none files (manifest_back files has)

  backup_same : IsBackup c before f m → IsBackup e before f m
  backup_same is = record {
    name = is.name;
    kind = is.kind;
    second = is.second;
    stands = second_same is.kind ∙ is.stands;
  }

row_same : (before f : List ℕ) (c e : Content) (row : Row)
    → ((kind : MetaKind) → get e (meta_path before f row.name kind)
    ≡ get c (meta_path before f row.name kind))
    → IsRow c before f row → IsRow e before f row
row_same before f c e row same is = record {
  listed = record {
    backup = backup_same before f row.name c e same is.listed.backup;
    mode = is.listed.mode
        ∙ ap is_some (sym (second_same before f row.name c e same meta.Differential));
    started = started_same before f row.name c e same row.started is.listed.started;
    finished = is.listed.finished ∙ sym (second_same before f row.name c e same meta.Manifest);
  };
  files = files_same before f row.name c e same row.files is.files;
}

-- ---- the whole

module _ (before f n : List ℕ) (d : Bool) (s : Snapshot) (x : Sources)
    (src : AreSourcesOf f s x) (c : Content) (first last : List Effect) (after : Content)
    (files : List PlacedFile) (claimed : IsClaimDone before f n d x.schema x.ring c first)
    (placed : ArePlaced before f n d (applied first c) after files)
    (finished : IsFinishedAt before f n
    (files_of (map (λ (p : PlacedFile). placed_record before f n d p.0 p.1 c) files)) after last)
  where
    abbrev start : Content
    start = applied first c

    abbrev end : Content
    end = applied last after

    abbrev record_of : PlacedFile → Record
    record_of p = placed_record before f n d p.0 p.1 c

    -- a path of a file of the backup is as before its claim, and not changed by its finish
    from_start : (k : FileKey) (q : List ℕ) → IsOfKey k (kind_of before q) → get start q ≡ get c q
    from_start k q is =
        untouched (λ q. IsOfBackup f n (kind_of before q)) first c q claimed.claimed.of_backup
        (not_start f n k (kind_of before q) is)

    to_end : (k : FileKey) (q : List ℕ) → IsOfKey k (kind_of before q) → get end q ≡ get after q
    to_end k q is =
        untouched (λ q. IsOfEnd f n (kind_of before q)) last after q finished.of_end
        (not_end f n k (kind_of before q) is)

    -- the record over the content before the claim
    kept_of : (p : PlacedFile) → KeyByKind before f n p.0 → IsKept before f n d start after p
        → IsKeptAs (record_of p) p.1 c end
    kept_of p keyed kept =
        let same : placed_record before f n d p.0 p.1 start ≡ record_of p =
        same_record before f n d p.0 p.1 c start
        (from_start p.0 (shared_path before f p.0)
        (subst (IsOfKey p.0) (sym keyed.shared) refl)) in
        let here : IsKeptAs (record_of p) p.1 start after =
        subst (λ (r : Record). IsKeptAs r p.1 start after) same kept in
        let path = (record_of p).file.path in
        let of_key : IsOfKey p.0 (kind_of before path) =
        record_at before f n p.0 keyed p.1 0 c d in
        record {
          print = ap (is_stored_as (record_of p).file.fingerprint) (to_end p.0 path of_key)
              ∙ here.print;
          held = λ none. ap (option_map (λ (o : Object). o.bytes)) (to_end p.0 path of_key)
              ∙ here.held (from_start p.0 path of_key ∙ none);
        }

    file_of : (p : PlacedFile) → KeyByKind before f n p.0 → IsKept before f n d start after p
        → IsWholeFile (Some s) p.0 p.1 → IsFileOf before f n d s c end (record_of p)
    file_of p keyed kept whole =
        let (key_is, print_is) = placed_so before f n d p.0 p.1 c in
        record {
          bytes = p.1;
          file_is = ap (get s.files) key_is ∙ whole;
          record_is = ap (λ (k : FileKey). placed_record before f n d k p.1 c) (sym key_is);
          held = (kept_of p keyed kept).held;
        }

    stored_of : (path : List ℕ) (print : Fingerprint) (o : Option Object) → get end path ≡ o
        → is_stored_as print o ≡ true → IsStoredAs end path print
    stored_of path print None e h = absurd (cc h)
    stored_of path print (Some o) e h =
        record { object = o; stands = e; print_is = same_print _ _ h }

    file_stored : (p : PlacedFile) → KeyByKind before f n p.0 → IsKept before f n d start after p
        → IsStoredAs end (record_of p).file.path (record_of p).file.fingerprint
    file_stored p keyed kept =
        stored_of (record_of p).file.path (record_of p).file.fingerprint
        (get end (record_of p).file.path) refl (kept_of p keyed kept).print

    -- every other path is as before
    others : (q : List ℕ) → (MayDiffer f n d (get c q) (kind_of before q) → ⊥)
        → get end q ≡ get c q
    others q never =
        let at_start : get start q ≡ get c q =
        untouched (λ q. IsOfBackup f n (kind_of before q)) first c q claimed.claimed.of_backup
        (λ is. never (start_may f n d (get c q) (kind_of before q) is)) in
        untouched (λ q. IsOfEnd f n (kind_of before q)) last after q finished.of_end
        (λ is. never (end_may f n d (get c q) (kind_of before q) is))
        ∙ placed.others q
        (λ may. never (subst (λ (o : Option Object). MayDiffer f n d o (kind_of before q)) at_start may))
        ∙ at_start

    -- what the claim put stands at the end
    meta_stays : (kind : MetaKind) → (kind ≡ meta.Manifest → ⊥)
        → get end (meta_path before f n kind) ≡ get start (meta_path before f n kind)
    meta_stays kind never =
        let has = (name_by_kind before f n claimed.node claimed.name).meta kind in
        let q = meta_path before f n kind in
        untouched (λ q. IsOfEnd f n (kind_of before q)) last after q finished.of_end
        (λ is. never (subst (IsOfEnd f n) has is).2)
        ∙ placed.apart q
        (all_of (λ (p : PlacedFile). IsOfKey p.0 (kind_of before q) → ⊥)
        (λ p is. subst (IsOfKey p.0) has is) files)

    meta_kept : (m : List ℕ) → IsBackupName m → m ≢ n → (kind : MetaKind)
        → get end (meta_path before f m kind) ≡ get c (meta_path before f m kind)
    meta_kept m name apart kind =
        let has = (name_by_kind before f m claimed.node name).meta kind in
        others (meta_path before f m kind)
        (λ may. apart (subst (MayDiffer f n d (get c (meta_path before f m kind))) has may).1)

    gains : GainsRow before f n d c end
    gains = record {
      was_none = λ is. let gone : ◌≡◌ {A = Option ℕ} None (Some is.second) =
          sym (ap (option_map (λ (o : Object). o.second)) (claimed.none is.kind)) ∙ is.stands in
          cc gone;
      start = claimed.claimed.start;
      finish = finished.second;
      listed = record {
        backup = record {
          name = claimed.name;
          kind = meta.Schema;
          second = claimed.claimed.start;
          stands = schema_second;
        };
        mode = claimed.claimed.mode_is
            ∙ some_second (get start (meta_path before f n meta.Differential))
            ∙ ap (λ (o : Option Object). is_some (option_map (λ (o : Object). o.second) o))
            (sym (meta_stays meta.Differential (λ e. cc e)));
        started = by_schema schema_second;
        finished = sym (ap (option_map (λ (o : Object). o.second)) finished.stands);
      };
      others = λ row apart. (
        λ is. row_same before f c end row (meta_kept row.name is.listed.backup.name apart) is,
        λ is. row_same before f end c row
            (λ kind. sym (meta_kept row.name is.listed.backup.name apart kind)) is,
      );
    }
      where
        schema_second : second_of end before f n meta.Schema ≡ Some claimed.claimed.start
        schema_second =
            ap (option_map (λ (o : Object). o.second))
            (meta_stays meta.Schema (λ e. cc e) ∙ claimed.claimed.schema_is)

        some_second : (o : Option Object)
            → is_some o ≡ is_some (option_map (λ (o : Object). o.second) o)
        some_second None = refl
        some_second (Some o) = refl

    abbrev rs : List Record
    rs = map record_of files

    pub made_over : map (λ (p : PlacedFile). p.0) files ≡ x.keys
        → AllByRecursion (λ (p : PlacedFile). IsWholeFile (Some s) p.0 p.1) files
        → IsBackupOf before f n d s c end rs
    made_over all whole = record {
      was_free = claimed.free;
      whole = record {
        files = files_of rs;
        manifest = record {
          object = record { bytes = manifest_text (files_of rs); second = finished.second };
          stands = finished.stands;
          names = finished.names;
        };
        stored = all_mapped (λ (r : Record). r.file)
            (λ (r : FileRecord). IsStoredAs end r.path r.fingerprint) rs
            (all_mapped record_of
            (λ (r : Record). IsStoredAs end r.file.path r.file.fingerprint) files
            (all_two (λ (p : PlacedFile). KeyByKind before f n p.0) (IsKept before f n d start after)
            (λ (p : PlacedFile). IsStoredAs end (record_of p).file.path
            (record_of p).file.fingerprint) file_stored files placed.keyed placed.kept));
      };
      manifest_is = ap (option_map (λ (o : Object). o.bytes)) finished.stands;
      keys_are = keys_so files ∙ all ∙ src.keys_are;
      files_are = all_mapped record_of (IsFileOf before f n d s c end) files
          (all_three (λ (p : PlacedFile). KeyByKind before f n p.0) (IsKept before f n d start after)
          (λ (p : PlacedFile). IsWholeFile (Some s) p.0 p.1)
          (λ (p : PlacedFile). IsFileOf before f n d s c end (record_of p)) file_of files
          placed.keyed placed.kept whole);
      schema_is = ap (option_map (λ (o : Object). o.bytes))
          (meta_stays meta.Schema (λ e. cc e) ∙ claimed.claimed.schema_is)
          ∙ ap Some src.schema_is;
      hosts = src.hosts;
      ring_reads = src.reads;
      ring_is = ap (option_map (λ (o : Object). o.bytes))
          (meta_stays meta.Tokenmap (λ e. cc e) ∙ claimed.claimed.ring_is)
          ∙ ap Some src.ring_is;
      row = gains;
      others = others;
    }
      where
        keys_so : (ps : List PlacedFile) → keys_of (map record_of ps)
            ≡ map (λ (p : PlacedFile). p.0) ps
        keys_so [] = refl
        keys_so (p ∷ ps) = λ i. (placed_so before f n d p.0 p.1 c).0 i ∷ keys_so ps i

-- the files of the records stand as recorded where the files were placed
pub placed_stand : (before f n : List ℕ) (d : Bool) (old new : Content) (files : List PlacedFile)
    → AllByRecursion (IsKept before f n d old new) files
    → AllByRecursion (λ (r : Record). IsStored new r.file)
    (map (λ (p : PlacedFile). placed_record before f n d p.0 p.1 old) files)
placed_stand before f n d old new files kept =
    all_mapped (λ (p : PlacedFile). placed_record before f n d p.0 p.1 old)
    (λ (r : Record). IsStored new r.file) files
    (all_with (IsKept before f n d old new)
    (λ (p : PlacedFile). IsStored new (placed_record before f n d p.0 p.1 old).file)
    (λ p k. k.print) files kept)

-- records over the content behind a claim are those over the content before it
pub records_back : (before f n : List ℕ) (d : Bool) (c behind : Content)
    (files : List PlacedFile)
    → AllByRecursion (λ (p : PlacedFile). get behind (shared_path before f p.0)
    ≡ get c (shared_path before f p.0)) files
    → map (λ (p : PlacedFile). placed_record before f n d p.0 p.1 behind) files
    ≡ map (λ (p : PlacedFile). placed_record before f n d p.0 p.1 c) files
records_back before f n d c behind [] same = refl
records_back before f n d c behind (p ∷ ps) same =
    λ i. same_record before f n d p.0 p.1 c behind same.0 i
    ∷ records_back before f n d c behind ps same.1 i

-- the records over the content behind the claim, of files that were placed
pub records_before : (before f n : List ℕ) (d : Bool) (schema ring : List ℕ) (c : Content)
    (running : Running) (claim : Event) (rest : List Event) → IsRun before c running (claim ∷ rest)
    → claim.node ≡ f → claim.call ≡ Claim n d schema ring → claim.ending ≡ Done
    → (files : List PlacedFile) (looked : List FileRecord)
    → AreDone f (places_of n d files ++ Finish n d looked ∷ []) rest
    → AreRising (map (λ (p : PlacedFile). p.0) files)
    → records_over before f n d (next_content c claim) files ≡ records_over before f n d c files
records_before before f n d schema ring c running claim rest run node_is call_is ending_is files
    looked done rising =
    let claimed =
    claim_section before f n d schema ring c running claim run.0 node_is call_is ending_is in
    let split = split_done f (places_of n d files) (Finish n d looked) rest done in
    let run_rest : IsRun before (next_content c claim) (next_running running claim)
    (split.front ++ split.last ∷ []) =
    subst (IsRun before (next_content c claim) (next_running running claim)) split.events_are
    run.1 in
    let run_front = (split_run before (next_content c claim) (next_running running claim)
    split.front split.last run_rest).0 in
    let placed =
    all_placed before f n d files split.front (next_content c claim) (next_running running claim)
    run_front split.done rising in
    records_back before f n d c (next_content c claim) files
    (all_with (λ (p : PlacedFile). KeyByKind before f n p.0)
    (λ (p : PlacedFile). get (next_content c claim) (shared_path before f p.0)
    ≡ get c (shared_path before f p.0))
    (λ p keyed. untouched (λ q. IsOfBackup f n (kind_of before q)) (effects claim) c
    (shared_path before f p.0) claimed.claimed.of_backup
    (λ is. subst (IsOfBackup f n) keyed.shared is)) files placed.keyed)

-- the whole run of a backup
pub made_of_run : (before f n : List ℕ) (d : Bool) (s : Snapshot) (x : Sources)
    → AreSourcesOf f s x → (c : Content) (running : Running) (claim : Event) (rest : List Event)
    → IsRun before c running (claim ∷ rest) → claim.node ≡ f
    → claim.call ≡ Claim n d x.schema x.ring → claim.ending ≡ Done → (files : List PlacedFile)
    → AreDone f
    (places_of n d files
    ++ Finish n d
    (files_of (map (λ (p : PlacedFile). placed_record before f n d p.0 p.1 c) files)) ∷ []) rest
    → map (λ (p : PlacedFile). p.0) files ≡ x.keys → AreRising x.keys
    → AllByRecursion (λ (p : PlacedFile). IsWholeFile (Some s) p.0 p.1) files
    → IsBackupOf before f n d s c (applied (all_effects (claim ∷ rest)) c)
    (map (λ (p : PlacedFile). placed_record before f n d p.0 p.1 c) files)
made_of_run before f n d s x src c running claim rest run node_is call_is ending_is files done all
    rising whole =
    let looked =
    files_of (map (λ (p : PlacedFile). placed_record before f n d p.0 p.1 c) files) in
    let claimed =
    claim_section before f n d x.schema x.ring c running claim run.0 node_is call_is ending_is in
    let split = split_done f (places_of n d files) (Finish n d looked) rest done in
    let run_rest : IsRun before (next_content c claim) (next_running running claim)
    (split.front ++ split.last ∷ []) =
    subst (IsRun before (next_content c claim) (next_running running claim)) split.events_are
    run.1 in
    let (run_front, (now, section)) =
    split_run before (next_content c claim) (next_running running claim) split.front split.last
    run_rest in
    let placed =
    all_placed before f n d files split.front (next_content c claim) (next_running running claim)
    run_front split.done (subst AreRising (sym all) rising) in
    let after = applied (all_effects split.front) (next_content c claim) in
    let back =
    records_before before f n d x.schema x.ring c running claim rest run node_is call_is ending_is
    files looked done (subst AreRising (sym all) rising) in
    let stored : AllByRecursion (IsStored after) looked =
    all_mapped (λ (r : Record). r.file) (IsStored after)
    (map (λ (p : PlacedFile). placed_record before f n d p.0 p.1 c) files)
    (subst (AllByRecursion (λ (r : Record). IsStored after r.file)) back
    (placed_stand before f n d (next_content c claim) after files placed.kept)) in
    let finished =
    finish_section before f n d after now split.last looked section split.node_is split.call_is
    split.ending_is stored in
    subst (λ (e : Content). IsBackupOf before f n d s c e
    (map (λ (p : PlacedFile). placed_record before f n d p.0 p.1 c) files))
    (sym (applied-append (effects claim) (all_effects rest) c
    ∙ ap (λ (es : List Event). applied (all_effects es) (next_content c claim)) split.events_are
    ∙ front_last split.front split.last (next_content c claim)))
    (made_over before f n d s x src c (effects claim) (effects split.last) after files
    claimed placed finished all whole)
  where
    front_last : (es : List Event) (e : Event) (c : Content)
        → applied (all_effects (es ++ e ∷ [])) c
        ≡ applied (effects e) (applied (all_effects es) c)
    front_last es e c =
        ap (λ (l : List Effect). applied l c) (effects_on es e)
        ∙ applied-append (all_effects es) (effects e) c

-- ---- what is told

-- the records of a backup that was finished, and what it leaves, over what is told before its claim
pub told_backup : (before f n : List ℕ) (d : Bool) (x : Sources) (running : Running)
    (claim : Event) (rest : List Event) → claim.node ≡ f → claim.call ≡ Claim n d x.schema x.ring
    → claim.ending ≡ Done → AreRising x.keys → (finished : Finished)
    → (held : Option Snapshot) (o o1 o2 : Option Content)
    → IfSome held (λ s. AreSourcesOf f s x) → o1 ≡ after_all (all_effects (claim ∷ [])) o
    → o2 ≡ after_all (all_effects (claim ∷ rest)) o
    → IfSome o (λ c. IsRun before c running (claim ∷ rest))
    → (ends : IsFinishedBehind before f n d held x.keys o1 o2 rest finished)
    → IfSome o (λ c. finished.records.items ≡ records_over before f n d c ends.files)
    × IfSome o (λ c. IfSome o2 (λ e. IfSome held
    (λ s. IsBackupOf before f n d s c e finished.records.items)))
told_backup before f n d x running claim rest node_is call_is ending_is rising finished held None
    o1 o2 src first last run ends =
    (tt, tt)
told_backup before f n d x running claim rest node_is call_is ending_is rising finished held
    (Some c) None o2 src first last run ends =
    let bad : ◌≡◌ {A = Option Content} None
    (Some (applied (all_effects (claim ∷ [])) c)) = first in
    absurd (cc bad)
told_backup before f n d x running claim rest node_is call_is ending_is rising finished held
    (Some c) (Some c1) o2 src first last run ends =
    (recorded, over held o2 src last ends.whole)
  where
    claimed_is : c1 ≡ next_content c claim
    claimed_is =
        let is : c1 ≡ applied (all_effects (claim ∷ [])) c = cc first in
        is ∙ ap (λ (l : List Effect). applied l c) (append-nil (effects claim))

    rising_files : AreRising (map (λ (p : PlacedFile). p.0) ends.files)
    rising_files = subst AreRising (sym ends.all) rising

    recorded : finished.records.items ≡ records_over before f n d c ends.files
    recorded =
        ends.records_are
        ∙ ap (λ (e : Content). records_over before f n d e ends.files) claimed_is
        ∙ records_before before f n d x.schema x.ring c running claim rest run node_is call_is
        ending_is ends.files ends.looked ends.done rising_files

    done : AreDone f
        (places_of n d ends.files
        ++ Finish n d (files_of (records_over before f n d c ends.files)) ∷ []) rest
    done =
        subst (λ (l : List FileRecord). AreDone f (places_of n d ends.files ++ Finish n d l ∷ [])
        rest) (ends.looked_are ∙ ap files_of recorded) ends.done

    over : (h : Option Snapshot) (o : Option Content) → IfSome h (λ s. AreSourcesOf f s x)
        → o ≡ Some (applied (all_effects (claim ∷ rest)) c)
        → AllByRecursion (λ (p : PlacedFile). IsWholeFile h p.0 p.1) ends.files
        → IfSome o (λ e. IfSome h
        (λ s. IsBackupOf before f n d s c e finished.records.items))
    over h None src last whole = tt
    over None (Some e) src last whole = tt
    over (Some s) (Some e) src last whole =
        let end_is : e ≡ applied (all_effects (claim ∷ rest)) c = cc last in
        subst (λ (l : List Record). IsBackupOf before f n d s c e l) (sym recorded)
        (subst (λ (y : Content). IsBackupOf before f n d s c y
        (records_over before f n d c ends.files)) (sym end_is)
        (made_of_run before f n d s x src c running claim rest run node_is call_is ending_is
        ends.files done ends.all rising whole))
