-- The sections at the two ends of a backup that were done: what its claim and its finish leave.
use Rattle.std.proofs.Common.{◌≡◌, ◌∙◌, ◌++◌, ◌<◌, ◌^◌, ℕ, Bool, true, false, List, [], ◌∷◌, Some, None, is_some, if◌then◌else◌, inl, inr, refl, sym, ap, subst}
use Rattle.std.specs.FinMap.{get}
use Rattle.std.specs.List.{AllByRecursion}
use Rattle.med_base.specs.declared.layout.MetaKind.{MetaKind}
use Rattle.med_base.specs.declared.layout.MetaKind.TheVariants as meta
use Rattle.med_base.specs.declared.kinds.IndexKind.TheVariants as index
use Rattle.med_base.specs.declared.kinds.LatestKind.{LatestKind}
use Rattle.med_base.specs.Classify.{kind_of}
use Rattle.med_base.specs.Content.{Content}
use Rattle.med_base.specs.Effects.{Effect, Stores, applied, made}
use Rattle.med_base.specs.Kinds.{Entry, IsBackupName, IsFqdn, Kind, Latest, Meta}
use Rattle.med_base.specs.Layout.{backup_folder, meta_path}
use Rattle.med_base.specs.Part.{node_part}
use Rattle.med_backup.proofs.Found.{meta_under}
use Rattle.med_base.proofs.Folders.{free_under}
use Rattle.med_core.proofs.OverParts.{under_part}
use Rattle.med_core.proofs.Removals.{mend_all}
use Rattle.med_core.proofs.Sections.{is_owned}
use Rattle.med_core.specs.Claim.{changes_of_claim}
use Rattle.med_core.specs.Finish.{Checked, Fresh, changes_of_finish, checked, is_stored_as, manifest_puts, placed_again, with_placing, with_record}
use Rattle.med_core.specs.Run.{IsRun, effects, next_content, next_running}
use Rattle.med_core.specs.Section.{Call, Claim, Done, Event, Finish, IsFree, IsSection, Running}
use Rattle.med_manifest.proofs.ByKind.{HasPath, IsFileOf, NameByKind, at, file_by_kind, name_by_kind, node_by_kind}
use Rattle.med_manifest.proofs.Gets.{get_put_same, same_itself, target}
use Rattle.med_manifest.specs.Manifest.{IsManifest, IsPathOf}
use Rattle.med_manifest.specs.Mend.{changes_of_mend}
use Rattle.med_manifest.specs.Written.{manifest_text}
use Rattle.med_manifest.specs.declared.manifest.FileRecord.{FileRecord}
use Rattle.med_base.specs.Key.{IsKey}
use Rattle.med_outside.proofs.Passing.{applied-append}
use Rattle.med_backup.specs.Sections.{AreDone, all_effects}
use Rattle.med_backup.proofs.KindSteps.{AreAt, untouched}
use Rattle.med_backup.proofs.PlacedFiles.{done_section, over_part}

-- ---- rows

-- calls that were done, and the last of them
pub record IsSplit (f : List ℕ) (cs : List Call) (call : Call) (es : List Event) : Type 0 where
  pub front : List Event
  pub last : Event
  pub events_are : es ≡ front ++ last ∷ []
  pub done : AreDone f cs front
  pub node_is : last.node ≡ f
  pub call_is : last.call ≡ call
  pub ending_is : last.ending ≡ Done

pub split_done : (f : List ℕ) (cs : List Call) (call : Call) (es : List Event)
    → AreDone f (cs ++ call ∷ []) es → IsSplit f cs call es
split_done f [] call [] done = absurd done
split_done f [] call (e ∷ []) (node_is, call_is, ending_is, done) = record {
  front = [];
  last = e;
  events_are = refl;
  done = tt;
  node_is = node_is;
  call_is = call_is;
  ending_is = ending_is;
}
split_done f [] call (e ∷ x ∷ es) (node_is, call_is, ending_is, done) = absurd done
split_done f (c ∷ cs) call [] done = absurd done
split_done f (c ∷ cs) call (e ∷ es) (node_is, call_is, ending_is, done) =
    let rest = split_done f cs call es done in
    record {
      front = e ∷ rest.front;
      last = rest.last;
      events_are = ap (λ l. e ∷ l) rest.events_are;
      done = (node_is, call_is, ending_is, rest.done);
      node_is = rest.node_is;
      call_is = rest.call_is;
      ending_is = rest.ending_is;
    }

-- a run, and the section behind it
pub split_run : (before : List ℕ) (c : Content) (running : Running) (front : List Event)
    (last : Event) → IsRun before c running (front ++ last ∷ [])
    → IsRun before c running front
    × ((now : Running)
    × IsSection before (node_part before last.node (applied (all_effects front) c)) now last)
split_run before c running [] last run = (tt, (running, run.0))
split_run before c running (e ∷ es) last run =
    let (first, (now, section)) =
    split_run before (next_content c e) (next_running running e) es last run.1 in (
      (run.0, first),
      (
        now,
        subst (λ (d : Content). IsSection before (node_part before last.node d) now last)
            (sym (applied-append (effects e) (all_effects es) c)) section,
      ),
    )

-- ---- paths

module _ (before : List ℕ) where
  -- the path isn't of this kind
  abbrev pub NotAt : Kind → List ℕ → Type 0
  NotAt k q = kind_of before q ≡ k → ⊥

  pub not_at : (k j : Kind) → HasPath before j → (j ≡ k → ⊥) → NotAt k (at before j)
  not_at k j has never = λ e. never (sym has ∙ e)

  -- what was put under the path of a kind stands behind changes of other kinds
  pub put_stands : (k : Kind) → HasPath before k → (bytes : List ℕ) (second : ℕ)
      (xs : List Effect) (c : Content) → AreAt (NotAt k) xs
      → get (applied xs (made (Stores (at before k) bytes second) c)) (at before k)
      ≡ Some (record { bytes = bytes; second = second })
  put_stands k has bytes second xs c other =
      untouched (NotAt k) xs (made (Stores (at before k) bytes second) c) (at before k) other
      (λ never. never has)
      ∙ get_put_same c (at before k) bytes second

-- ---- the claim

-- the kind is that of an object or an entry of the backup
abbrev pub IsOfBackup : (f n : List ℕ) → Kind → Type 0
IsOfBackup f n (Meta g m kind) = (g ≡ f) × (m ≡ n)
IsOfBackup f n (Entry g m kind) = (g ≡ f) × (m ≡ n)
IsOfBackup f n _ = ⊥

-- what stands behind the claim
pub record IsClaimedAt (before f n : List ℕ) (d : Bool) (schema ring : List ℕ) (old new : Content)
    (xs : List Effect) : Type 0
  where
    pub of_backup : AreAt (λ q. IsOfBackup f n (kind_of before q)) xs
    pub start : ℕ
    pub schema_is : get new (meta_path before f n meta.Schema)
        ≡ Some (record { bytes = schema; second = start })
    pub ring_second : ℕ
    pub ring_is : get new (meta_path before f n meta.Tokenmap)
        ≡ Some (record { bytes = ring; second = ring_second })
    pub mode_is : d ≡ is_some (get new (meta_path before f n meta.Differential))

module _ (before f n : List ℕ) (schema ring : List ℕ) (t : ℕ → ℕ) (fit : t 0 < 2 ^ 64)
    (has : NameByKind before f n) (c : Content)
    (none : (kind : MetaKind) → get c (meta_path before f n kind) ≡ None) where
  of_meta : (kind : MetaKind) → IsOfBackup f n (kind_of before (at before (Meta f n kind)))
  of_meta kind = subst (IsOfBackup f n) (sym (has.meta kind)) (refl, refl)

  other_meta : (kind other : MetaKind) → (other ≡ kind → ⊥)
      → NotAt before (Meta f n kind) (at before (Meta f n other))
  other_meta kind other never =
      not_at before (Meta f n kind) (Meta f n other) (has.meta other)
      (λ e. let is : other ≡ kind = cc e in never is)

  pub claimed_at : (d : Bool) → IsClaimedAt before f n d schema ring c
      (applied (changes_of_claim before f n d schema ring t) c)
      (changes_of_claim before f n d schema ring t)
  claimed_at true =
      let entry : AreAt (λ q. IsOfBackup f n (kind_of before q))
      (Stores (at before (Entry f n index.Tokenmap)) ring (t 3)
      ∷ Stores (at before (Entry f n (index.Started (t 0)))) [] (t 4)
      ∷ Stores (at before (Entry f n index.Differential)) [] (t 5) ∷ []) = (
        subst (IsOfBackup f n) (sym (has.entry index.Tokenmap tt)) (refl, refl),
        (
          subst (IsOfBackup f n) (sym (has.entry (index.Started (t 0)) fit)) (refl, refl),
          (subst (IsOfBackup f n) (sym (has.entry index.Differential tt)) (refl, refl), tt),
        ),
      ) in
      let entries : (kind : MetaKind) → AreAt (NotAt before (Meta f n kind))
      (Stores (at before (Entry f n index.Tokenmap)) ring (t 3)
      ∷ Stores (at before (Entry f n (index.Started (t 0)))) [] (t 4)
      ∷ Stores (at before (Entry f n index.Differential)) [] (t 5) ∷ []) = λ kind. (
        not_at before (Meta f n kind) (Entry f n index.Tokenmap) (has.entry index.Tokenmap tt)
            (λ e. cc e),
        (
          not_at before (Meta f n kind) (Entry f n (index.Started (t 0)))
              (has.entry (index.Started (t 0)) fit) (λ e. cc e),
          (
            not_at before (Meta f n kind) (Entry f n index.Differential)
                (has.entry index.Differential tt) (λ e. cc e),
            tt,
          ),
        ),
      ) in
      record {
        of_backup = (
          of_meta meta.Schema,
          (of_meta meta.Differential, (of_meta meta.Tokenmap, entry)),
        );
        start = t 0;
        schema_is = put_stands before (Meta f n meta.Schema) (has.meta meta.Schema) schema (t 0)
            (Stores (at before (Meta f n meta.Differential)) [] (t 1)
            ∷ Stores (at before (Meta f n meta.Tokenmap)) ring (t 2)
            ∷ Stores (at before (Entry f n index.Tokenmap)) ring (t 3)
            ∷ Stores (at before (Entry f n (index.Started (t 0)))) [] (t 4)
            ∷ Stores (at before (Entry f n index.Differential)) [] (t 5) ∷ []) c (
              other_meta meta.Schema meta.Differential (λ e. cc e),
              (other_meta meta.Schema meta.Tokenmap (λ e. cc e), entries meta.Schema),
            );
        ring_second = t 2;
        ring_is = put_stands before (Meta f n meta.Tokenmap) (has.meta meta.Tokenmap) ring (t 2)
            (Stores (at before (Entry f n index.Tokenmap)) ring (t 3)
            ∷ Stores (at before (Entry f n (index.Started (t 0)))) [] (t 4)
            ∷ Stores (at before (Entry f n index.Differential)) [] (t 5) ∷ [])
            (made (Stores (at before (Meta f n meta.Differential)) [] (t 1))
            (made (Stores (at before (Meta f n meta.Schema)) schema (t 0)) c))
            (entries meta.Tokenmap);
        mode_is = sym (ap is_some (put_stands before (Meta f n meta.Differential)
            (has.meta meta.Differential) [] (t 1)
            (Stores (at before (Meta f n meta.Tokenmap)) ring (t 2)
            ∷ Stores (at before (Entry f n index.Tokenmap)) ring (t 3)
            ∷ Stores (at before (Entry f n (index.Started (t 0)))) [] (t 4)
            ∷ Stores (at before (Entry f n index.Differential)) [] (t 5) ∷ [])
            (made (Stores (at before (Meta f n meta.Schema)) schema (t 0)) c)
            (other_meta meta.Differential meta.Tokenmap (λ e. cc e), entries meta.Differential)));
      }
  claimed_at false =
      let entry : AreAt (λ q. IsOfBackup f n (kind_of before q))
      (Stores (at before (Entry f n index.Tokenmap)) ring (t 3)
      ∷ Stores (at before (Entry f n (index.Started (t 0)))) [] (t 4) ∷ []) = (
        subst (IsOfBackup f n) (sym (has.entry index.Tokenmap tt)) (refl, refl),
        (subst (IsOfBackup f n) (sym (has.entry (index.Started (t 0)) fit)) (refl, refl), tt),
      ) in
      let entries : (kind : MetaKind) → AreAt (NotAt before (Meta f n kind))
      (Stores (at before (Entry f n index.Tokenmap)) ring (t 3)
      ∷ Stores (at before (Entry f n (index.Started (t 0)))) [] (t 4) ∷ []) = λ kind. (
        not_at before (Meta f n kind) (Entry f n index.Tokenmap) (has.entry index.Tokenmap tt)
            (λ e. cc e),
        (
          not_at before (Meta f n kind) (Entry f n (index.Started (t 0)))
              (has.entry (index.Started (t 0)) fit) (λ e. cc e),
          tt,
        ),
      ) in
      record {
        of_backup = (of_meta meta.Schema, (of_meta meta.Tokenmap, entry));
        start = t 0;
        schema_is = put_stands before (Meta f n meta.Schema) (has.meta meta.Schema) schema (t 0)
            (Stores (at before (Meta f n meta.Tokenmap)) ring (t 2)
            ∷ Stores (at before (Entry f n index.Tokenmap)) ring (t 3)
            ∷ Stores (at before (Entry f n (index.Started (t 0)))) [] (t 4) ∷ []) c
            (other_meta meta.Schema meta.Tokenmap (λ e. cc e), entries meta.Schema);
        ring_second = t 2;
        ring_is = put_stands before (Meta f n meta.Tokenmap) (has.meta meta.Tokenmap) ring (t 2)
            (Stores (at before (Entry f n index.Tokenmap)) ring (t 3)
            ∷ Stores (at before (Entry f n (index.Started (t 0)))) [] (t 4) ∷ [])
            (made (Stores (at before (Meta f n meta.Schema)) schema (t 0)) c)
            (entries meta.Tokenmap);
        mode_is = sym (ap is_some
            (untouched (NotAt before (Meta f n meta.Differential))
            (changes_of_claim before f n false schema ring t) c
            (at before (Meta f n meta.Differential)) (
              other_meta meta.Differential meta.Schema (λ e. cc e),
              (other_meta meta.Differential meta.Tokenmap (λ e. cc e), entries meta.Differential),
            ) (λ never. never (has.meta meta.Differential))
            ∙ none meta.Differential));
      }

-- a claim that was done
pub record IsClaimDone (before f n : List ℕ) (d : Bool) (schema ring : List ℕ) (c : Content)
    (xs : List Effect) : Type 0
  where
    pub node : IsFqdn f
    pub name : IsBackupName n
    pub free : IsFree before c f n
    pub none : (kind : MetaKind) → get c (meta_path before f n kind) ≡ None
    pub claimed : IsClaimedAt before f n d schema ring c (applied xs c) xs

pub claim_section : (before f n : List ℕ) (d : Bool) (schema ring : List ℕ) (c : Content)
    (running : Running) (e : Event) → IsSection before (node_part before e.node c) running e
    → e.node ≡ f → e.call ≡ Claim n d schema ring → e.ending ≡ Done
    → IsClaimDone before f n d schema ring c (effects e)
claim_section before f n d schema ring c running e section node_is call_is ending_is =
    let (so, changes_are) =
    done_section before c running e f (Claim n d schema ring) section node_is call_is ending_is in
    let (idle, free_there, (t, fit, list)) = so.ends in
    let free : IsFree before c f n = sym (under_part before f so.node n c) ∙ free_there in
    let none : (kind : MetaKind) → get c (meta_path before f n kind) ≡ None =
    λ kind. free_under (backup_folder before f n) c (meta_path before f n kind) free
    (meta_under before f n kind) in
    record {
      node = so.node;
      name = so.asked;
      free = free;
      none = none;
      claimed = subst (λ (xs : List Effect). IsClaimedAt before f n d schema ring c (applied xs c) xs)
          (sym (changes_are ∙ list))
          (claimed_at before f n schema ring t fit (name_by_kind before f n so.node so.asked) c none
          d);
    }

-- ---- the finish

-- the kind is that of the manifest or an entry of the backup, or tells of the latest one
abbrev pub IsOfEnd : (f n : List ℕ) → Kind → Type 0
IsOfEnd f n (Meta g m kind) = (g ≡ f) × (m ≡ n) × (kind ≡ meta.Manifest)
IsOfEnd f n (Entry g m kind) = (g ≡ f) × (m ≡ n)
IsOfEnd f n (Latest g kind) = g ≡ f
IsOfEnd f n _ = ⊥

-- the file of the record stands as recorded
abbrev pub IsStored : Content → FileRecord → Type 0
IsStored c r = is_stored_as r.fingerprint (get c r.path) ≡ true

-- a look at records whose files stand changes nothing
pub checked_kept : (before f n : List ℕ) (d : Bool) (fresh : Fresh) (c : Content)
    (rs : List FileRecord) → AllByRecursion (IsStored c) rs
    → checked before f n d fresh c rs ≡ record { changes = []; files = rs }
checked_kept before f n d fresh c [] stored = refl
checked_kept before f n d fresh c (r ∷ rs) stored =
    ap (λ (kept : Bool). if kept then with_record r (checked before f n d fresh c rs)
    else with_placing (placed_again before f n d fresh c r)
    (checked before f n d fresh (applied (placed_again before f n d fresh c r).changes c) rs))
    stored.0
    ∙ ap (with_record r) (checked_kept before f n d fresh c rs stored.1)

-- what stands behind the finish
pub record IsFinishedAt (before f n : List ℕ) (files : List FileRecord) (c : Content)
    (xs : List Effect) : Type 0
  where
    pub of_end : AreAt (λ q. IsOfEnd f n (kind_of before q)) xs
    pub second : ℕ
    pub stands : get (applied xs c) (meta_path before f n meta.Manifest)
        ≡ Some (record { bytes = manifest_text files; second = second })
    pub names : IsManifest before f n (manifest_text files) files

module _ (before f n : List ℕ) (has : NameByKind before f n) (node : IsFqdn f)
    (files : List FileRecord) (t u : ℕ → ℕ) (fit : t 0 < 2 ^ 64) (c e : Content)
    (names : IsManifest before f n (manifest_text files) files) where
  latest_at : (P : Kind → Type 0) → ((kind : LatestKind) → P (Latest f kind))
      → AreAt (λ q. P (kind_of before q)) (changes_of_mend before c f [] u)
  latest_at P holds =
      mend_all (λ (x : Effect). P (kind_of before (target x))) before c f [] u
      (λ kind b s. subst P (sym ((node_by_kind before f node).latest kind)) (holds kind))
      (λ kind. subst P (sym ((node_by_kind before f node).latest kind)) (holds kind))

  pub finished_at : IsFinishedAt before f n files e
      (manifest_puts before f n (manifest_text files) t ++ changes_of_mend before c f [] u)
  finished_at = record {
    of_end = (
      subst (IsOfEnd f n) (sym (has.meta meta.Manifest)) (refl, refl, refl),
      (
        subst (IsOfEnd f n) (sym (has.entry index.Manifest tt)) (refl, refl),
        (
          subst (IsOfEnd f n) (sym (has.entry (index.Finished (t 0)) fit)) (refl, refl),
          latest_at (IsOfEnd f n) (λ kind. refl),
        ),
      ),
    );
    second = t 0;
    stands = put_stands before (Meta f n meta.Manifest) (has.meta meta.Manifest)
        (manifest_text files) (t 0)
        (Stores (at before (Entry f n index.Manifest)) (manifest_text files) (t 1)
        ∷ Stores (at before (Entry f n (index.Finished (t 0)))) [] (t 2)
        ∷ changes_of_mend before c f [] u) e (
          not_at before (Meta f n meta.Manifest) (Entry f n index.Manifest)
              (has.entry index.Manifest tt) (λ is. cc is),
          (
            not_at before (Meta f n meta.Manifest) (Entry f n (index.Finished (t 0)))
                (has.entry (index.Finished (t 0)) fit) (λ is. cc is),
            latest_at (λ k. k ≡ Meta f n meta.Manifest → ⊥) (λ kind is. cc is),
          ),
        );
    names = names;
  }

-- the files of a node's backup are its own
owned_files : (before f n : List ℕ) → NameByKind before f n → (c d : Content)
    → ((q : List ℕ) → is_owned f (kind_of before q) ≡ true → get d q ≡ get c q)
    → (rs : List FileRecord)
    → AllByRecursion (λ (r : FileRecord). IsKey r.key × IsPathOf before f n r.key r.path) rs
    → AllByRecursion (IsStored c) rs → AllByRecursion (IsStored d) rs
owned_files before f n has c d agree [] paths stored = tt
owned_files before f n has c d agree (r ∷ rs) paths stored = (
  ap (is_stored_as r.fingerprint) (agree r.path
      (go (file_by_kind before f n r (has.meta meta.Manifest) paths.0.0 paths.0.1)))
      ∙ stored.0,
  owned_files before f n has c d agree rs paths.1 stored.1,
)
  where
    go : IsFileOf before f n r → is_owned f (kind_of before r.path) ≡ true
    go (inl is) = ap (is_owned f) is ∙ same_itself f
    go (inr is) = ap (is_owned f) is ∙ same_itself f

pub finish_section : (before f n : List ℕ) (d : Bool) (c : Content) (running : Running) (e : Event)
    (looked : List FileRecord) → IsSection before (node_part before e.node c) running e
    → e.node ≡ f → e.call ≡ Finish n d looked → e.ending ≡ Done
    → AllByRecursion (IsStored c) looked → IsFinishedAt before f n looked c (effects e)
finish_section before f n d c running e looked section node_is call_is ending_is stored =
    let (so, changes_are) =
    done_section before c running e f (Finish n d looked) section node_is call_is ending_is in
    let (fresh, t, u, fit, names, list) = so.ends in
    let has = name_by_kind before f n so.node so.asked.0 in
    let kept : checked before f n d fresh (node_part before f c) looked
    ≡ record { changes = []; files = looked } =
    checked_kept before f n d fresh (node_part before f c) looked
    (owned_files before f n has c (node_part before f c) (over_part before f c) looked so.asked.3
    stored) in
    let end : Content =
    applied (manifest_puts before f n (manifest_text looked) t) (node_part before f c) in
    subst (λ (xs : List Effect). IsFinishedAt before f n looked c xs)
    (sym (changes_are ∙ list
    ∙ ap (λ (x : Checked). changes_of_finish before f n (node_part before f c) x
    (manifest_text x.files) t u) kept))
    (finished_at before f n has so.node looked t u fit end c
    (subst (λ (x : Checked). IsManifest before f n (manifest_text x.files) x.files) kept names))
