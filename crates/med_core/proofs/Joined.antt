-- The definitions of the laws and those by kinds say the same.
use Rattle.std.proofs.Common.{◌↔◌, ◌+◌, ◌≡◌, ◌≢◌, ℕ, true, List, [], ◌∷◌, ◌++◌, map, Some, None, refl, sym, ◌∙◌, ap, subst, inl, inr, All, Contains, append_assoc, codes}
use Rattle.std.specs.Cmp.{tied_itself}
use Rattle.std.specs.List.{AllByRecursion}
use Rattle.std.specs.declared.cmp.Ordering.TheVariants.{Less, Equal}
use Rattle.std.proofs.lemmas.List.Elements.{All-from_recursion, recursion_from_All}
use Rattle.std.specs.FinMap as fin
use Rattle.med_base.specs.declared.layout.MetaKind.TheVariants as meta_kind
use Rattle.med_base.proofs.Folders.{free_under, is_under-append}
use Rattle.med_base.specs.Classify.{kind_of}
use Rattle.med_base.specs.Content.{Content, is_under}
use Rattle.med_base.specs.Effects.{Effect, applied, made}
use Rattle.med_base.specs.Key.{AreRising, IsKey, key_cmp}
use Rattle.med_base.specs.KeyOrder.{key_total}
use Rattle.med_base.specs.Kinds.{Entry, IsBackupName, IsFqdn, Kind, Latest, Meta, Other, Own, Shared, Stray}
use Rattle.med_base.specs.Layout.{backup_folder, meta_file, meta_path}
use Rattle.med_base.specs.Part.{node_part}
use Rattle.med_base.specs.declared.key.FileKey.{FileKey}
use Rattle.med_base.specs.declared.layout.MetaKind.{MetaKind}
use Rattle.med_core.proofs.Afters.{leaves_after}
use Rattle.med_core.proofs.Indexes.{exact_part, exact_whole, stays_exact}
use Rattle.med_core.proofs.Law.{run_safe, section_end, section_safe}
use Rattle.med_core.proofs.Parts.{begun_agrees, part_agrees, run_of_parts}
use Rattle.med_core.proofs.Removals.{counts_bytes, counts_files, removal_is_after}
use Rattle.med_core.proofs.SafeByKind.{AreApart, SafeAlongByKind, SafeByKind}
use Rattle.med_core.proofs.Sections.{BegunByKind, FreeByKind, FrontByKind, HasNamed, IsUnder, ListByKind, LookByKind, RunOfParts, SafeThroughByKind, SectionByKind, part, part_same}
use Rattle.med_core.proofs.Stores.{other_part, section_part}
use Rattle.med_core.proofs.Totals.{front_total}
use Rattle.med_core.specs.After.{IsAfter, content_after}
use Rattle.med_core.specs.Counts.{as_bytes, as_file, removed_bytes, removed_files, weighed}
use Rattle.med_core.specs.Exact.{IsBegunWell}
use Rattle.med_core.specs.Finish.{checked}
use Rattle.med_core.specs.Outside.{AreNamedOutside}
use Rattle.med_core.specs.Reach.{AreWithin}
use Rattle.med_core.specs.Removal.{changes_of_removal}
use Rattle.med_core.specs.Run.{IsRun, effects, next_content, next_running}
use Rattle.med_core.specs.Safe.{AreIndexesSound, AreUnfinished, IsSafe, IsSafeAlong, IsSafeThrough, IsWholeBackup, RunsIn, RunsThrough, kept_after, kept_after_all}
use Rattle.med_core.specs.Section.{Abandon, Call, Claim, Done, Ending, EndsSo, Event, Finish, Halted, IsAsked, IsBegunList, IsFree, IsListOf, IsLookOf, IsSection, Place, Rebuild, Refused, Remove, Running, Stopped, Unsure}
use Rattle.med_manifest.proofs.ByKind.{IsFileOf, IsProper, KeyByKind, NameByKind, StoredByPath, Text, WholeByKind, at, file_by_kind, key_by_kind, name_by_kind, node_by_kind, only}
use Rattle.med_manifest.proofs.IndexByKind.{rebuild_same}
use Rattle.med_manifest.proofs.IndexJoined.{exact_kind, finished_kind, kind_exact, kind_finished, kind_sound, meta_has, names_of, sound_kind}
use Rattle.med_manifest.proofs.Members.{contains_nothing}
use Rattle.med_manifest.specs.Index.{IsIndexExact, given}
use Rattle.med_manifest.specs.Manifest.{IsPathOf}
use Rattle.med_manifest.specs.Mend.{changes_of_mend}
use Rattle.med_manifest.specs.Named.{named}
use Rattle.med_manifest.specs.Whole.{AreStored}
use Rattle.med_manifest.specs.Written.{manifest_text}
use Rattle.med_manifest.specs.declared.manifest.FileRecord.{FileRecord}

-- ---- whole backups

stored_kinds : (before : Text) (c : Content) (L : List FileRecord) → AreStored c L
    → AllByRecursion (StoredByPath before c) L
stored_kinds before c [] h = tt
stored_kinds before c (r ∷ rs) h = (
  (h.0.object, h.0.stands, h.0.print_is),
  stored_kinds before c rs
      h.1,
)

kinds_stored : (before : Text) (c : Content) (L : List FileRecord)
    → AllByRecursion (StoredByPath before c) L → AreStored c L
kinds_stored before c [] h = tt
kinds_stored before c (r ∷ rs) ((o, stands, is), h) = (
  record {
    object = o;
    stands = stands;
    print_is = is;
  },
  kinds_stored before c rs h,
)

pub whole_kind : (before : Text) (c : Content) (f n : Text) → IsWholeBackup before c f n
    → WholeByKind before c f n
whole_kind before c f n w =
    let at_names = meta_has before f n meta_kind.Manifest w.node w.name in
    let m = w.whole.manifest in (
      m.object,
      w.whole.files,
      record {
        stands = (at_names, m.stands);
        reads = (at_names, m.names);
        stored = All-from_recursion (StoredByPath before c) w.whole.files
            (stored_kinds before c w.whole.files w.whole.stored);
      },
    )

pub kind_whole : (before : Text) (c : Content) (f n : Text) → WholeByKind before c f n
    → IsWholeBackup before c f n
kind_whole before c f n (o, L, by) =
    let names = names_of before f n by.stands.0 in
    record {
      node = names.0;
      name = names.1;
      whole = record {
        files = L;
        manifest = record { object = o; stands = by.stands.1; names = by.reads.1 };
        stored = kinds_stored before c L (recursion_from_All (StoredByPath before c) L by.stored);
      };
    }

-- ---- calls

pub names_kind : (before f : Text) → IsFqdn f → (names : List Text) → AllByRecursion IsBackupName
    names → All (NameByKind before f) names
names_kind before f node names h = All-from_recursion (NameByKind before f) names (each names h)
  where
    each : (ns : List Text) → AllByRecursion IsBackupName ns → AllByRecursion (NameByKind before f)
        ns
    each [] h = tt
    each (n ∷ ns) h = (name_by_kind before f n node h.0, each ns h.1)

less_apart : (k : FileKey) (rs : List FileRecord) → AllByRecursion (λ j. key_cmp k j ≡ Less)
    (map (λ (r : FileRecord). r.key) rs) → AllByRecursion (λ (r : FileRecord). r.key ≢ k) rs
less_apart k [] h = tt
less_apart k (r ∷ rs) h = (
  λ e. absurd_less (subst (λ x. key_cmp k x ≡ Less) e h.0),
  less_apart k rs
      h.1,
)
  where
    absurd_less : key_cmp k k ≡ Less → ⊥
    absurd_less less = let tied : key_cmp k k ≡ Equal = tied_itself key_total k in cc

pub rising_apart : (rs : List FileRecord) → AreRising (map (λ (r : FileRecord). r.key) rs)
    → AreApart rs
rising_apart [] h = tt
rising_apart (r ∷ rs) h = (
  All-from_recursion (λ (q : FileRecord). q.key ≢ r.key) rs
      (less_apart r.key rs h.0),
  rising_apart rs h.1,
)

abbrev pub IsRecord : Text → Text → Text → FileRecord → Type 0
IsRecord before f n r = IsKey r.key × IsPathOf before f n r.key r.path

pub records_keyed : (before f n : Text) → IsFqdn f → IsBackupName n → (rs : List FileRecord)
    → AllByRecursion (IsRecord before f n) rs → AllByRecursion (λ (q : FileRecord). KeyByKind before
    f n q.key) rs
records_keyed before f n node name [] h = tt
records_keyed before f n node name (r ∷ rs) h = (
  key_by_kind before f n r.key node name h.0.0,
  records_keyed before f n node name rs h.1,
)

pub records_files : (before f n : Text) → IsFqdn f → IsBackupName n → (rs : List FileRecord)
    → AllByRecursion (IsRecord before f n) rs → AllByRecursion (IsFileOf before f n) rs
records_files before f n node name [] h = tt
records_files before f n node name (r ∷ rs) h = (
  file_by_kind before f n r (meta_has before f n meta_kind.Manifest node name) h.0.0 h.0.1,
  records_files before f n node name rs h.1,
)

meta_under : (before f n : Text) (e : MetaKind) → is_under (backup_folder before f n)
    (meta_path before f n e) ≡ true
meta_under before f n e = ap (is_under (backup_folder before f n)) (simp append_assoc)
    ∙ is_under-append (backup_folder before f n) (codes "meta/" ++ meta_file e)

pub free_kind : (before : Text) (c : Content) (f n : Text) → IsFqdn f → IsFree before c f n
    → FreeByKind before c f n
free_kind before c f n node free p o stands u = go (kind_of before p) refl u
  where
    go : (k : Kind) → kind_of before p ≡ k → IsUnder f n k → ⊥
    go (Meta g m e) is (a, b) =
        let here : p ≡ at before (Meta g m e) = only before p (subst IsProper (sym is) tt)
        ∙ ap (at before) is in
        let there : p ≡ meta_path before f n e = here ∙ (λ i. meta_path before (a i) (b i) e) in
        let none : fin.get c (meta_path before f n e) ≡ None = free_under (backup_folder before f n)
        c (meta_path before f n e) free (meta_under before f n e) in
        let some : fin.get c (meta_path before f n e) ≡ Some o = ap (fin.get c) (sym there)
        ∙ stands in
        cc
    go (Shared g k) is h = h
    go (Own g m k) is h = h
    go (Entry g m e) is h = h
    go (Latest g e) is h = h
    go (Stray g m) is h = h
    go Other is h = h

pub named_kind : (before : Text) (c : Content) (f : Text) (names named : List Text)
    → AreNamedOutside before c f names named → HasNamed before c f names named
named_kind before c f names named are = record {
  all = λ n o (h, stands) out L (_, reads) r among. (are r.path).1 (record {
    n = n;
    name = (names_of before f n h).1;
    outside = out;
    files = L;
    manifest = record { object = o; stands = stands; names = reads };
    file = r;
    among = among;
    here = refl;
  });
}

pub list_kind : (before : Text) (c : Content) (r : Running) (f : Text) → IsFqdn f → (call : Call)
    → IsAsked before r f call → (xs : List Effect) → IsListOf before c r f call xs
    → ListByKind before c r f call xs
list_kind before c r f node (Claim n d schema ring) name xs (idle, free, more) =
    (name_by_kind before f n node name, idle, free_kind before c f n node free, more)
list_kind before c r f node (Place n d k b) (name, runs, key) xs more =
    (key_by_kind before f n k node name key, runs, more)
list_kind before c r f node (Finish n d records) (name, runs, rising, are) xs (
  fresh,
  t,
  u,
  fits,
  reads,
  is,
) = (
  node_by_kind before f node,
  name_by_kind before f n node name,
  runs,
  rising_apart records rising,
  All-from_recursion (λ (q : FileRecord). KeyByKind before f n q.key) records
      (records_keyed before f n node name records are),
  All-from_recursion (IsFileOf before f n) records (records_files before f n node name records are),
  (
    fresh,
    manifest_text (checked before f n d fresh c records).files,
    t,
    u,
    fits,
    (meta_has before f n meta_kind.Manifest node name, reads),
    is,
  ),
)
list_kind before c r f node (Abandon n) asked xs is = is
list_kind before c r f node (Remove names grace now) (are, order) xs (
  idle,
  read,
  (named, t, has_named, is),
) = (
  node_by_kind before f node,
  names_kind before f node names are,
  All-from_recursion (λ n. ¬ (Contains r (f, n))) names idle,
  (named, t, named_kind before c f names named has_named, is),
)
list_kind before c r f node Rebuild asked xs (read, (G, t, u, given, is)) =
    (node_by_kind before f node, (G, t, u, given, is ∙ rebuild_same before c f G t u))

look_kind : (before : Text) (c : Content) (r : Running) (f : Text) → IsFqdn f → (call : Call)
    → IsAsked before r f call → (xs : List Effect) → IsLookOf before c f call xs
    → LookByKind before c r f call xs
look_kind before c r f node (Finish n d records) (name, runs, rising, are) xs (fresh, is) = (
  runs,
  rising_apart records rising,
  All-from_recursion (λ (q : FileRecord). KeyByKind before f n q.key) records
      (records_keyed before f n node name records are),
  All-from_recursion (IsFileOf before f n) records (records_files before f n node name records are),
  (fresh, is),
)
look_kind before c r f node (Claim n d schema ring) asked xs h = absurd h
look_kind before c r f node (Place n d k b) asked xs h = absurd h
look_kind before c r f node (Abandon n) asked xs h = absurd h
look_kind before c r f node (Remove names grace now) asked xs h = absurd h
look_kind before c r f node Rebuild asked xs h = absurd h

pub front_kind : (before : Text) (c : Content) (r : Running) (f : Text) → IsFqdn f → (call : Call)
    → IsAsked before r f call → (xs : List Effect) → IsBegunList before c r f call xs
    → FrontByKind before c r f call xs
front_kind before c r f node call asked xs (inl h) = inl (list_kind before c r f node call asked xs h)
front_kind before c r f node call asked xs (inr h) = inr (look_kind before c r f node call asked xs h)

pub section_kind : (before : Text) (c : Content) (r : Running) (e : Event) → IsSection before c r e
    → SectionByKind before c r e
section_kind before c r e s = go e.ending e.changes s.ends
  where
    list : (xs : List Effect) → IsListOf before c r e.node e.call xs → ListByKind before c r e.node
        e.call xs
    list xs h = list_kind before c r e.node s.node e.call s.asked xs h

    front : (xs : List Effect) → IsBegunList before c r e.node e.call xs
        → FrontByKind before c r e.node e.call xs
    front xs h = front_kind before c r e.node s.node e.call s.asked xs h

    go : (end : Ending) (xs : List Effect) → EndsSo before c r e.node e.call end xs
        → BegunByKind before c r e.node e.call end xs
    go Done xs h = list xs h
    go (Refused why) xs h = h.0
    go (Halted by) xs (inl none) = inl none
    go (Halted by) xs (inr (rest, left, h)) = inr (rest, front (xs ++ rest) h)
    go (Unsure x took) xs (rest, h) = (rest, front (xs ++ x ∷ rest) h)
    go Stopped xs (inl none) = inl none
    go Stopped xs (inr (rest, h)) = inr (rest, front (xs ++ rest) h)

pub run_kind : (before : Text) (es : List Event) (c : Content) (r : Running) → IsRun before c r es
    → RunOfParts before c r es
run_kind before [] c r h = tt
run_kind before (e ∷ es) c r h = (
  section_kind before (part before e.node c) r e (subst (λ d. IsSection before d r e)
      (part_same before e.node c) h.0),
  run_kind before es (next_content c e) (next_running r e)
      h.1,
)

-- ---- what is safe

pub kind_safe : (before : Text) (S : Type 0) (c : Content) (R W : Text → Text → Type 0)
    → SafeByKind before S c R W → IsSafe before S c R W
kind_safe before S c R W safe = record {
  whole = λ f n h. kind_whole before c f n (safe.whole f n h);
  unfinished = λ f n node name runs done. safe.unfinished f n runs (finished_kind before c f n node
      name done);
  sound = λ s f node. kind_sound before c f node (safe.sound s f);
}

pub kind_safe_along : (before : Text) (S : Type 0) (xs : List Effect) (c : Content) (R W : Text
    → Text → Type 0) → SafeAlongByKind before S c R W xs → IsSafeAlong before S c R W xs
kind_safe_along before S [] c R W safe = kind_safe before S c R W safe
kind_safe_along before S (x ∷ xs) c R W safe = (
  kind_safe before S c R W safe.0,
  kind_safe_along
      before S xs (made x c) R (kept_after before W x) safe.1,
)

pub kind_safe_through : (before : Text) (S : Type 0) (es : List Event) (c : Content) (r : Running)
    (W : Text → Text → Type 0) → SafeThroughByKind before S c r W es → IsSafeThrough before S c r W
    es
kind_safe_through before S [] c r W safe = kind_safe before S c (RunsIn r) W safe
kind_safe_through before S (e ∷ es) c r W safe = (
  kind_safe before S c (RunsIn r) W safe.0,
  kind_safe_along before S (effects e) c (RunsThrough r (next_running r e)) W safe.1,
  kind_safe_through before S es (next_content c e) (next_running r e) (kept_after_all before W
      (effects e)) safe.2,
)

pub kept_through : (before : Text) (c : Content) (es : List Event) → IsRun before c [] es
    → IsSafeThrough before (AreIndexesSound before c) c [] (IsWholeBackup before c) es
kept_through before c es run =
    kind_safe_through before (AreIndexesSound before c) es c [] (IsWholeBackup before c)
    (run_safe before (AreIndexesSound before c) es c [] (IsWholeBackup before c) (record {
      whole = λ f n h. whole_kind before c f n h;
      unfinished = λ f n h. absurd (contains_nothing (f, n) h);
      sound = λ s f. sound_kind before c f (s f);
    }) (run_of_parts before es c [] (run_kind before es c [] run)))

-- ---- one section

in_part : (before : Text) (c : Content) (r : Running) (e : Event) → IsSection before
    (node_part before e.node c) r e → SectionByKind before (part before e.node c) r e
in_part before c r e h = section_kind before (part before e.node c) r e
    (subst (λ d. IsSection before d r e) (part_same before e.node c) h)

module _ (before : Text) (c : Content) (r : Running) (e : Event) (idle : AreUnfinished before c r)
    (section : IsSection before (node_part before e.node c) r e)
  where
    safe_before : SafeByKind before (AreIndexesSound before c) c (RunsIn r) (IsWholeBackup before c)
    safe_before = record {
      whole = λ f n h. whole_kind before c f n h;
      unfinished = λ f n runs done.
          let names = names_of before f n done.1.0 in
          idle f n names.0 names.1 runs (kind_finished before c f n done);
      sound = λ s f. sound_kind before c f (s f);
    }

    over_all : SectionByKind before c r e
    over_all = begun_agrees before e.node (part before e.node c) c (part_agrees before e.node c) r
        e.call e.ending e.changes (in_part before c r e section)

    along : SafeAlongByKind before (AreIndexesSound before c) c (RunsThrough r (next_running r e))
        (IsWholeBackup before c) (effects e)
    along = section_safe before (AreIndexesSound before c) c r (IsWholeBackup before c) safe_before
        e over_all

    pub section_moments : IsSafeAlong before (AreIndexesSound before c) c
        (RunsThrough r (next_running r e)) (IsWholeBackup before c) (effects e)
    section_moments = kind_safe_along before (AreIndexesSound before c) (effects e) c
        (RunsThrough r (next_running r e)) (IsWholeBackup before c) along

    pub section_ends_safe : IsSafe before (AreIndexesSound before c) (next_content c e)
        (RunsIn (next_running r e)) (kept_after_all before (IsWholeBackup before c) (effects e))
    section_ends_safe = kind_safe before (AreIndexesSound before c) (next_content c e)
        (RunsIn (next_running r e)) (kept_after_all before (IsWholeBackup before c) (effects e))
        (section_end before (AreIndexesSound before c) c r (IsWholeBackup before c) e over_all
        along)

-- ---- the other laws

pub exact_stays : (before : Text) (c : Content) (r : Running) (f : Text) (call : Call)
    (xs : List Effect) → IsFqdn f → IsAsked before r f call → IsListOf before c r f call xs
    → IsBegunWell before c f call → IsIndexExact before c f → IsIndexExact before (applied xs c) f
exact_stays before c r f call xs node asked list well exact =
    kind_exact before (applied xs c) f node
    (stays_exact before c r f (node_by_kind before f node) call xs (list_kind before c r f node call
    asked xs list) well (exact_kind before c f exact))

pub part_is_as_exact : (before : Text) (c : Content) (f : Text) → IsFqdn f
    → (IsIndexExact before (node_part before f c) f) ↔ (IsIndexExact before c f)
part_is_as_exact before c f node = (to, from)
  where
    to : IsIndexExact before (node_part before f c) f → IsIndexExact before c f
    to exact = kind_exact before c f node (exact_whole before f (node_by_kind before f node) c
        (exact_kind before (part before f c) f
        (subst (λ d. IsIndexExact before d f) (part_same before f c) exact)))

    from : IsIndexExact before c f → IsIndexExact before (node_part before f c) f
    from exact = subst (λ d. IsIndexExact before d f) (sym (part_same before f c))
        (kind_exact before (part before f c) f node
        (exact_part before f (node_by_kind before f node) c (exact_kind before c f exact)))

pub leaves_by_filter : (before : Text) (c : Content) (f : Text) (names named : List Text)
    (grace now : ℕ) (t : ℕ → ℕ) → IsFqdn f → AllByRecursion IsBackupName names
    → applied (changes_of_removal before c f names named grace now t) c
    ≡ content_after before c f names named grace now t
leaves_by_filter before c f names named grace now t node are = leaves_after before c f names named
    grace now (node_by_kind before f node) (names_kind before f node names are) t

pub leaves_what_is_after : (before : Text) (c : Content) (f : Text) (names named : List Text)
    (grace now : ℕ) (t : ℕ → ℕ) → IsFqdn f → AllByRecursion IsBackupName names
    → AreNamedOutside before c f names named → IsAfter before c f names grace now
    (applied (changes_of_mend before c f names t) c)
    (applied (changes_of_removal before c f names named grace now t) c)
leaves_what_is_after before c f names named grace now t node are named_so = removal_is_after before
    c f names named grace now named_so (node_by_kind before f node) (names_kind before f node names
    are) t

pub files_counted : (before : Text) (c : Content) (f : Text) (names named : List Text)
    (grace now : ℕ) (t : ℕ → ℕ) → IsFqdn f
    → weighed (as_file before f)
    (applied (changes_of_removal before c f names named grace now t) c)
    + removed_files before f c (changes_of_removal before c f names named grace now t)
    ≡ weighed (as_file before f) c
files_counted before c f names named grace now t node =
    counts_files before c f names named grace now t (node_by_kind before f node)

pub bytes_counted : (before : Text) (c : Content) (f : Text) (names named : List Text)
    (grace now : ℕ) (t : ℕ → ℕ) → IsFqdn f
    → weighed (as_bytes before f)
    (applied (changes_of_removal before c f names named grace now t) c)
    + removed_bytes before f c (changes_of_removal before c f names named grace now t)
    ≡ weighed (as_bytes before f) c
bytes_counted before c f names named grace now t node =
    counts_bytes before c f names named grace now t (node_by_kind before f node)

pub lists_within : (before : Text) (c : Content) (r : Running) (f : Text) (call : Call)
    (xs : List Effect) → IsFqdn f → IsAsked before r f call → IsBegunList before c r f call xs
    → AreWithin before f call xs
lists_within before c r f call xs node asked list = front_total before c r f
    (node_by_kind before f node) call xs (front_kind before c r f node call asked xs list)

pub own_part_goes_on : (before : Text) (c : Content) (r : Running) (e : Event) → IsSection before
    (node_part before e.node c) r e → node_part before e.node (next_content c e)
    ≡ next_content (node_part before e.node c) e
own_part_goes_on before c r e h =
    part_same before e.node (next_content c e) ∙ section_part before r c e
    (node_by_kind before e.node h.node) (in_part before c r e h)
    ∙ ap (λ d. next_content d e) (sym (part_same before e.node c))

pub other_parts_stay : (before : Text) (c : Content) (r : Running) (e : Event) → IsSection before
    (node_part before e.node c) r e → (f : Text) → (e.node ≢ f) → node_part before f
    (next_content c e) ≡ node_part before f c
other_parts_stay before c r e h f apart =
    part_same before f (next_content c e) ∙ other_part before r c e
    (node_by_kind before e.node h.node) (in_part before c r e h) f apart
    ∙ sym (part_same before f c)
