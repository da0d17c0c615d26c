-- A section over a content is one over the part of its node.
use Rattle.std.proofs.Common.{◌≡◌, ◌∙◌, ◌&&◌, ℕ, Bool, true, false, cond, filter, List, [], ◌∷◌, ◌++◌, Some, option_map, refl, sym, ap, subst, inl, inr, append_assoc, codes, bytes_eq}
use Rattle.std.proofs.lemmas.Bool.{eqb-true}
use Rattle.std.proofs.lemmas.List.Elements.{All-from_recursion}
use Rattle.std.specs.FinMap.{entries, keys}
use Rattle.std.specs.List.{AllByRecursion}
use Rattle.std.specs.Option.{option_eq}
use Rattle.med_base.specs.Content.{Content, Object, is_under, objects_under}
use Rattle.med_base.specs.Effects.{Effect, applied}
use Rattle.med_base.specs.declared.layout.MetaKind.TheVariants as meta_kind
use Rattle.med_base.specs.Classify.{kind_of}
use Rattle.med_base.specs.Kinds.{Entry, IsFqdn, Kind, Latest, Meta, Other, Own, Shared, Stray}
use Rattle.med_base.specs.Layout.{backup_folder}
use Rattle.med_base.specs.Part.{owner_of, lies_under, node_part}
use Rattle.med_base.proofs.Owners.{owners_are_told}
use Rattle.med_base.proofs.Parts.{entries-part_of}
use Rattle.med_manifest.specs.declared.manifest.FileRecord.{FileRecord}
use Rattle.med_manifest.specs.Manifest.{IsManifest}
use Rattle.med_manifest.specs.Index.{IsGiven}
use Rattle.med_manifest.specs.Listed.{paths_of}
use Rattle.med_manifest.specs.Mend.{is_manifest_outside, name_in}
use Rattle.med_manifest.specs.Reads.{DoAllRead, DoesRead, IsFirstUnread}
use Rattle.med_manifest.specs.Vault.{IsBackup}
use Rattle.med_manifest.specs.Whole.{HasManifest}
use Rattle.med_manifest.specs.Written.{manifest_text}
use Rattle.med_manifest.proofs.ByKind.{HasPath, IsFileOf, IsProper, KeyByKind, Text, at, key_by_kind, node_by_kind, only}
use Rattle.med_manifest.proofs.Gets.{from_same, same_itself}
use Rattle.med_manifest.proofs.IndexByKind.{IsGivenAs, pairs, rebuild_same}
use Rattle.med_manifest.proofs.IndexJoined.{meta_has}
use Rattle.med_manifest.proofs.Members.{IsListed, all_listed}
use Rattle.med_manifest.proofs.Rebuilds.{pairs_given, rebuild_is}
use Rattle.med_core.specs.Finish.{Checked, checked, changes_of_finish, manifest_puts}
use Rattle.med_core.specs.Outside.{IsNamedOutside}
use Rattle.med_core.specs.Section.{Abandon, Call, Claim, Done, Ending, EndsSo, Event, Finish, Halted, IsAsked, IsBegunList, IsListOf, IsLookOf, IsRefusedFor, IsRunning, IsTaken, HasBadManifest, IsNoBackup, IsSection, Place, Rebuild, Refusal, Refused, Remove, Running, Stopped, Unsure}
use Rattle.med_core.proofs.Joined.{names_kind, records_files, records_keyed}
use Rattle.med_core.proofs.Parts.{Agree, agree_applied, and_first, at_agrees, candidate_owned, checked_agrees, map_agrees, mend_agrees, mine, part_agrees, paths_agree, placing_agrees, rebuild_agrees, remove_agrees}
use Rattle.med_core.proofs.Sections.{part_same}

-- ---- what lies under a folder

both : (a b : Bool) → (a && b) ≡ true → (a ≡ true) × (b ≡ true)
both true b e = (refl, e)
both false b e = absurd (cc e)

filter_step : {X : Type 0} (p t : X → Bool) (x : X) (xs : List X) → (p x ≡ true → t x ≡ true)
    → filter p (filter t xs) ≡ filter p xs → (a b : Bool) → t x ≡ a → p x ≡ b
    → filter p (cond a (x ∷ filter t xs) (filter t xs)) ≡ cond b (x ∷ filter p xs) (filter p xs)
filter_step p t x xs so rest true true ta pb = rw pb (ap (λ l. x ∷ l) rest)
filter_step p t x xs so rest true false ta pb = rw pb rest
filter_step p t x xs so rest false true ta pb = let is = so pb in absurd (cc (ta, is))
filter_step p t x xs so rest false false ta pb = rest

-- a test that another one contains finds the same without the other
filter_within : {X : Type 0} (p t : X → Bool) → ((x : X) → p x ≡ true → t x ≡ true) → (xs : List X)
    → filter p (filter t xs) ≡ filter p xs
filter_within p t so [] = refl
filter_within p t so (x ∷ xs) =
    filter_step p t x xs (so x) (filter_within p t so xs) (t x) (p x) refl refl

under_rest : (text path : List ℕ) → is_under text path ≡ true
    → (rest : List ℕ) × (path ≡ text ++ rest)
under_rest [] path under = (path, refl)
under_rest (b ∷ text) [] under = absurd (cc under)
under_rest (b ∷ text) (x ∷ path) under =
    let (same, more) = both _ _ under in
    let (rest, is) = under_rest text path more in
    let first : b ≡ x = eqb-true _ _ same in
    (rest, λ i. sym first i ∷ is i)

-- ---- lists

all_to : {X : Type 0} (P Q : X → Type 0) → ((x : X) → P x → Q x) → (xs : List X)
    → AllByRecursion P xs → AllByRecursion Q xs
all_to P Q so [] all = tt
all_to P Q so (x ∷ xs) all = (so x all.0, all_to P Q so xs all.1)

all_with : {X : Type 0} (P Q R : X → Type 0) → ((x : X) → P x → Q x → R x) → (xs : List X)
    → AllByRecursion P xs → AllByRecursion Q xs → AllByRecursion R xs
all_with P Q R so [] a b = tt
all_with P Q R so (x ∷ xs) a b = (so x a.0 b.0, all_with P Q R so xs a.1 b.1)

-- of those before a place, and of the one there
all_before : {X : Type 0} (P : X → Type 0) (xs : List X) (x : X) (ys : List X)
    → AllByRecursion P (xs ++ x ∷ ys) → AllByRecursion P xs × P x
all_before P [] x ys all = (tt, all.0)
all_before P (y ∷ xs) x ys all =
    let (front, here) = all_before P xs x ys all.1 in ((all.0, front), here)

-- a path whose kind is that of a manifest of the node is the manifest's
manifest_has : (before f : Text) (names : List Text) (path : Text) (k : Kind)
    → kind_of before path ≡ k → is_manifest_outside f names k ≡ true
    → HasPath before (Meta f (name_in k) meta_kind.Manifest)
manifest_has before f names path (Meta g n meta_kind.Manifest) is test =
    let here : kind_of before path ≡ Meta f n meta_kind.Manifest =
    is ∙ ap (λ x. Meta x n meta_kind.Manifest)
    (from_same g f (and_first (bytes_eq g f) _ test)) in
    subst (λ q. kind_of before q ≡ Meta f n meta_kind.Manifest)
    (only before path (subst IsProper (sym here) tt) ∙ ap (at before) here) here
manifest_has before f names path (Meta g n meta_kind.Schema) is test = absurd (cc test)
manifest_has before f names path (Meta g n meta_kind.Differential) is test = absurd (cc test)
manifest_has before f names path (Meta g n meta_kind.Tokenmap) is test = absurd (cc test)
manifest_has before f names path (Shared g k) is test = absurd (cc test)
manifest_has before f names path (Own g n k) is test = absurd (cc test)
manifest_has before f names path (Entry g n e) is test = absurd (cc test)
manifest_has before f names path (Latest g e) is test = absurd (cc test)
manifest_has before f names path (Stray g n) is test = absurd (cc test)
manifest_has before f names path Other is test = absurd (cc test)

module _ (before f : Text) (node : IsFqdn f) where
  -- what lies in the folder of a backup belongs to its node
  owned_under : (n path : Text) → is_under (backup_folder before f n) path ≡ true
      → option_eq bytes_eq (owner_of before path) (Some f) ≡ true
  owned_under n path under =
      let (rest, is) = under_rest (backup_folder before f n) path under in
      let owned = (owners_are_told before path f).1
      (lies_under (n ++ (codes "/" ++ rest)) node (is ∙ simp append_assoc)) in
      ap (λ o. option_eq bytes_eq o (Some f)) owned ∙ same_itself f

  pub under_part : (n : Text) (c : Content)
      → objects_under (backup_folder before f n) (node_part before f c)
      ≡ objects_under (backup_folder before f n) c
  under_part n c =
      ap (filter (λ (e : List ℕ × Object). is_under (backup_folder before f n) e.0))
      (entries-part_of (λ path. option_eq bytes_eq (owner_of before path) (Some f)) c)
      ∙ filter_within (λ (e : List ℕ × Object). is_under (backup_folder before f n) e.0)
      (λ (e : List ℕ × Object). option_eq bytes_eq (owner_of before e.0) (Some f))
      (λ e under. owned_under n e.0 under) (entries c)

  module _ (c : Content) where
    agree : Agree before f c (node_part before f c)
    agree = subst (Agree before f c) (sym (part_same before f c))
        (λ path own. sym (part_agrees before f c path own))

    -- ---- manifests

    has_manifest : (d e : Content) → Agree before f d e → (n : Text)
        → HasPath before (Meta f n meta_kind.Manifest) → (files : List FileRecord)
        → HasManifest before f n d files → HasManifest before f n e files
    has_manifest d e same n has files m = record {
      object = m.object;
      stands = sym (at_agrees before f d e same (Meta f n meta_kind.Manifest) has (mine before f))
          ∙ m.stands;
      names = m.names;
    }

    back : Agree before f (node_part before f c) c
    back path own = sym (agree path own)

    abbrev manifests : List Text → List Text
    manifests names = paths_of before c (is_manifest_outside f names)

    same_manifests : (names : List Text)
        → manifests names ≡ paths_of before (node_part before f c) (is_manifest_outside f names)
    same_manifests names =
        paths_agree before f c (node_part before f c) agree (is_manifest_outside f names)
        (candidate_owned before f c (node_part before f c) agree names)

    -- the path is that of a manifest of the node
    abbrev IsOne : List Text → Text → Type 0
    IsOne names path = is_manifest_outside f names (kind_of before path) ≡ true

    all_ones : (names : List Text) → AllByRecursion (IsOne names) (manifests names)
    all_ones names =
        all_to (IsListed before c (is_manifest_outside f names)) (IsOne names)
        (λ path listed. listed.0) (manifests names)
        (all_listed before c (is_manifest_outside f names))

    reads_in : (d e : Content) → Agree before f d e → (names : List Text) (path : Text)
        → IsOne names path → DoesRead before d f path → DoesRead before e f path
    reads_in d e same names path one (files, m) = (
      files,
      has_manifest d e same (name_in (kind_of before path))
          (manifest_has before f names path (kind_of before path) refl one) files m,
    )

    all_read : (names : List Text) → DoAllRead before c f names
        → DoAllRead before (node_part before f c) f names
    all_read names read =
        subst (AllByRecursion (DoesRead before (node_part before f c) f)) (same_manifests names)
        (all_with (IsOne names) (DoesRead before c f) (DoesRead before (node_part before f c) f)
        (reads_in c (node_part before f c) agree names) (manifests names) (all_ones names) read)

    first_unread : (names : List Text) (path : Text) → IsFirstUnread before c f names path
        → IsFirstUnread before (node_part before f c) f names path
    first_unread names path u =
        let ones = subst (AllByRecursion (IsOne names)) u.paths (all_ones names) in
        let (front, one) = all_before (IsOne names) u.good path u.rest ones in
        record {
          good = u.good;
          rest = u.rest;
          paths = sym (same_manifests names) ∙ u.paths;
          read = all_with (IsOne names) (DoesRead before c f)
              (DoesRead before (node_part before f c) f)
              (reads_in c (node_part before f c) agree names) u.good front u.read;
          unread = λ read. u.unread (reads_in (node_part before f c) c back names path one read);
        }

    named_in : (d e : Content) → Agree before f d e → (names : List Text) (path : Text)
        → IsNamedOutside before d f names path → IsNamedOutside before e f names path
    named_in d e same names path o = record {
      n = o.n;
      name = o.name;
      outside = o.outside;
      files = o.files;
      manifest = has_manifest d e same o.n (meta_has before f o.n meta_kind.Manifest node o.name)
          o.files o.manifest;
      file = o.file;
      among = o.among;
      here = o.here;
    }

    backup_in : (n : Text) → IsBackup (node_part before f c) before f n → IsBackup c before f n
    backup_in n b = record {
      name = b.name;
      kind = b.kind;
      second = b.second;
      stands = ap (option_map (λ (o : Object). o.second))
          (at_agrees before f c (node_part before f c) agree (Meta f n b.kind)
          (meta_has before f n b.kind node b.name) (mine before f))
          ∙ b.stands;
    }

    -- ---- lists of changes

    -- the list of a call
    list_in_part : (r : Running) (call : Call) → IsAsked before r f call
        → (xs : List Effect) → IsListOf before c r f call xs
        → IsListOf before (node_part before f c) r f call xs
    list_in_part r (Claim n d schema ring) asked xs (idle, free, more) =
        (idle, under_part n c ∙ free, more)
    list_in_part r (Place n d k b) (name, runs, key) xs (t, is) = (
      t,
      is ∙ ap (λ y. y.changes)
          (placing_agrees before f c (node_part before f c) agree n d k
          (key_by_kind before f n k node name key).shared b t),
    )
    list_in_part r (Finish n d records) (name, runs, rising, are) xs (
      fresh,
      t,
      u,
      fits,
      reads,
      is,
    ) =
        let one : checked before f n d fresh c records
        ≡ checked before f n d fresh (node_part before f c) records =
        checked_agrees before f n d fresh records c (node_part before f c) agree
        (All-from_recursion (λ (q : FileRecord). KeyByKind before f n q.key) records
        (records_keyed before f n node name records are))
        (All-from_recursion (IsFileOf before f n) records
        (records_files before f n node name records are)) in
        let x = checked before f n d fresh c records in
        let puts = manifest_puts before f n (manifest_text x.files) t in (
          fresh,
          t,
          u,
          fits,
          subst (λ (y : Checked). IsManifest before f n (manifest_text y.files) y.files) one reads,
          is ∙ ap (λ (m : List Effect). x.changes ++ (puts ++ m))
              (mend_agrees before f (applied puts (applied x.changes c))
              (applied puts (applied x.changes (node_part before f c)))
              (agree_applied before f puts _ _ (agree_applied before f x.changes c
              (node_part before f c) agree)) (node_by_kind before f node) [] u)
              ∙ ap (λ (y : Checked). changes_of_finish before f n (node_part before f c) y
              (manifest_text y.files) t u) one,
        )
    list_in_part r (Abandon n) asked xs is = is
    list_in_part r (Remove names grace now) (are, order) xs (idle, read, (named, t, out, is)) = (
      idle,
      all_read names read,
      (
        named,
        t,
        λ path. (
          λ among. named_in c (node_part before f c) agree names path ((out path).0 among),
          λ outside. (out path).1 (named_in (node_part before f c) c back names path outside),
        ),
        is ∙ remove_agrees before f c (node_part before f c) agree names named grace now
            (names_kind before f node names are) t (node_by_kind before f node),
      ),
    )
    list_in_part r Rebuild asked xs (read, (entries, t, u, given, is)) =
        let by_kind = node_by_kind before f node in
        let there : IsGiven before (node_part before f c) f entries =
        λ path. given path ∙ map_agrees before f c (node_part before f c) agree path
        (kind_of before path) refl in
        let pairs_so = All-from_recursion (λ e. IsGivenAs before c f e.1 (kind_of before e.0))
        (pairs entries (keys entries)) (pairs_given before f c entries given (keys entries)) in (
          all_read [] read,
          (
            entries,
            t,
            u,
            there,
            is ∙ rebuild_same before c f entries t u
                ∙ rebuild_is before f by_kind c entries given t u
                ∙ rebuild_agrees before f c (node_part before f c) agree
                (pairs entries (keys entries)) t u by_kind pairs_so
                ∙ sym (rebuild_is before f by_kind (node_part before f c) entries there t u)
                ∙ sym (rebuild_same before (node_part before f c) f entries t u),
          ),
        )

    -- the look at the records of a finish
    look_in_part : (r : Running) (call : Call) → IsAsked before r f call
        → (xs : List Effect) → IsLookOf before c f call xs
        → IsLookOf before (node_part before f c) f call xs
    look_in_part r (Finish n d records) (name, runs, rising, are) xs (fresh, is) = (
      fresh,
      is ∙ ap (λ y. y.changes) (checked_agrees before f n d fresh records c (node_part before f c)
          agree (All-from_recursion (λ (q : FileRecord). KeyByKind before f n q.key) records
          (records_keyed before f n node name records are))
          (All-from_recursion (IsFileOf before f n) records
          (records_files before f n node name records are))),
    )
    look_in_part r (Claim n d schema ring) asked xs is = absurd is
    look_in_part r (Place n d k b) asked xs is = absurd is
    look_in_part r (Abandon n) asked xs is = absurd is
    look_in_part r (Remove names grace now) asked xs is = absurd is
    look_in_part r Rebuild asked xs is = absurd is

    begun_in_part : (r : Running) (call : Call) → IsAsked before r f call
        → (xs : List Effect) → IsBegunList before c r f call xs
        → IsBegunList before (node_part before f c) r f call xs
    begun_in_part r call asked xs (inl is) = inl (list_in_part r call asked xs is)
    begun_in_part r call asked xs (inr is) = inr (look_in_part r call asked xs is)

    -- why it makes no change
    refusal_in_part : (r : Running) (call : Call) (why : Refusal)
        → IsRefusedFor before c r f call why
        → IsRefusedFor before (node_part before f c) r f call why
    refusal_in_part r (Claim n d schema ring) IsRunning is = is
    refusal_in_part r (Claim n d schema ring) (IsTaken path) (idle, (o, rest, is)) =
        (idle, (o, rest, under_part n c ∙ is))
    refusal_in_part r (Claim n d schema ring) (HasBadManifest path) is = is
    refusal_in_part r (Claim n d schema ring) IsNoBackup is = is
    refusal_in_part r (Place n d k b) why is = is
    refusal_in_part r (Finish n d records) why is = is
    refusal_in_part r (Abandon n) why is = is
    refusal_in_part r (Remove names grace now) IsRunning is = is
    refusal_in_part r (Remove names grace now) (IsTaken path) is = is
    refusal_in_part r (Remove names grace now) IsNoBackup (idle, (n, one, none)) =
        (idle, (n, one, λ backup. none (backup_in n backup)))
    refusal_in_part r (Remove names grace now) (HasBadManifest path) (idle, bad) =
        (idle, first_unread names path bad)
    refusal_in_part r Rebuild (HasBadManifest path) bad = first_unread [] path bad
    refusal_in_part r Rebuild IsRunning is = is
    refusal_in_part r Rebuild (IsTaken path) is = is
    refusal_in_part r Rebuild IsNoBackup is = is

    ends_in_part : (r : Running) (call : Call) → IsAsked before r f call
        → (end : Ending) (xs : List Effect) → EndsSo before c r f call end xs
        → EndsSo before (node_part before f c) r f call end xs
    ends_in_part r call asked Done xs is = list_in_part r call asked xs is
    ends_in_part r call asked (Refused why) xs is = (is.0, refusal_in_part r call why is.1)
    ends_in_part r call asked (Halted by) xs (inl none) = inl none
    ends_in_part r call asked (Halted by) xs (inr (rest, left, is)) =
        inr (rest, left, begun_in_part r call asked (xs ++ rest) is)
    ends_in_part r call asked (Unsure x took) xs (rest, is) =
        (rest, begun_in_part r call asked (xs ++ x ∷ rest) is)
    ends_in_part r call asked Stopped xs (inl none) = inl none
    ends_in_part r call asked Stopped xs (inr (rest, is)) =
        inr (rest, begun_in_part r call asked (xs ++ rest) is)

-- a section over a content is one over the part of its node
pub section_in_part : (before : Text) (c : Content) (r : Running) (e : Event)
    → IsSection before c r e → IsSection before (node_part before e.node c) r e
section_in_part before c r e section = record {
  node = section.node;
  asked = section.asked;
  ends = ends_in_part before e.node section.node c r e.call section.asked e.ending e.changes
      section.ends;
}
