-- What goes of a content is what is picked of a listing under the folder in which it lies.
use Rattle.std.proofs.Common.{◌≡◌, ◌∙◌, ◌++◌, ◌+◌, ◌*◌, ◌&&◌, ◌∷◌, [], ℕ, Bool, true, false, cond, List, Some, None, Bor, bytes_eq, codes, not, nat_lt, filter, map, refl, sym, ap, subst, append_assoc}
use Rattle.std.proofs.lemmas.Option.{same_Some}
use Rattle.std.specs.BTreeSet.{BTreeSet, contains}
use Rattle.std.specs.FinMap.{get, get-entries, entries, entries_sorted}
use Rattle.std.specs.List.{AllByRecursion}
use Rattle.med_base.specs.Classify.{kind_of}
use Rattle.med_base.specs.Content.{Content, Object, is_under}
use Rattle.med_base.specs.Kinds.{Kind, Shared, Own, Meta, Entry as IndexEntry, Latest, Stray, Other}
use Rattle.med_base.specs.Layout.{key_text, backup_folder, node_folder, own_path, shared_path}
use Rattle.med_base.specs.NameOrder.{name_cmp}
use Rattle.med_base.proofs.Folders.{is_under-append}
use Rattle.med_base.proofs.KindsLaw.{kinds_are_told}
use Rattle.med_core.specs.Reach.{MayRemove, Removing}
use Rattle.med_core.specs.Removal.{is_content_of, is_old, is_shared_of}
use Rattle.med_core.specs.Section.{Call}
use Rattle.med_manifest.proofs.Gets.{from_same}
use Rattle.med_manifest.proofs.Newest.{and_first, and_second}
use Rattle.med_outside.specs.Storage.{entry_of, listing}
use Rattle.med_outside.specs.declared.storage.Entry.{Entry}
use Rattle.med_index.proofs.EntryListing.{all_wanted}
use Rattle.med_index.proofs.Listings.{AreIn, all_in}
use Rattle.med_index.specs.Listed.{wanted}
use Rattle.med_removal.specs.declared.picking.Which.{Which}
use Rattle.med_removal.specs.declared.picking.Which.TheVariants.{Content as OfBackup, Old}
use Rattle.med_removal.specs.Picking.{Covers, IsEntryIn, Suits, may_go, picked, picked_of}

-- ---- the entries of a listing

abbrev Pair : Type 0
Pair = List ℕ × Object

entries_are : (c : Content) (test : List ℕ → Bool) (es : List Pair) → AreIn (entries c) es
    → AllByRecursion (IsEntryIn c) (map entry_of (filter (λ (e : Pair). test e.0) es))
entries_are c test [] are = tt
entries_are c test (e ∷ es) are = go (test e.0) refl (entries_are c test es are.1)
  where
    go : (b : Bool) → test e.0 ≡ b
        → AllByRecursion (IsEntryIn c) (map entry_of (filter (λ (d : Pair). test d.0) es))
        → AllByRecursion (IsEntryIn c) (map entry_of (filter (λ (d : Pair). test d.0) (e ∷ es)))
    go true p rest =
        rw p (
          record {
            object = e.1;
            stands = get-entries c e.0 ∙ are.0;
            second = refl;
            size = refl;
          },
          rest,
        )
    go false p rest = rw p rest

pub listed_in : (text : List ℕ) (c : Content) → AllByRecursion (IsEntryIn c) (listing text c)
listed_in text c = entries_are c (is_under text) (entries c) (all_in (entries c) (entries_sorted c))

-- ---- what is picked

module _ (before f : List ℕ) (c : Content) where
  content_wanted : (name : Bor (List ℕ)) (es : List Entry)
      → picked before f (OfBackup name) es ≡ wanted before (is_content_of f name.now) es
  content_wanted name [] = refl
  content_wanted name (e ∷ es) =
      ap (λ l. cond (is_content_of f name.now (kind_of before e.path)) (e.path ∷ l) l)
      (content_wanted name es)

  module _ (named : Bor (BTreeSet (List ℕ))) (grace now : ℕ) where
    abbrev isnt_kept : List ℕ → Bool
    isnt_kept path = not (contains name_cmp named.now path) && is_old (get c path) grace now

    old_wanted : (es : List Entry) → AllByRecursion (IsEntryIn c) es
        → picked before f (Old named grace now) es
        ≡ filter isnt_kept (wanted before (is_shared_of f) es)
    old_wanted [] all = refl
    old_wanted (e ∷ es) all =
        go (is_shared_of f (kind_of before e.path)) refl (old_wanted es all.1)
      where
        age_is : is_old (get c e.path) grace now ≡ nat_lt (e.second + 86400 * grace) now
        age_is =
            ap (λ o. is_old o grace now) all.0.stands
            ∙ ap (λ s. nat_lt (s + 86400 * grace) now) (sym all.0.second)

        kept_is : isnt_kept e.path
            ≡ (not (contains name_cmp named.now e.path)
            && nat_lt (e.second + 86400 * grace) now)
        kept_is = ap (λ b. not (contains name_cmp named.now e.path) && b) age_is

        go : (b : Bool) → is_shared_of f (kind_of before e.path) ≡ b
            → picked before f (Old named grace now) es
            ≡ filter isnt_kept (wanted before (is_shared_of f) es)
            → picked before f (Old named grace now) (e ∷ es)
            ≡ filter isnt_kept (wanted before (is_shared_of f) (e ∷ es))
        go false is rest = rw is rest
        go true is rest =
            rw is
            (ap (λ l. cond (not (contains name_cmp named.now e.path)
            && nat_lt (e.second + 86400 * grace) now) (e.path ∷ l) l) rest
            ∙ ap (λ b. cond b (e.path ∷ filter isnt_kept (wanted before (is_shared_of f) es))
            (filter isnt_kept (wanted before (is_shared_of f) es))) (sym kept_is))

  pub all_picked : (which : Which) (text : List ℕ) → Covers before f which text
      → picked before f which (listing text c) ≡ picked_of before c f which
  all_picked (OfBackup name) text covers =
      content_wanted name (listing text c)
      ∙ all_wanted before text (is_content_of f name.now) covers c
  all_picked (Old named grace now) text covers =
      old_wanted named grace now (listing text c) (listed_in text c)
      ∙ ap (filter (isnt_kept named grace now)) (all_wanted before text (is_shared_of f) covers c)

-- ---- where it lies

pub content_lies : (before f n path : List ℕ) (k : Kind) → kind_of before path ≡ k
    → is_content_of f n k ≡ true → is_under (backup_folder before f n) path ≡ true
content_lies before f n path (Own g m key) is test =
    let node = from_same g f (and_first (bytes_eq g f) (bytes_eq m n) test) in
    let name = from_same m n (and_second (bytes_eq g f) (bytes_eq m n) test) in
    let built = (kinds_are_told before path (Own f n key)).0
    (is ∙ (λ i. Own (node i) (name i) key)) in
    let same = same_Some (own_path before f n key) path built.built in
    let here : own_path before f n key ≡ backup_folder before f n ++ (codes "data/" ++ key_text key) =
    append_assoc (backup_folder before f n) (codes "data/") (key_text key) in
    ap (is_under (backup_folder before f n)) (sym same ∙ here)
    ∙ is_under-append (backup_folder before f n) (codes "data/" ++ key_text key)
content_lies before f n path (Stray g (Some m)) is test =
    let node = from_same g f (and_first (bytes_eq g f) (bytes_eq m n) test) in
    let name = from_same m n (and_second (bytes_eq g f) (bytes_eq m n) test) in
    let stray = (kinds_are_told before path (Stray f (Some n))).0
    (is ∙ (λ i. Stray (node i) (Some (name i)))) in
    let (more, rest) = stray.backup.1 in
    let here : path ≡ backup_folder before f n ++ more =
    stray.under ∙ ap (λ r. node_folder before f ++ r) rest ∙ simp append_assoc in
    ap (is_under (backup_folder before f n)) here
    ∙ is_under-append (backup_folder before f n) more
content_lies before f n path (Stray g None) is test = absurd (cc test)
content_lies before f n path (Shared g key) is test = absurd (cc test)
content_lies before f n path (Meta g m kind) is test = absurd (cc test)
content_lies before f n path (IndexEntry g m kind) is test = absurd (cc test)
content_lies before f n path (Latest g kind) is test = absurd (cc test)
content_lies before f n path Other is test = absurd (cc test)

pub shared_lies : (before f path : List ℕ) (k : Kind) → kind_of before path ≡ k
    → is_shared_of f k ≡ true → is_under (before ++ f ++ codes "/data/") path ≡ true
shared_lies before f path (Shared g key) is test =
    let node = from_same g f test in
    let built = (kinds_are_told before path (Shared f key)).0 (is ∙ (λ i. Shared (node i) key)) in
    let same = same_Some (shared_path before f key) path built.built in
    let here : shared_path before f key ≡ (before ++ f ++ codes "/data/") ++ key_text key =
    simp append_assoc in
    ap (is_under (before ++ f ++ codes "/data/")) (sym same ∙ here)
    ∙ is_under-append (before ++ f ++ codes "/data/") (key_text key)
shared_lies before f path (Own g m key) is test = absurd (cc test)
shared_lies before f path (Stray g m) is test = absurd (cc test)
shared_lies before f path (Meta g m kind) is test = absurd (cc test)
shared_lies before f path (IndexEntry g m kind) is test = absurd (cc test)
shared_lies before f path (Latest g kind) is test = absurd (cc test)
shared_lies before f path Other is test = absurd (cc test)

-- ---- a removal may remove it

pub may_remove : (f : List ℕ) (which : Which) (call : Call) (k : Kind) → Suits call which
    → may_go f which k ≡ true → MayRemove f call k
may_remove f (OfBackup name) call (Own g m key) suits test = (
  from_same g f (and_first (bytes_eq g f) (bytes_eq m name.now) test),
  subst (Removing call)
      (sym (from_same m name.now (and_second (bytes_eq g f) (bytes_eq m name.now) test))) suits,
)
may_remove f (OfBackup name) call (Stray g (Some m)) suits test = (
  from_same g f (and_first (bytes_eq g f) (bytes_eq m name.now) test),
  subst (Removing call)
      (sym (from_same m name.now (and_second (bytes_eq g f) (bytes_eq m name.now) test))) suits,
)
may_remove f (OfBackup name) call (Stray g None) suits test = absurd (cc test)
may_remove f (OfBackup name) call (Shared g key) suits test = absurd (cc test)
may_remove f (OfBackup name) call (Meta g m kind) suits test = absurd (cc test)
may_remove f (OfBackup name) call (IndexEntry g m kind) suits test = absurd (cc test)
may_remove f (OfBackup name) call (Latest g kind) suits test = absurd (cc test)
may_remove f (OfBackup name) call Other suits test = absurd (cc test)
may_remove f (Old named grace now) call (Shared g key) suits test = from_same g f test
may_remove f (Old named grace now) call (Own g m key) suits test = absurd (cc test)
may_remove f (Old named grace now) call (Stray g m) suits test = absurd (cc test)
may_remove f (Old named grace now) call (Meta g m kind) suits test = absurd (cc test)
may_remove f (Old named grace now) call (IndexEntry g m kind) suits test = absurd (cc test)
may_remove f (Old named grace now) call (Latest g kind) suits test = absurd (cc test)
may_remove f (Old named grace now) call Other suits test = absurd (cc test)
