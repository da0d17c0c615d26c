-- The entries that an index has are those of a listing under its folder.
use Rattle.std.proofs.Common.{◌≡◌, ◌&&◌, ◌∙◌, ℕ, Bool, true, false, true≢false, List, [], ◌∷◌, ◌++◌, map, filter, Option, Some, None, IfSome, bytes_eq, refl, sym, ap, subst, append-nil}
use Rattle.std.proofs.lemmas.Option.{same_Some}
use Rattle.std.specs.FinMap.{entries}
use Rattle.std.specs.List.{AllByRecursion}
use Rattle.med_base.specs.declared.kinds.IndexKind.{IndexKind}
use Rattle.med_base.specs.Classify.{kind_of}
use Rattle.med_base.specs.Content.{Content, Object, is_under}
use Rattle.med_base.specs.Kinds.{Kind, Shared, Own, Meta, Entry as IndexEntry, Latest, Stray, Other}
use Rattle.med_base.specs.Layout.{entry_file, entry_path, index_folder}
use Rattle.med_base.proofs.Bools.{same_bytes}
use Rattle.med_base.proofs.Folders.{is_under-append}
use Rattle.med_base.proofs.KindsLaw.{kinds_are_told}
use Rattle.med_base.proofs.Parts.{entries-part_of}
use Rattle.med_manifest.specs.Listed.{paths_of}
use Rattle.med_manifest.specs.Rebuild.{is_entry_of}
use Rattle.med_outside.specs.Storage.{entry_of, listing}
use Rattle.med_index.specs.Listed.{AreKept, IsEntryOfBackup, IsKeeping, wanted}

abbrev Pair : Type 0
Pair = List ℕ × Object

-- ---- the wanted entries of a content lie in a listing

module _ (before text : List ℕ) (test : Kind → Bool)
    (lies : (path : List ℕ) → test (kind_of before path) ≡ true → is_under text path ≡ true)
  where
    wanted_of : (es : List Pair)
        → wanted before test (map entry_of (filter (λ (e : Pair). is_under text e.0) es))
        ≡ map (λ (e : Pair). e.0) (filter (λ (e : Pair). test (kind_of before e.0)) es)
    wanted_of [] = refl
    wanted_of (e ∷ es) =
        go (is_under text e.0) refl (test (kind_of before e.0)) refl (wanted_of es)
      where
        go : (a : Bool) → is_under text e.0 ≡ a → (b : Bool) → test (kind_of before e.0) ≡ b
            → wanted before test (map entry_of (filter (λ (d : Pair). is_under text d.0) es))
            ≡ map (λ (d : Pair). d.0) (filter (λ (d : Pair). test (kind_of before d.0)) es)
            → wanted before test (map entry_of (filter (λ (d : Pair). is_under text d.0) (e ∷ es)))
            ≡ map (λ (d : Pair). d.0) (filter (λ (d : Pair). test (kind_of before d.0)) (e ∷ es))
        go true p true q rest = rw (p, q) (ap (λ l. e.0 ∷ l) rest)
        go true p false q rest = rw (p, q) rest
        go false p true q rest = absurd (true≢false (sym (lies e.0 q) ∙ p))
        go false p false q rest = rw (p, q) rest

    pub all_wanted : (c : Content) → wanted before test (listing text c) ≡ paths_of before c test
    all_wanted c =
        wanted_of (entries c)
        ∙ sym (ap (map (λ (e : Pair). e.0)) (entries-part_of (λ p. test (kind_of before p)) c))

-- ---- an entry of a backup lies in the folder that the index has of the backup

both_of : (a b : Bool) → (a && b) ≡ true → (a ≡ true) × (b ≡ true)
both_of true b e = (refl, e)
both_of false b e = absurd (cc)

entry_by : (k : Kind) (f n : List ℕ) → is_entry_of f n k ≡ true
    → (kind : IndexKind) × (k ≡ IndexEntry f n kind)
entry_by (IndexEntry g m kind) f n e =
    let same = both_of (bytes_eq g f) (bytes_eq m n) e in
    let node = same_bytes g f same.0 in
    let name = same_bytes m n same.1 in (kind, λ i. IndexEntry (node i) (name i) kind)
entry_by (Shared g key) f n e = absurd (cc)
entry_by (Own g m key) f n e = absurd (cc)
entry_by (Meta g m kind) f n e = absurd (cc)
entry_by (Latest g kind) f n e = absurd (cc)
entry_by (Stray g m) f n e = absurd (cc)
entry_by Other f n e = absurd (cc)

-- a path of this kind is the one that the builder gives
pub entry_built : (before path f n : List ℕ) (kind : IndexKind)
    → kind_of before path ≡ IndexEntry f n kind → entry_path before f n kind ≡ path
entry_built before path f n kind is =
    let built = (kinds_are_told before path (IndexEntry f n kind)).0 is in
    same_Some (entry_path before f n kind) path built.built

lies_under : (before f n path : List ℕ) → is_entry_of f n (kind_of before path) ≡ true
    → is_under (index_folder before n) path ≡ true
lies_under before f n path e =
    let (kind, is) = entry_by (kind_of before path) f n e in
    ap (is_under (index_folder before n)) (sym (entry_built before path f n kind is))
    ∙ is_under-append (index_folder before n) (entry_file f kind)

-- ---- the paths that are kept of a listing

-- the paths at the end of the walk
pub kept_all : (told : Option Content) (before f n text node name : List ℕ)
    (none kept : List (List ℕ)) → text ≡ index_folder before n → none ≡ []
    → IsKeeping before f n node name kept
    → IfSome told (λ c. (g : List ℕ) → AreKept f n none before c (listing text c)
    → AreKept node name kept before c [])
    → IfSome told (λ c. kept ≡ paths_of before c (is_entry_of f n))
kept_all None before f n text node name none kept is empty same walked = tt
kept_all (Some c) before f n text node name none kept is empty same walked =
    let first : AreKept f n none before c (listing text c) =
    ap (λ l. l ++ wanted before (is_entry_of f n) (listing text c)) empty
    ∙ ap (λ t. wanted before (is_entry_of f n) (listing t c)) is
    ∙ all_wanted before (index_folder before n) (is_entry_of f n) (lies_under before f n) c in
    let last : AreKept f n kept before c [] =
    subst (λ m. AreKept f m kept before c []) same.name_is
    (subst (λ g. AreKept g name kept before c []) same.node_is (walked f first)) in
    sym (append-nil kept) ∙ last

-- nothing is kept at the start
pub keeping_none : (before f n : List ℕ) (none : List (List ℕ)) → none ≡ []
    → IsKeeping before f n f n none
keeping_none before f n none empty = record {
  node_is = refl;
  name_is = refl;
  paths = subst (AllByRecursion (IsEntryOfBackup before f n)) (sym empty) tt;
}
