-- No path goes twice with a removal of backups whose names are in byte order.
use Rattle.std.proofs.Common.{◌≡◌, ◌≢◌, ◌∙◌, ◌++◌, ◌<◌, ◌&&◌, ◌∷◌, [], ℕ, Bool, true, false, cond, List, Contains, Some, None, T, map, filter, bytes_eq, refl, sym, ap, subst, arith}
use Rattle.std.proofs.lemmas.List.Elements.{All-contains, All-from_recursion}
use Rattle.std.specs.Cmp.Lexicographic.{slice_cmp, nat_list_cmp_total}
use Rattle.std.specs.FinMap.{contains_key, entries, entries_sorted, retain_keys}
use Rattle.std.specs.FinMap.Entries.{is_sorted, below_all}
use Rattle.std.specs.List.{AllByRecursion, flat_map}
use Rattle.std.specs.Ordering.{nat_cmp, is_lt, ordering_reverse}
use Rattle.std.specs.declared.cmp.Ordering.{Ordering}
use Rattle.std.specs.declared.cmp.Ordering.TheVariants.{Less, Equal, Greater}
use Rattle.med_base.proofs.Lists.{all_append, all_with}
use Rattle.med_base.specs.declared.layout.MetaKind.{MetaKind}
use Rattle.med_base.specs.declared.layout.MetaKind.TheVariants as meta
use Rattle.med_base.specs.Classify.{kind_of}
use Rattle.med_base.specs.Content.{Content, Object}
use Rattle.med_base.specs.Kinds.{Kind, Shared, Own, Meta, Entry, Latest, Stray, Other, IsFqdn, IsBackupName}
use Rattle.med_base.specs.Layout.{meta_path}
use Rattle.med_core.specs.Removal.{is_content_of, is_shared_of, old_unnamed, paths_of_backup, paths_of_removal}
use Rattle.med_core.specs.Section.{AreInByteOrder}
use Rattle.med_manifest.proofs.ByKind.{path_has}
use Rattle.med_manifest.proofs.Gets.{from_same}
use Rattle.med_manifest.proofs.Members.{IsListed, all_listed, contains_head, contains_more}
use Rattle.med_manifest.proofs.Newest.{and_second}
use Rattle.med_manifest.specs.Listed.{if_stands, paths_of}
use Rattle.med_manifest.specs.Rebuild.{is_entry_of}

abbrev NotIn : List ℕ → List (List ℕ) → Type 0
NotIn p qs = AllByRecursion (λ q. p ≢ q) qs

abbrev pub AreApart : List (List ℕ) → Type 0
AreApart [] = Unit {0}
AreApart (p ∷ ps) = NotIn p ps × AreApart ps

apart_append : (xs ys : List (List ℕ)) → AreApart xs → AreApart ys
    → AllByRecursion (λ x. NotIn x ys) xs → AreApart (xs ++ ys)
apart_append [] ys a b all = b
apart_append (x ∷ xs) ys a b all =
    (all_append (λ q. x ≢ q) xs ys a.0 all.0, apart_append xs ys a.1 b all.1)

apart_by : (P Q : List ℕ → Type 0) → ((p : List ℕ) → P p → Q p → ⊥) → (xs ys : List (List ℕ))
    → AllByRecursion P xs → AllByRecursion Q ys → AllByRecursion (λ x. NotIn x ys) xs
apart_by P Q never [] ys a b = tt
apart_by P Q never (x ∷ xs) ys a b = (
  all_with Q (λ q. x ≢ q) (λ q has same. never x a.0 (subst Q (sym same) has)) ys b,
  apart_by P Q never xs ys a.1 b,
)

-- ---- the paths of a content

not_less : (x y : List ℕ) → T (is_lt (slice_cmp nat_cmp x y)) → x ≢ y
not_less x y less same =
    go (slice_cmp nat_cmp x x) (nat_list_cmp_total.antisymm x x)
    (subst (λ z. T (is_lt (slice_cmp nat_cmp x z))) (sym same) less)
  where
    go : (o : Ordering) → o ≡ ordering_reverse o → T (is_lt o) → ⊥
    go Less e h = absurd (cc e)
    go Equal e h = h
    go Greater e h = h

left_of : (a b : Bool) → T (a && b) → T a
left_of true b h = tt
left_of false b h = absurd h

right_of : (a b : Bool) → T (a && b) → T b
right_of true b h = h
right_of false b h = absurd h

abbrev by : List ℕ → List ℕ → Ordering
by = slice_cmp nat_cmp

not_below : (p : List ℕ) (es : List (List ℕ × Object)) → T (below_all by p es)
    → NotIn p (map (λ (e : List ℕ × Object). e.0) es)
not_below p [] below = tt
not_below p (e ∷ es) below = (
  not_less p e.0 (left_of (is_lt (by p e.0)) (below_all by p es) below),
  not_below p es (right_of (is_lt (by p e.0)) (below_all by p es) below),
)

sorted_apart : (es : List (List ℕ × Object)) → T (is_sorted by es)
    → AreApart (map (λ (e : List ℕ × Object). e.0) es)
sorted_apart [] sorted = tt
sorted_apart (e ∷ es) sorted = (
  not_below e.0 es (left_of (below_all by e.0 es) (is_sorted by es) sorted),
  sorted_apart es (right_of (below_all by e.0 es) (is_sorted by es) sorted),
)

module _ (before : List ℕ) (c : Content) where
  paths_apart : (test : Kind → Bool) → AreApart (paths_of before c test)
  paths_apart test =
      let part = retain_keys c (λ path. test (kind_of before path)) in
      sorted_apart (entries part) (entries_sorted part)

  listed_are : (test : Kind → Bool) (P : Kind → Type 0) → ((k : Kind) → test k ≡ true → P k)
      → AllByRecursion (λ p. P (kind_of before p)) (paths_of before c test)
  listed_are test P so =
      all_with (IsListed before c test) (λ p. P (kind_of before p))
      (λ p is. so (kind_of before p) is.0) (paths_of before c test) (all_listed before c test)

  standing_apart : (path : List ℕ) → AreApart (if_stands c path)
  standing_apart path = go (contains_key c path)
    where
      go : (b : Bool) → AreApart (cond b (path ∷ []) [])
      go true = (tt, tt)
      go false = tt

  standing_are : (P : List ℕ → Type 0) (path : List ℕ) → P path
      → AllByRecursion P (if_stands c path)
  standing_are P path is = go (contains_key c path)
    where
      go : (b : Bool) → AllByRecursion P (cond b (path ∷ []) [])
      go true = (is, tt)
      go false = tt

-- ---- a part of a list

filter_all : (P : List ℕ → Type 0) (keep : List ℕ → Bool) (ps : List (List ℕ))
    → AllByRecursion P ps → AllByRecursion P (filter keep ps)
filter_all P keep [] all = tt
filter_all P keep (p ∷ ps) all = go (keep p) (filter_all P keep ps all.1)
  where
    go : (b : Bool) → AllByRecursion P (filter keep ps)
        → AllByRecursion P (cond b (p ∷ filter keep ps) (filter keep ps))
    go true rest = (all.0, rest)
    go false rest = rest

filter_apart : (keep : List ℕ → Bool) (ps : List (List ℕ)) → AreApart ps
    → AreApart (filter keep ps)
filter_apart keep [] apart = tt
filter_apart keep (p ∷ ps) apart = go (keep p) (filter_apart keep ps apart.1)
  where
    go : (b : Bool) → AreApart (filter keep ps)
        → AreApart (cond b (p ∷ filter keep ps) (filter keep ps))
    go true rest = (filter_all (λ q. p ≢ q) keep ps apart.0, rest)
    go false rest = rest

-- ---- the groups of a backup

abbrev rank : Kind → ℕ
rank (Entry g n kind) = 0
rank (Meta g n meta.Manifest) = 1
rank (Own g n key) = 2
rank (Stray g n) = 2
rank (Meta g n meta.Differential) = 3
rank (Meta g n meta.Tokenmap) = 4
rank (Meta g n meta.Schema) = 5
rank (Shared g key) = 6
rank (Latest g kind) = 6
rank Other = 6

-- of the backup of this name
abbrev OfBackup : List ℕ → Kind → Type 0
OfBackup n (Entry g m kind) = m ≡ n
OfBackup n (Meta g m kind) = m ≡ n
OfBackup n (Own g m key) = m ≡ n
OfBackup n (Stray g (Some m)) = m ≡ n
OfBackup n _ = ⊥

ranks_apart : (before : List ℕ) (r : ℕ) (xs ys : List (List ℕ)) → AreApart xs → AreApart ys
    → AllByRecursion (λ p. rank (kind_of before p) ≡ r) xs
    → AllByRecursion (λ p. r < rank (kind_of before p)) ys → AreApart (xs ++ ys)
ranks_apart before r xs ys a b these above =
    apart_append xs ys a b
    (apart_by (λ p. rank (kind_of before p) ≡ r) (λ p. r < rank (kind_of before p))
    (λ p is less. never (rank (kind_of before p)) is less) xs ys these above)
  where
    never : (n : ℕ) → n ≡ r → r < n → ⊥
    never n is less = omega (arith, is, less)

-- where a list has this rank and the rest a greater one, all have a greater one than those before
above_both : (before : List ℕ) (r s : ℕ) → r < s → (xs ys : List (List ℕ))
    → AllByRecursion (λ p. rank (kind_of before p) ≡ s) xs
    → AllByRecursion (λ p. s < rank (kind_of before p)) ys
    → AllByRecursion (λ p. r < rank (kind_of before p)) (xs ++ ys)
above_both before r s less xs ys these above =
    all_append (λ p. r < rank (kind_of before p)) xs ys
    (all_with (λ p. rank (kind_of before p) ≡ s) (λ p. r < rank (kind_of before p))
    (λ p is. here (rank (kind_of before p)) is) xs these)
    (all_with (λ p. s < rank (kind_of before p)) (λ p. r < rank (kind_of before p))
    (λ p more. later (rank (kind_of before p)) more) ys above)
  where
    here : (n : ℕ) → n ≡ s → r < n
    here n is = omega (arith, is, less)

    later : (n : ℕ) → s < n → r < n
    later n more = omega (arith, more, less)

content_rank : (f n : List ℕ) (k : Kind) → is_content_of f n k ≡ true
    → (rank k ≡ 2) × OfBackup n k
content_rank f n (Own g m key) is = (refl, from_same m n (and_second (bytes_eq g f) (bytes_eq m n) is))
content_rank f n (Stray g (Some m)) is =
    (refl, from_same m n (and_second (bytes_eq g f) (bytes_eq m n) is))
content_rank f n (Stray g None) is = absurd (cc is)
content_rank f n (Shared g key) is = absurd (cc is)
content_rank f n (Meta g m kind) is = absurd (cc is)
content_rank f n (Entry g m kind) is = absurd (cc is)
content_rank f n (Latest g kind) is = absurd (cc is)
content_rank f n Other is = absurd (cc is)

entry_rank : (f n : List ℕ) (k : Kind) → is_entry_of f n k ≡ true → (rank k ≡ 0) × OfBackup n k
entry_rank f n (Entry g m kind) is =
    (refl, from_same m n (and_second (bytes_eq g f) (bytes_eq m n) is))
entry_rank f n (Own g m key) is = absurd (cc is)
entry_rank f n (Stray g m) is = absurd (cc is)
entry_rank f n (Shared g key) is = absurd (cc is)
entry_rank f n (Meta g m kind) is = absurd (cc is)
entry_rank f n (Latest g kind) is = absurd (cc is)
entry_rank f n Other is = absurd (cc is)

shared_rank : (f : List ℕ) (k : Kind) → is_shared_of f k ≡ true → (n : List ℕ) → OfBackup n k → ⊥
shared_rank f (Shared g key) is n never = never
shared_rank f (Entry g m kind) is n never = absurd (cc is)
shared_rank f (Own g m key) is n never = absurd (cc is)
shared_rank f (Stray g m) is n never = absurd (cc is)
shared_rank f (Meta g m kind) is n never = absurd (cc is)
shared_rank f (Latest g kind) is n never = absurd (cc is)
shared_rank f Other is n never = absurd (cc is)

name_once : (n m : List ℕ) (k : Kind) → OfBackup n k → OfBackup m k → n ≡ m
name_once n m (Entry g o kind) a b = sym a ∙ b
name_once n m (Meta g o kind) a b = sym a ∙ b
name_once n m (Own g o key) a b = sym a ∙ b
name_once n m (Stray g (Some o)) a b = sym a ∙ b
name_once n m (Stray g None) a b = absurd a
name_once n m (Shared g key) a b = absurd a
name_once n m (Latest g kind) a b = absurd a
name_once n m Other a b = absurd a

module _ (before f : List ℕ) (c : Content) (node : IsFqdn f) where
  module _ (n : List ℕ) (name : IsBackupName n) where
    abbrev at : MetaKind → List (List ℕ)
    at kind = if_stands c (meta_path before f n kind)

    kind_is : (kind : MetaKind) → kind_of before (meta_path before f n kind) ≡ Meta f n kind
    kind_is kind = path_has before (Meta f n kind) tt (node, name)

    meta_rank : (kind : MetaKind)
        → AllByRecursion (λ p. rank (kind_of before p) ≡ rank (Meta f n kind)) (at kind)
    meta_rank kind =
        standing_are before c (λ p. rank (kind_of before p) ≡ rank (Meta f n kind))
        (meta_path before f n kind) (ap rank (kind_is kind))

    meta_of : (kind : MetaKind) → AllByRecursion (λ p. OfBackup n (kind_of before p)) (at kind)
    meta_of kind =
        standing_are before c (λ p. OfBackup n (kind_of before p)) (meta_path before f n kind)
        (subst (OfBackup n) (sym (kind_is kind)) refl)

    abbrev entries_in : List (List ℕ)
    entries_in = paths_of before c (is_entry_of f n)

    abbrev content_in : List (List ℕ)
    content_in = paths_of before c (is_content_of f n)

    above : (r s : ℕ) → r < s → (xs : List (List ℕ))
        → AllByRecursion (λ p. rank (kind_of before p) ≡ s) xs
        → AllByRecursion (λ p. r < rank (kind_of before p)) xs
    above r s less xs these =
        all_with (λ p. rank (kind_of before p) ≡ s) (λ p. r < rank (kind_of before p))
        (λ p is. here (rank (kind_of before p)) is) xs these
      where
        here : (k : ℕ) → k ≡ s → r < k
        here k is = omega (arith, is, less)

    abbrev ring : List (List ℕ)
    ring = at meta.Tokenmap ++ at meta.Schema

    abbrev signs : List (List ℕ)
    signs = at meta.Differential ++ ring

    abbrev folder : List (List ℕ)
    folder = content_in ++ signs

    ring_above : AllByRecursion (λ p. 3 < rank (kind_of before p)) ring
    ring_above =
        above_both before 3 4 (omega arith) (at meta.Tokenmap) (at meta.Schema)
        (meta_rank meta.Tokenmap)
        (above 4 5 (omega arith) (at meta.Schema) (meta_rank meta.Schema))

    signs_above : AllByRecursion (λ p. 2 < rank (kind_of before p)) signs
    signs_above =
        above_both before 2 3 (omega arith) (at meta.Differential) ring
        (meta_rank meta.Differential) ring_above

    content_ranks : AllByRecursion (λ p. rank (kind_of before p) ≡ 2) content_in
    content_ranks =
        listed_are before c (is_content_of f n) (λ k. rank k ≡ 2)
        (λ k is. (content_rank f n k is).0)

    folder_above : AllByRecursion (λ p. 1 < rank (kind_of before p)) folder
    folder_above = above_both before 1 2 (omega arith) content_in signs content_ranks signs_above

    ring_apart : AreApart ring
    ring_apart =
        ranks_apart before 4 (at meta.Tokenmap) (at meta.Schema)
        (standing_apart before c (meta_path before f n meta.Tokenmap))
        (standing_apart before c (meta_path before f n meta.Schema)) (meta_rank meta.Tokenmap)
        (above 4 5 (omega arith) (at meta.Schema) (meta_rank meta.Schema))

    signs_apart : AreApart signs
    signs_apart =
        ranks_apart before 3 (at meta.Differential) ring
        (standing_apart before c (meta_path before f n meta.Differential)) ring_apart
        (meta_rank meta.Differential) ring_above

    folder_apart : AreApart folder
    folder_apart =
        ranks_apart before 2 content_in signs (paths_apart before c (is_content_of f n)) signs_apart
        content_ranks signs_above

    backup_apart : AreApart (paths_of_backup before c f n)
    backup_apart =
        ranks_apart before 0 entries_in (at meta.Manifest ++ folder)
        (paths_apart before c (is_entry_of f n))
        (ranks_apart before 1 (at meta.Manifest) folder
        (standing_apart before c (meta_path before f n meta.Manifest)) folder_apart
        (meta_rank meta.Manifest) folder_above)
        (listed_are before c (is_entry_of f n) (λ k. rank k ≡ 0)
        (λ k is. (entry_rank f n k is).0))
        (above_both before 0 1 (omega arith) (at meta.Manifest) folder (meta_rank meta.Manifest)
        folder_above)

    all_of : AllByRecursion (λ p. OfBackup n (kind_of before p)) (paths_of_backup before c f n)
    all_of =
        both entries_in (at meta.Manifest ++ folder)
        (listed_are before c (is_entry_of f n) (OfBackup n) (λ k is. (entry_rank f n k is).1))
        (both (at meta.Manifest) folder (meta_of meta.Manifest)
        (both content_in signs
        (listed_are before c (is_content_of f n) (OfBackup n)
        (λ k is. (content_rank f n k is).1))
        (both (at meta.Differential) ring (meta_of meta.Differential)
        (both (at meta.Tokenmap) (at meta.Schema) (meta_of meta.Tokenmap) (meta_of meta.Schema)))))
      where
        both : (xs ys : List (List ℕ)) → AllByRecursion (λ p. OfBackup n (kind_of before p)) xs
            → AllByRecursion (λ p. OfBackup n (kind_of before p)) ys
            → AllByRecursion (λ p. OfBackup n (kind_of before p)) (xs ++ ys)
        both = all_append (λ p. OfBackup n (kind_of before p))

  -- of a backup of one of these names
  abbrev OfSome : List (List ℕ) → List ℕ → Type 0
  OfSome ns p = (n : List ℕ) × Contains ns n × OfBackup n (kind_of before p)

  all_some : (ns : List (List ℕ)) → AllByRecursion IsBackupName ns
      → AllByRecursion (OfSome ns) (flat_map (paths_of_backup before c f) ns)
  all_some [] names = tt
  all_some (n ∷ ns) names =
      all_append (OfSome (n ∷ ns)) (paths_of_backup before c f n)
      (flat_map (paths_of_backup before c f) ns)
      (all_with (λ p. OfBackup n (kind_of before p)) (OfSome (n ∷ ns))
      (λ p is. (n, contains_head n ns, is)) (paths_of_backup before c f n) (all_of n names.0))
      (all_with (OfSome ns) (OfSome (n ∷ ns))
      (λ p (m, has, is). (m, contains_more n m ns has, is))
      (flat_map (paths_of_backup before c f) ns) (all_some ns names.1))

  not_among : (n m : List ℕ) (ns : List (List ℕ)) → AllByRecursion (λ y. by n y ≡ Less) ns
      → Contains ns m → n ≢ m
  not_among n m ns above has same =
      not_less n m
      (subst (λ o. T (is_lt o))
      (sym (All-contains (λ y. by n y ≡ Less) ns m
      (All-from_recursion (λ y. by n y ≡ Less) ns above) has)) tt) same

  backups_apart : (ns : List (List ℕ)) → AllByRecursion IsBackupName ns → AreInByteOrder ns
      → AreApart (flat_map (paths_of_backup before c f) ns)
  backups_apart [] names order = tt
  backups_apart (n ∷ ns) names order =
      apart_append (paths_of_backup before c f n) (flat_map (paths_of_backup before c f) ns)
      (backup_apart n names.0) (backups_apart ns names.1 order.1)
      (apart_by (λ p. OfBackup n (kind_of before p)) (OfSome ns)
      (λ p is (m, has, other). not_among n m ns order.0 has
      (name_once n m (kind_of before p) is other))
      (paths_of_backup before c f n) (flat_map (paths_of_backup before c f) ns)
      (all_of n names.0) (all_some ns names.1))

  -- no path goes twice
  pub removal_apart : (names named : List (List ℕ)) (grace now : ℕ)
      → AllByRecursion IsBackupName names → AreInByteOrder names
      → AreApart (paths_of_removal before c f names named grace now)
  removal_apart names named grace now valid order =
      apart_append (flat_map (paths_of_backup before c f) names)
      (old_unnamed before c f named grace now) (backups_apart names valid order)
      (filter_apart _ (paths_of before c (is_shared_of f))
      (paths_apart before c (is_shared_of f)))
      (apart_by (OfSome names) (λ p. is_shared_of f (kind_of before p) ≡ true)
      (λ p (n, has, is) shared. shared_rank f (kind_of before p) shared n is)
      (flat_map (paths_of_backup before c f) names) (old_unnamed before c f named grace now)
      (all_some names valid)
      (filter_all (λ p. is_shared_of f (kind_of before p) ≡ true) _
      (paths_of before c (is_shared_of f))
      (listed_are before c (is_shared_of f) (λ k. is_shared_of f k ≡ true) (λ k is. is))))
