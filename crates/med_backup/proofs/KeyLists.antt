-- Keys that are gathered in a map: in order, each once, and those of a snapshot where it is told.
use Rattle.std.proofs.Common.{◌≡◌, ◌+◌, Bool, true, false, cond, ◌||◌, ◌&&◌, List, [], ◌∷◌, ◌++◌, map, length, Option, Some, None, IfSome, refl, sym, ap, subst, ◌∙◌, arith}
use Rattle.std.specs.Prelude.{T, count_by, is_some, ◌==◌}
use Rattle.std.specs.List.{AllByRecursion, list_any}
use Rattle.std.specs.Ordering.{is_lt, match_ordering}
use Rattle.std.specs.declared.cmp.Ordering.{Ordering}
use Rattle.std.specs.declared.cmp.Ordering.TheVariants.{Less, Equal, Greater}
use Rattle.std.specs.FinMap.{FinMap, entries, entries_sorted, empty, insert, get, keys, contains_key, len-entries, len-empty, entries-insert, get-insert, get-empty, get-entries, get-from_sorted, entries-from_sorted, from_sorted, same_map}
use Rattle.std.specs.FinMap.Entries.{put, find, is_sorted, below_all, by_order}
use Rattle.std.specs.BTreeMap.{insert_entry}
use Rattle.std.proofs.lemmas.List.Sums.{sum_by-cons}
use Rattle.std.proofs.lemmas.List.{nil_from_length}
use Rattle.std.proofs.Math.Bool.{or-false}
use Rattle.med_base.specs.declared.key.FileKey.{FileKey}
use Rattle.med_base.specs.Key.{key_cmp, key_eq, AreRising, IsKey}
use Rattle.med_base.specs.KeyOrder.{key_total, key_exact}
use Rattle.med_outside.specs.Snapshot.{Snapshot, IsListed}
use Rattle.med_backup.specs.Walked.{added, CanBeWalked}

abbrev Keys : Type 0
Keys = FinMap key_cmp (Unit {0})

pub nothing_yet : entries (empty {K = FileKey} {X = Unit {0}} {R = key_cmp}) ≡ []
nothing_yet =
    nil_from_length (entries empty) (sym (len-entries empty) ∙ len-empty key_cmp (Unit {0}))

match_is_by_order : {A : Type 0} (r : Ordering) (a b c : A)
    → match_ordering r a b c ≡ by_order r a b c
match_is_by_order Less a b c = refl
match_is_by_order Equal a b c = refl
match_is_by_order Greater a b c = refl

insert_entry-put : (es : List (FileKey × Unit {0})) (k : FileKey)
    → insert_entry key_cmp es k tt ≡ put key_cmp k tt es
insert_entry-put [] k = refl
insert_entry-put (e ∷ es) k =
    ap (λ (l : List (FileKey × Unit {0})). match_ordering (key_cmp k e.0) ((k, tt) ∷ e ∷ es)
    ((e.0, tt) ∷ es) (e ∷ l)) (insert_entry-put es k)
    ∙ match_is_by_order (key_cmp k e.0) _ _ _

added-push : (m : Keys) (ks : List FileKey) (k : FileKey)
    → added m (ks ++ k ∷ []) ≡ insert (added m ks) k tt
added-push m [] k = refl
added-push m (j ∷ ks) k = added-push (insert m j tt) ks k

-- one key more in the map
pub next_key : (old new : List (FileKey × Unit {0})) (ks : List FileKey) (k : FileKey)
    → old ≡ entries (added empty ks) → new ≡ insert_entry key_cmp old k tt
    → new ≡ entries (added empty (ks ++ k ∷ []))
next_key old new ks k was is =
    is ∙ insert_entry-put old k ∙ ap (put key_cmp k tt) was
    ∙ sym (entries-insert key_total (added empty ks) k tt)
    ∙ ap entries (sym (added-push empty ks k))

-- ---- the keys of a map rise

first_of : (a b : Bool) → T (a && b) → T a
first_of true b p = tt
first_of false b p = absurd p

second_of : (a b : Bool) → T (a && b) → T b
second_of true b p = p
second_of false b p = absurd p

less_by_test : (o : Ordering) → T (is_lt o) → o ≡ Less
less_by_test Less p = refl
less_by_test Equal p = absurd p
less_by_test Greater p = absurd p

below_each : {X : Type 0} (k : FileKey) (es : List (FileKey × X)) → T (below_all key_cmp k es)
    → AllByRecursion (λ j. key_cmp k j ≡ Less) (map (λ e. e.0) es)
below_each k [] h = tt
below_each k (e ∷ es) h = (less_by_test _ (first_of _ _ h), below_each k es (second_of _ _ h))

rising_from : {X : Type 0} (es : List (FileKey × X)) → T (is_sorted key_cmp es)
    → AreRising (map (λ e. e.0) es)
rising_from [] h = tt
rising_from (e ∷ es) h = (below_each e.0 es (first_of _ _ h), rising_from es (second_of _ _ h))

pub rising_keys : {X : Type 0} (m : FinMap key_cmp X) → AreRising (keys m)
rising_keys m = rising_from (entries m) (entries_sorted m)

-- ---- each key of the map was added

all_put : (P : FileKey → Type 0) (k : FileKey) (es : List (FileKey × Unit {0})) → P k
    → AllByRecursion P (map (λ e. e.0) es) → AllByRecursion P (map (λ e. e.0) (put key_cmp k tt es))
all_put P k [] one all = (one, tt)
all_put P k (e ∷ es) one all =
    elim (key_cmp k e.0) as
    (λ r. AllByRecursion P
    (map (λ e. e.0) (by_order r ((k, tt) ∷ e ∷ es) ((e.0, tt) ∷ es) (e ∷ put key_cmp k tt es)))) [
      | Less ↦ (one, all)
      | Equal ↦ all
      | Greater ↦ (all.0, all_put P k es one all.1)
    ]

all_added : (P : FileKey → Type 0) (m : Keys) (ks : List FileKey) → AllByRecursion P (keys m)
    → AllByRecursion P ks → AllByRecursion P (keys (added m ks))
all_added P m [] old all = old
all_added P m (k ∷ ks) old all =
    all_added P (insert m k tt) ks
    (subst (λ (es : List (FileKey × Unit {0})). AllByRecursion P (map (λ e. e.0) es))
    (sym (entries-insert key_total m k tt)) (all_put P k (entries m) all.0 old))
    all.1

pub all_gathered : (P : FileKey → Type 0) (ks : List FileKey) → AllByRecursion P ks
    → AllByRecursion P (keys (added empty ks))
all_gathered P ks all =
    all_added P empty ks
    (subst (λ (es : List (FileKey × Unit {0})). AllByRecursion P (map (λ e. e.0) es))
    (sym nothing_yet) tt) all

-- ---- two maps with the same keys list them alike

or_swap : (a b c : Bool) → ((a || b) || c) ≡ (b || (a || c))
or_swap true true c = refl
or_swap true false c = refl
or_swap false b c = refl

some_or : (b : Bool) (o : Option (Unit {0})) → is_some (cond b (Some tt) o) ≡ (b || is_some o)
some_or true o = refl
some_or false o = refl

contains_insert : (m : Keys) (k q : FileKey)
    → contains_key (insert m k tt) q ≡ (key_eq q k || contains_key m q)
contains_insert m k q = ap is_some (get-insert key_total m k tt q) ∙ some_or (key_eq q k) (get m q)

contains_added : (m : Keys) (ks : List FileKey) (q : FileKey)
    → contains_key (added m ks) q ≡ (contains_key m q || list_any (key_eq q) ks)
contains_added m [] q = sym (or-false (contains_key m q))
contains_added m (k ∷ ks) q =
    contains_added (insert m k tt) ks q
    ∙ ap (λ b. b || list_any (key_eq q) ks) (contains_insert m k q)
    ∙ or_swap (key_eq q k) (contains_key m q) (list_any (key_eq q) ks)

contains_gathered : (ks : List FileKey) (q : FileKey)
    → contains_key (added empty ks) q ≡ list_any (key_eq q) ks
contains_gathered ks q = contains_added empty ks q
    ∙ ap (λ o. is_some o || list_any (key_eq q) ks) (get-empty key_cmp q)

-- the first key counts where it passes
counted : (p : FileKey → Bool) (k : FileKey) (ks : List FileKey) (b : Bool) → p k ≡ b
    → count_by p (k ∷ ks) ≡ cond b 1 0 + count_by p ks
counted p k ks b is = sum_by-cons (λ x. cond (p x) 1 0) k ks
    ∙ ap (λ v. cond v 1 0 + count_by p ks) is

none_by : (p : FileKey → Bool) (k : FileKey) (ks : List FileKey) (b : Bool) → p k ≡ b
    → count_by p (k ∷ ks) ≡ 0 → (count_by p ks ≡ 0 → list_any p ks ≡ false)
    → (p k || list_any p ks) ≡ false
none_by p k ks true is e rest = absurd (omega (arith, counted p k ks true is, e))
none_by p k ks false is e rest = ap (λ v. v || list_any p ks) is
    ∙ rest (omega (arith, counted p k ks false is, e))

none_left : (p : FileKey → Bool) (ks : List FileKey) → count_by p ks ≡ 0 → list_any p ks ≡ false
none_left p [] e = refl
none_left p (k ∷ ks) e = none_by p k ks (p k) refl e (none_left p ks)

some_by : (p : FileKey → Bool) (k : FileKey) (ks : List FileKey) (b : Bool) → p k ≡ b
    → count_by p (k ∷ ks) ≡ 1 → (count_by p ks ≡ 1 → list_any p ks ≡ true)
    → (p k || list_any p ks) ≡ true
some_by p k ks true is e rest = ap (λ v. v || list_any p ks) is
some_by p k ks false is e rest = ap (λ v. v || list_any p ks) is
    ∙ rest (omega (arith, counted p k ks false is, e))

some_left : (p : FileKey → Bool) (ks : List FileKey) → count_by p ks ≡ 1 → list_any p ks ≡ true
some_left p [] e = absurd (omega arith)
some_left p (k ∷ ks) e = some_by p k ks (p k) refl e (some_left p ks)

any_counted : (p : FileKey → Bool) (ks : List FileKey) (b : Bool) → count_by p ks ≡ cond b 1 0
    → list_any p ks ≡ b
any_counted p ks true e = some_left p ks e
any_counted p ks false e = none_left p ks e

abbrev marked : {X : Type 0} → List (FileKey × X) → List (FileKey × Unit {0})
marked es = map (λ e. (e.0, tt)) es

below_marked : {X : Type 0} (k : FileKey) (es : List (FileKey × X))
    → below_all key_cmp k (marked es) ≡ below_all key_cmp k es
below_marked k [] = refl
below_marked k (e ∷ es) = ap (λ b. is_lt (key_cmp k e.0) && b) (below_marked k es)

sorted_marked : {X : Type 0} (es : List (FileKey × X))
    → is_sorted key_cmp (marked es) ≡ is_sorted key_cmp es
sorted_marked [] = refl
sorted_marked (e ∷ es) = λ i. below_marked e.0 es i && sorted_marked es i

marked_by : {X : Type 0} (b : Bool) (x : X) (u : Option (Unit {0})) (o : Option X)
    → u ≡ cond (is_some o) (Some tt) None
    → cond b (Some tt) u ≡ cond (is_some (cond b (Some x) o)) (Some tt) None
marked_by true x u o e = refl
marked_by false x u o e = e

find_marked : {X : Type 0} (q : FileKey) (es : List (FileKey × X))
    → find key_cmp q (marked es) ≡ cond (is_some (find key_cmp q es)) (Some tt) None
find_marked q [] = refl
find_marked q (e ∷ es) = marked_by (key_eq q e.0) e.1 (find key_cmp q (marked es))
    (find key_cmp q es) (find_marked q es)

keys_marked : {X : Type 0} (es : List (FileKey × X))
    → map (λ e. e.0) (marked es) ≡ map (λ e. e.0) es
keys_marked [] = refl
keys_marked (e ∷ es) = ap (λ l. e.0 ∷ l) (keys_marked es)

abbrev marks : {X : Type 0} → FinMap key_cmp X → Keys
marks m = from_sorted (marked (entries m))

marks_sorted : {X : Type 0} (m : FinMap key_cmp X) → T (is_sorted key_cmp (marked (entries m)))
marks_sorted m = subst T (sym (sorted_marked (entries m))) (entries_sorted m)

get_marks : {X : Type 0} (m : FinMap key_cmp X) (q : FileKey)
    → get (marks m) q ≡ cond (contains_key m q) (Some tt) None
get_marks m q =
    get-from_sorted key_cmp (marked (entries m)) q (marks_sorted m) ∙ find_marked q (entries m)
    ∙ ap (λ o. cond (is_some o) (Some tt) None) (sym (get-entries m q))

keys_marks : {X : Type 0} (m : FinMap key_cmp X) → keys (marks m) ≡ keys m
keys_marks m = ap (map (λ e. e.0))
    (entries-from_sorted key_cmp (marked (entries m)) (marks_sorted m)) ∙ keys_marked (entries m)

pub same_keys : {X Y : Type 0} (m : FinMap key_cmp X) (n : FinMap key_cmp Y)
    → ((q : FileKey) → contains_key m q ≡ contains_key n q) → keys m ≡ keys n
same_keys m n is =
    sym (keys_marks m)
    ∙ ap keys (same_map key_total key_exact (marks m) (marks n)
    (λ q. get_marks m q ∙ ap (λ b. cond b (Some tt) None) (is q) ∙ sym (get_marks n q)))
    ∙ keys_marks n

-- the keys of a snapshot's order, gathered, are those of its files
pub gathered_keys : (s : Snapshot) → IsListed s → keys (added empty s.order) ≡ keys s.files
gathered_keys s listed =
    same_keys (added empty s.order) s.files
    (λ q. contains_gathered s.order q
    ∙ any_counted (key_eq q) s.order (contains_key s.files q) (listed q))

-- what is read off a list of keys that a snapshot told
pub told_keys : (held : Option Snapshot) (names : List FileKey) (es : List (FileKey × Unit {0}))
    (ks : List FileKey)
    → IfSome held IsListed → IfSome held (λ s. names ≡ s.order) → es ≡ entries (added empty names)
    → ks ≡ map (λ e. e.0) es
    → IfSome held (λ s. ks ≡ keys s.files)
told_keys None names es ks listed order is list = tt
told_keys (Some s) names es ks listed order is list =
    list ∙ ap (map (λ e. e.0)) is ∙ ap (λ l. keys (added empty l)) order ∙ gathered_keys s listed

not_empty : {A B : Type 0} (f : A → B) (xs : List A) → (length xs == 0) ≡ false → map f xs ≡ [] → ⊥
not_empty f [] e is = absurd (cc)
not_empty f (x ∷ xs) e is = absurd (cc)

pub told_walk : {A : Type 0} (f : A → FileKey) (raws : List A) (held : Option Snapshot)
    → IfSome held (λ s. map f raws ≡ s.order) → (length raws == 0) ≡ false
    → AllByRecursion IsKey (map f raws) → IfSome held CanBeWalked
told_walk f raws None order some names = tt
told_walk f raws (Some s) order some names = record {
  some = λ e. not_empty f raws some (order ∙ e);
  names = subst (AllByRecursion IsKey) order names;
}
