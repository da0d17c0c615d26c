-- The listing under a text has each object of the content whose path begins with it.
use Rattle.std.proofs.Common.{◌≡◌, ◌∙◌, ◌⊎◌, inl, inr, ◌&&◌, ℕ, Bool, true, false, cond, List, [], ◌∷◌, map, Some, None, option_map, T, refl, sym, ap}
use Rattle.std.specs.Cmp.Lexicographic.{slice_cmp, nat_list_cmp_total}
use Rattle.std.specs.FinMap.{get, get-entries, entries, entries_sorted, find}
use Rattle.std.specs.FinMap.Entries.{is_sorted, below_all}
use Rattle.std.specs.List.{AllByRecursion, filter}
use Rattle.std.specs.Ordering.{nat_cmp, eq_by_cmp, is_eq, is_lt, ordering_reverse}
use Rattle.std.specs.declared.cmp.Ordering.{Ordering}
use Rattle.std.specs.declared.cmp.Ordering.TheVariants.{Less, Equal, Greater}
use Rattle.std.proofs.lemmas.Map.Lookups.{exact_bytes}
use Rattle.med_base.specs.Content.{Content, Object, is_under, objects_under}
use Rattle.med_base.specs.Part.{part_of}
use Rattle.med_base.proofs.Parts.{entries-part_of, get-part_of}
use Rattle.med_outside.specs.Storage.{entry_of, listing}
use Rattle.med_index.specs.Visits.{IsEntryOf, IsToCome}

abbrev by : List ℕ → List ℕ → Ordering
by = slice_cmp nat_cmp

abbrev Pair : Type 0
Pair = List ℕ × Object

equal_of : (o : Ordering) → is_eq o ≡ true → o ≡ Equal
equal_of Less e = absurd (cc)
equal_of Equal e = refl
equal_of Greater e = absurd (cc)

-- what a look-up finds is an entry to come
found_to_come : (path : List ℕ) (o : Object) (es : List Pair) → find by path es ≡ Some o
    → IsToCome (map entry_of es) path
found_to_come path o [] is = absurd (cc)
found_to_come path o (e ∷ es) is =
    go (eq_by_cmp by path e.0) refl is (found_to_come path o es)
  where
    go : (b : Bool) → eq_by_cmp by path e.0 ≡ b
        → cond b (Some e.1) (find by path es) ≡ Some o
        → (find by path es ≡ Some o → IsToCome (map entry_of es) path)
        → (e.0 ≡ path) ⊎ IsToCome (map entry_of es) path
    go true p is rest = inl (sym (exact_bytes path e.0 (equal_of (by path e.0) p)))
    go false p is rest = inr (rest is)

-- an object whose path begins with the text is in the listing
pub to_come : (text path : List ℕ) (c : Content) (o : Object) → get c path ≡ Some o
    → is_under text path ≡ true → IsToCome (listing text c) path
to_come text path c o is under =
    let part = part_of (is_under text) c in
    found_to_come path o (objects_under text c)
    (sym (ap (find by path) (entries-part_of (is_under text) c)) ∙ sym (get-entries part path)
    ∙ get-part_of (is_under text) c path ∙ ap (λ b. cond b (get c path) None) under ∙ is)

-- ---- each entry of a listing is one of the content

left_of : (a b : Bool) → T (a && b) → T a
left_of true b h = tt
left_of false b h = absurd h

right_of : (a b : Bool) → T (a && b) → T b
right_of true b h = h
right_of false b h = absurd h

-- what is above a path isn't it
above : (x y : List ℕ) → T (is_lt (by x y)) → eq_by_cmp by y x ≡ false
above x y less = go (by x y) (by y x) (nat_list_cmp_total.antisymm y x) less
  where
    go : (o p : Ordering) → p ≡ ordering_reverse o → T (is_lt o) → is_eq p ≡ false
    go Less p e h = ap is_eq e
    go Equal p e h = absurd h
    go Greater p e h = absurd h

-- each of these is found in the list
abbrev pub AreIn : List Pair → List Pair → Type 0
AreIn all es = AllByRecursion (λ (e : Pair). find by e.0 all ≡ Some e.1) es

behind_first : (h : Pair) (all es : List Pair) → T (below_all by h.0 es) → AreIn all es
    → AreIn (h ∷ all) es
behind_first h all [] below are = tt
behind_first h all (e ∷ es) below are = (
  ap (λ b. cond b (Some h.1) (find by e.0 all))
      (above h.0 e.0 (left_of (is_lt (by h.0 e.0)) (below_all by h.0 es) below)) ∙ are.0,
  behind_first h all es (right_of (is_lt (by h.0 e.0)) (below_all by h.0 es) below) are.1,
)

itself : (x : List ℕ) → eq_by_cmp by x x ≡ true
itself x = go (by x x) (nat_list_cmp_total.antisymm x x)
  where
    go : (o : Ordering) → o ≡ ordering_reverse o → is_eq o ≡ true
    go Less e = absurd (cc)
    go Equal e = refl
    go Greater e = absurd (cc)

pub all_in : (es : List Pair) → T (is_sorted by es) → AreIn es es
all_in [] sorted = tt
all_in (e ∷ es) sorted = (
  ap (λ b. cond b (Some e.1) (find by e.0 es)) (itself e.0),
  behind_first e es es (left_of (below_all by e.0 es) (is_sorted by es) sorted)
      (all_in es (right_of (below_all by e.0 es) (is_sorted by es) sorted)),
)

kept_are : (c : Content) (test : List ℕ → Bool) (es : List Pair) → AreIn (entries c) es
    → AllByRecursion (IsEntryOf c) (map entry_of (filter (λ (e : Pair). test e.0) es))
kept_are c test [] are = tt
kept_are c test (e ∷ es) are = go (test e.0) refl (kept_are c test es are.1)
  where
    go : (b : Bool) → test e.0 ≡ b
        → AllByRecursion (IsEntryOf c) (map entry_of (filter (λ (d : Pair). test d.0) es))
        → AllByRecursion (IsEntryOf c) (map entry_of (filter (λ (d : Pair). test d.0) (e ∷ es)))
    go true p rest =
        rw p
        (ap (option_map (λ (o : Object). o.second)) (get-entries c e.0 ∙ are.0), rest)
    go false p rest = rw p rest

pub listed_are : (text : List ℕ) (c : Content) → AllByRecursion (IsEntryOf c) (listing text c)
listed_are text c = kept_are c (is_under text) (entries c) (all_in (entries c) (entries_sorted c))
