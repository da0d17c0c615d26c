-- What a rebuild plans becomes the changes that make the index just what the backups give.
use Rattle.std.proofs.Common.{◌≡◌, ◌∙◌, ◌&&◌, ℕ, Bool, true, false, true≢false, cond, not, List, [], ◌∷◌, ◌++◌, map, filter, Vec, Option, Some, None, option_map, is_some, T, bytes_eq, refl, sym, ap, subst, append_assoc, append-nil}
use Rattle.std.proofs.lemmas.Option.{same_Some}
use Rattle.std.proofs.lemmas.List.Elements.{recursion_from_All}
use Rattle.std.proofs.lemmas.Map.Lookups.{exact_bytes}
use Rattle.std.proofs.lemmas.Map.Views.{All-found}
use Rattle.std.specs.declared.alloc.Global.{Global}
use Rattle.std.specs.BTreeMap.{BTreeMap, IsOrdered, get, is_at}
use Rattle.std.specs.Cmp.{both_ways}
use Rattle.std.specs.Cmp.Lexicographic.{nat_list_cmp_total, slice_cmp}
use Rattle.std.specs.FinMap as finite
use Rattle.std.specs.FinMap.Entries.{below_all, find, is_sorted, same_entries}
use Rattle.std.specs.List.{AllByRecursion}
use Rattle.std.specs.List.Sorted.{IsStrictlySortedBy}
use Rattle.std.specs.Map.{keys_of, lookup}
use Rattle.std.specs.Ordering.{is_eq, is_lt, nat_cmp}
use Rattle.std.specs.declared.cmp.Ordering.{Ordering}
use Rattle.std.specs.declared.cmp.Ordering.TheVariants.{Less}
use Rattle.med_base.specs.Classify.{kind_of}
use Rattle.med_base.specs.Content.{Content, Object}
use Rattle.med_base.specs.Effects.{Effect, Stores, Removes}
use Rattle.med_base.specs.NameOrder.{name_cmp}
use Rattle.med_base.proofs.Lists.{all_with}
use Rattle.med_manifest.specs.Index.{Entries, IsGiven, given_to}
use Rattle.med_manifest.specs.Listed.{paths_of, removes}
use Rattle.med_manifest.specs.Mend.{changes_of_mend, has_bytes, put_unless}
use Rattle.med_manifest.specs.Reads.{DoAllRead}
use Rattle.med_manifest.specs.Rebuild.{IsRebuildOf, is_entry_of_node, not_given, put_entries, put_entry}
use Rattle.med_manifest.proofs.Gets.{cmp_itself, from_same, same_itself}
use Rattle.med_manifest.proofs.Givens.{entries_given, given_entries}
use Rattle.med_manifest.proofs.Members.{get_kept}
use Rattle.med_index.specs.Given.{AreRightly, AreSizes, Given, WasGiven, bytes_to_put, size_in, unless_stands}
use Rattle.med_index.specs.Planned.{ArePlanned}
use Rattle.med_index.specs.Plans.{deletes_of, delete_unless, put_of, puts_of}
use Rattle.med_index.specs.declared.changes.Planned.{Planned}
use Rattle.med_index.specs.declared.changes.Planned.TheVariants.{Delete}
use Rattle.med_index.proofs.PlanLemmas.{planned_apart}

abbrev by : List ℕ → List ℕ → Ordering
by = slice_cmp nat_cmp

abbrev Value : Type 0
Value = Option (Vec ℕ Global)

-- ---- maps with the same keys

joined : (a b : Bool) → T a → T b → T (a && b)
joined true b p q = q
joined false b p q = p

module _ {X : Type 0} where
  below_of : (k : List ℕ) (es : List (List ℕ × X))
      → AllByRecursion (λ y. name_cmp k y ≡ Less) (keys_of es) → T (below_all by k es)
  below_of k [] all = tt
  below_of k (e ∷ es) all =
      joined (is_lt (by k e.0)) (below_all by k es) (subst T (sym (ap is_lt all.0)) tt)
      (below_of k es all.1)

  pub sorted_of : (es : List (List ℕ × X)) → IsStrictlySortedBy name_cmp (keys_of es)
      → T (is_sorted by es)
  unfolding IsStrictlySortedBy
  sorted_of [] sorted = tt
  sorted_of (e ∷ es) sorted =
      joined (below_all by e.0 es) (is_sorted by es) (below_of e.0 es sorted.0)
      (sorted_of es sorted.1)

  abbrev bare : List (List ℕ × X) → List (List ℕ × Unit {0})
  bare es = map (λ (e : List ℕ × X). (e.0, tt)) es

  bare_below : (k : List ℕ) (es : List (List ℕ × X)) → T (below_all by k es)
      → T (below_all by k (bare es))
  bare_below k [] t = tt
  bare_below k (e ∷ es) t =
      let parts = apart (is_lt (by k e.0)) (below_all by k es) t in
      joined (is_lt (by k e.0)) (below_all by k (bare es)) parts.0 (bare_below k es parts.1)
    where
      apart : (a b : Bool) → T (a && b) → T a × T b
      apart true b p = (tt, p)
      apart false b p = absurd p

  bare_sorted : (es : List (List ℕ × X)) → T (is_sorted by es) → T (is_sorted by (bare es))
  bare_sorted [] t = tt
  bare_sorted (e ∷ es) t =
      let parts = apart (below_all by e.0 es) (is_sorted by es) t in
      joined (below_all by e.0 (bare es)) (is_sorted by (bare es)) (bare_below e.0 es parts.0)
      (bare_sorted es parts.1)
    where
      apart : (a b : Bool) → T (a && b) → T a × T b
      apart true b p = (tt, p)
      apart false b p = absurd p

  bare_find : (q : List ℕ) (es : List (List ℕ × X))
      → find by q (bare es) ≡ option_map (λ (_ : X). tt) (find by q es)
  bare_find q [] = refl
  bare_find q (e ∷ es) = go (is_eq (by q e.0)) (bare_find q es)
    where
      go : (b : Bool) → find by q (bare es) ≡ option_map (λ (_ : X). tt) (find by q es)
          → cond b (Some tt) (find by q (bare es))
          ≡ option_map (λ (_ : X). tt) (cond b (Some e.1) (find by q es))
      go true rest = refl
      go false rest = rest

  bare_keys : (es : List (List ℕ × X)) → keys_of (bare es) ≡ keys_of es
  bare_keys [] = refl
  bare_keys (e ∷ es) = ap (λ l. e.0 ∷ l) (bare_keys es)

some_alike : {X Y : Type 0} (a : Option X) (b : Option Y) → is_some a ≡ is_some b
    → ◌≡◌ {A = Option (Unit {0})} (option_map (λ (_ : X). tt) a) (option_map (λ (_ : Y). tt) b)
some_alike None None e = refl
some_alike None (Some y) e = absurd (cc)
some_alike (Some x) None e = absurd (cc)
some_alike (Some x) (Some y) e = refl

pub keys_same : {X Y : Type 0} (es : List (List ℕ × X)) (ds : List (List ℕ × Y))
    → T (is_sorted by es) → T (is_sorted by ds)
    → ((q : List ℕ) → is_some (find by q es) ≡ is_some (find by q ds)) → keys_of es ≡ keys_of ds
keys_same es ds sorted rises same =
    sym (bare_keys es)
    ∙ ap keys_of
    (same_entries by nat_list_cmp_total exact_bytes (bare es) (bare ds) (bare_sorted es sorted)
    (bare_sorted ds rises)
    (λ q. bare_find q es ∙ some_alike (find by q es) (find by q ds) (same q)
    ∙ sym (bare_find q ds)))
    ∙ bare_keys ds

-- ---- what the puts become

module _ (c : Content) (E : Entries) where
  other_seconds : (path : List ℕ) (second : ℕ) (seconds : List ℕ → ℕ) (q : List ℕ)
      → bytes_eq q path ≡ false
      → cond (bytes_eq q path) second (seconds q) ≡ seconds q
  other_seconds path second seconds q other = ap (λ b. cond b second (seconds q)) other

  -- none of the paths is this one
  abbrev AreOthers : List ℕ → List (List ℕ) → Type 0
  AreOthers path ps = AllByRecursion (λ q. bytes_eq q path ≡ false) ps

  seconds_alike : (ps : List (List ℕ)) (g h : List ℕ → ℕ)
      → AllByRecursion (λ q. g q ≡ h q) ps → put_entries c E ps g ≡ put_entries c E ps h
  seconds_alike [] g h all = refl
  seconds_alike (p ∷ ps) g h all =
      (λ i. put_entry c p (finite.get E p) (all.0 i) ++ seconds_alike ps g h all.1 i)

  -- one value, as the map has it and as the backups give it
  abbrev IsAlike : List ℕ × Value → Type 0
  IsAlike e =
      (bytes : List ℕ) × (finite.get E e.0 ≡ Some bytes)
      × (bytes_to_put e.1 ≡ unless_stands (finite.get c e.0) bytes)

  one_put : (path : List ℕ) (value : Value) (bytes : List ℕ)
      → bytes_to_put value ≡ unless_stands (finite.get c path) bytes → (xs : List Effect)
      → ArePlanned (put_of path value) xs
      → (second : ℕ) × (xs ≡ put_unless c path bytes second)
  one_put path value bytes is xs planned =
      go value (has_bytes (finite.get c path) bytes) refl is xs planned
    where
      go : (v : Value) (b : Bool) → has_bytes (finite.get c path) bytes ≡ b
          → bytes_to_put v ≡ cond (has_bytes (finite.get c path) bytes) None (Some bytes)
          → (xs : List Effect) → ArePlanned (put_of path v) xs
          → (second : ℕ) × (xs ≡ put_unless c path bytes second)
      go None true e is [] planned =
          (0, sym (ap (λ b. cond b [] (Stores path bytes 0 ∷ [])) e))
      go None true e is (x ∷ xs) planned = absurd planned
      go None false e is xs planned =
          absurd (let none = is ∙ ap (λ b. cond b None (Some bytes)) e in cc none)
      go (Some v) true e is xs planned =
          absurd (let none = is ∙ ap (λ b. cond b None (Some bytes)) e in cc none)
      go (Some v) false e is [] planned = absurd planned
      go (Some v) false e is (x ∷ (y ∷ xs)) planned = absurd planned.1
      go (Some v) false e is (Removes at ∷ []) planned = absurd planned.0
      go (Some v) false e is (Stores at stored second ∷ []) planned =
          let same : v.items ≡ bytes =
          same_Some v.items bytes (is ∙ ap (λ b. cond b None (Some bytes)) e) in (
            second,
            (λ i. Stores (planned.0.0 i) ((planned.0.1 ∙ same) i) second ∷ [])
                ∙ sym (ap (λ b. cond b [] (Stores path bytes second ∷ [])) e),
          )

  not_itself : (k q : List ℕ) → name_cmp k q ≡ Less → bytes_eq q k ≡ false
  not_itself k q less = go (bytes_eq q k) refl
    where
      go : (b : Bool) → bytes_eq q k ≡ b → b ≡ false
      go true e =
          absurd (true≢false
          (sym (cmp_itself k)
          ∙ ap is_eq (subst (λ p. name_cmp k p ≡ Less) (from_same q k e) less)))
      go false e = refl

  first_second : (k : List ℕ) (second : ℕ) (seconds : List ℕ → ℕ)
      → cond (bytes_eq k k) second (seconds k) ≡ second
  first_second k second seconds = ap (λ b. cond b second (seconds k)) (same_itself k)

  -- what the puts under these paths become
  pub puts_made : (es : List (List ℕ × Value)) → IsStrictlySortedBy name_cmp (keys_of es)
      → AllByRecursion IsAlike es → (xs : List Effect) → ArePlanned (puts_of es) xs
      → (seconds : List ℕ → ℕ) × (xs ≡ put_entries c E (keys_of es) seconds)
  unfolding IsStrictlySortedBy
  puts_made [] sorted all [] planned = ((λ q. 0), refl)
  puts_made [] sorted all (x ∷ xs) planned = absurd planned
  puts_made (e ∷ es) sorted all xs planned =
      let (ys, zs, is, first, later) = planned_apart (put_of e.0 e.1) (puts_of es) xs planned in
      let (bytes, got, alike) = all.0 in
      let (second, here) = one_put e.0 e.1 bytes alike ys first in
      let (seconds, more) = puts_made es sorted.1 all.1 zs later in
      let now = λ (q : List ℕ). cond (bytes_eq q e.0) second (seconds q) in (
        now,
        is ∙ ap (λ l. l ++ zs) here ∙ ap (λ l. put_unless c e.0 bytes second ++ l) more
            ∙ (λ i. put_unless c e.0 bytes (sym (first_second e.0 second seconds) i)
            ++ sym (seconds_alike (keys_of es) now seconds
            (all_with (λ q. name_cmp e.0 q ≡ Less) (λ q. now q ≡ seconds q)
            (λ q less. other_seconds e.0 second seconds q (not_itself e.0 q less)) (keys_of es)
            sorted.0)) i)
            ∙ ap (λ o. put_entry c e.0 o (now e.0) ++ put_entries c E (keys_of es) now) (sym got),
      )

-- ---- what the deletes become

pub deletes_made : (m : Given) (paths : List (List ℕ)) (xs : List Effect)
    → ArePlanned (deletes_of m paths) xs
    → xs ≡ removes (filter (λ p. not (is_some (get name_cmp m p))) paths)
deletes_made m [] [] planned = refl
deletes_made m [] (x ∷ xs) planned = absurd planned
deletes_made m (p ∷ ps) xs planned =
    go (is_some (get name_cmp m p)) refl xs planned (deletes_made m ps)
  where
    go : (b : Bool) → is_some (get name_cmp m p) ≡ b → (xs : List Effect)
        → ArePlanned (cond b [] (Delete p ∷ []) ++ deletes_of m ps) xs
        → ((ys : List Effect) → ArePlanned (deletes_of m ps) ys
        → ys ≡ removes (filter (λ q. not (is_some (get name_cmp m q))) ps))
        → xs ≡ removes (filter (λ q. not (is_some (get name_cmp m q))) (p ∷ ps))
    go true e xs planned rest = rw e (rest xs planned)
    go false e [] planned rest = absurd planned
    go false e (Stores at bytes second ∷ xs) planned rest = absurd planned.0
    go false e (Removes at ∷ xs) planned rest =
        rw e
        ((λ i. Removes (planned.0 i) ∷ rest xs planned.1 i))

filter_alike : (g h : List ℕ → Bool) → ((q : List ℕ) → g q ≡ h q) → (ps : List (List ℕ))
    → filter g ps ≡ filter h ps
filter_alike g h same [] = refl
filter_alike g h same (p ∷ ps) =
    ap (λ b. cond b (p ∷ filter g ps) (filter g ps)) (same p)
    ∙ ap (λ l. cond (h p) (p ∷ l) l) (filter_alike g h same ps)

-- ---- look-ups in both kinds of maps

pub find_is : {X : Type 0} (q : List ℕ) (es : List (List ℕ × X))
    → find by q es ≡ lookup (is_at (name_cmp q)) es
find_is q [] = refl
find_is q (e ∷ es) = ap (λ o. cond (is_eq (name_cmp q e.0)) (Some e.1) o) (find_is q es)

-- ---- what a rebuild makes

module _ (before f : List ℕ) (c : Content) where
  abbrev E : Entries
  E = given_entries before f c

  is_given : IsGiven before c f E
  is_given = entries_given before f c

  module _ (m : Given) (ordered : IsOrdered name_cmp m) (right : AreRightly before f c m)
      (complete : (path bytes : List ℕ) → given_to before c f (kind_of before path) ≡ Some bytes
      → WasGiven m path) where
    alike : (q : List ℕ) → is_some (get name_cmp m q) ≡ is_some (finite.get E q)
    alike q =
        both_ways (is_some (get name_cmp m q)) (is_some (finite.get E q)) there back
      where
        there : is_some (get name_cmp m q) ≡ true → is_some (finite.get E q) ≡ true
        there e = go (get name_cmp m q) refl e
          where
            go : (o : Option Value) → get name_cmp m q ≡ o → is_some o ≡ true
                → is_some (finite.get E q) ≡ true
            go None is e = absurd (cc e)
            go (Some v) is e = ap is_some (is_given q ∙ (right q v is).gives)

        back : is_some (finite.get E q) ≡ true → is_some (get name_cmp m q) ≡ true
        back e = go (finite.get E q) refl e
          where
            go : (o : Option (List ℕ)) → finite.get E q ≡ o → is_some o ≡ true
                → is_some (get name_cmp m q) ≡ true
            go None is e = absurd (cc e)
            go (Some bytes) is e = complete q bytes (sym (is_given q) ∙ is)

    keys_alike : keys_of m.entries ≡ finite.keys E
    keys_alike =
        keys_same m.entries (finite.entries E) (sorted_of m.entries ordered)
        (finite.entries_sorted E)
        (λ q. ap is_some (find_is q m.entries) ∙ alike q ∙ ap is_some (finite.get-entries E q))

    values_alike : AllByRecursion (IsAlike c E) m.entries
    values_alike =
        all_with (λ (e : List ℕ × Value). get name_cmp m e.0 ≡ Some e.1) (IsAlike c E)
        (λ e is.
        let rightly = right e.0 e.1 is in
        (rightly.bytes, is_given e.0 ∙ rightly.gives, rightly.value_is)) m.entries
        (recursion_from_All (λ (e : List ℕ × Value). get name_cmp m e.0 ≡ Some e.1) m.entries
        (All-found nat_list_cmp_total m ordered))

    module _ (sizes : BTreeMap (List ℕ) ℕ) (rising : IsOrdered name_cmp sizes)
        (sized : AreSizes before f c sizes) where
      paths_alike : keys_of sizes.entries ≡ paths_of before c (is_entry_of_node f)
      paths_alike =
          let test = λ (p : List ℕ). is_entry_of_node f (kind_of before p) in
          let part = finite.retain_keys c test in
          keys_same sizes.entries (finite.entries part) (sorted_of sizes.entries rising)
          (finite.entries_sorted part)
          (λ q. ap is_some (find_is q sizes.entries ∙ sized q)
          ∙ stands (test q) (finite.get c q)
          ∙ ap is_some (sym (get_kept c test q) ∙ finite.get-entries part q))
        where
          stands : (b : Bool) (o : Option Object)
              → is_some (cond b (size_in o) None) ≡ is_some (cond b o None)
          stands true None = refl
          stands true (Some o) = refl
          stands false o = refl

      deletes_alike : filter (λ p. not (is_some (get name_cmp m p))) (keys_of sizes.entries)
          ≡ not_given before c f E
      deletes_alike =
          filter_alike (λ p. not (is_some (get name_cmp m p)))
          (λ p. not (finite.contains_key E p)) (λ q. ap not (alike q)) (keys_of sizes.entries)
          ∙ ap (filter (λ p. not (finite.contains_key E p))) paths_alike

      -- where the mend becomes its list, the whole plan becomes that of a rebuild
      pub rebuilt : (mend : List Planned)
          → ((xs : List Effect) → ArePlanned mend xs
          → (seconds : ℕ → ℕ) × (xs ≡ changes_of_mend before c f [] seconds))
          → DoAllRead before c f [] → (xs : List Effect)
          → ArePlanned (mend ++ (deletes_of m (keys_of sizes.entries) ++ puts_of m.entries)) xs
          → IsRebuildOf before c f xs
      rebuilt mend mends read xs planned =
          let (ms, ds, is, first, later) = planned_apart mend
          (deletes_of m (keys_of sizes.entries) ++ puts_of m.entries) xs planned in
          let (ys, zs, parts, second, third) = planned_apart
          (deletes_of m (keys_of sizes.entries)) (puts_of m.entries) ds later in
          let mended = mends ms first in
          let puts = puts_made c E m.entries ordered values_alike zs third in
          record {
            read = read;
            made = record {
              entries = E;
              given = is_given;
              of_mend = mended.0;
              of_entries = puts.0;
              list =
                  is ∙ ap (λ l. l ++ ds) mended.1
                  ∙ ap (λ l. changes_of_mend before c f [] mended.0 ++ l)
                  (parts
                  ∙ ap (λ l. l ++ zs)
                  (deletes_made m (keys_of sizes.entries) ys second ∙ ap removes deletes_alike)
                  ∙ ap (λ l. removes (not_given before c f E) ++ l)
                  (puts.1 ∙ ap (λ ks. put_entries c E ks puts.0) keys_alike));
            };
          }

-- ---- plans that grow

pub deletes_push : (m : Given) (plan before after : List Planned) (es : List (List ℕ × ℕ))
    (path : List ℕ) (size : ℕ) → before ≡ plan ++ deletes_of m (keys_of es)
    → after ≡ before ++ delete_unless m path
    → after ≡ plan ++ deletes_of m (keys_of (es ++ (path, size) ∷ []))
deletes_push m plan before after es path size first more =
    more ∙ ap (λ l. l ++ delete_unless m path) first
    ∙ append_assoc plan (deletes_of m (keys_of es)) (delete_unless m path)
    ∙ ap (λ l. plan ++ l) (sym (grown es))
  where
    grown : (es : List (List ℕ × ℕ)) → deletes_of m (keys_of (es ++ (path, size) ∷ []))
        ≡ deletes_of m (keys_of es) ++ delete_unless m path
    grown [] = append-nil (delete_unless m path)
    grown (e ∷ es) =
        ap (λ l. delete_unless m e.0 ++ l) (grown es)
        ∙ sym (append_assoc (delete_unless m e.0) (deletes_of m (keys_of es))
        (delete_unless m path))

pub puts_push : (plan before after : List Planned) (es : List (List ℕ × Value)) (path : List ℕ)
    (value : Value) → before ≡ plan ++ puts_of es → after ≡ before ++ put_of path value
    → after ≡ plan ++ puts_of (es ++ (path, value) ∷ [])
puts_push plan before after es path value first more =
    more ∙ ap (λ l. l ++ put_of path value) first
    ∙ append_assoc plan (puts_of es) (put_of path value) ∙ ap (λ l. plan ++ l) (sym (grown es))
  where
    grown : (es : List (List ℕ × Value)) → puts_of (es ++ (path, value) ∷ [])
        ≡ puts_of es ++ put_of path value
    grown [] = append-nil (put_of path value)
    grown (e ∷ es) =
        ap (λ l. put_of e.0 e.1 ++ l) (grown es)
        ∙ sym (append_assoc (put_of e.0 e.1) (puts_of es) (put_of path value))
