-- Where a path stands among objects in order, and what an edit at that place leaves.
use Rattle.std.proofs.Common.{◌≡◌, ◌∙◌, ◌<◌, ◌≤◌, ℕ, zero, suc, Bool, true, false, not, List, [], ◌∷◌, Some, None, Result, Ok, Err, IfOk, IfErr, length, get_or, set, insert, remove, IsTrue, refl, sym, ap, arith}
use Rattle.std.proofs.lemmas.Bool.{and_parts}
use Rattle.std.specs.declared.cmp.Ordering.{Ordering}
use Rattle.std.specs.declared.cmp.Ordering.TheVariants.{Less, Equal, Greater}
use Rattle.std.specs.List.Sorted.{IsNonDecreasingBy, IsSearchInRange, IsBinarySearchResult}
use Rattle.std.specs.Ordering.{nat_cmp, is_lt, is_eq, ordering_index, ordering_reverse}
use Rattle.std.specs.Cmp.{alike_right, tied_back}
use Rattle.std.specs.Cmp.Lexicographic.{slice_cmp, nat_list_cmp_total}
use Rattle.std.specs.FinMap.Entries.{find, below_all}
use Rattle.med_base.specs.Content.{Object}
use Rattle.med_mem.specs.declared.object.MemObject.{MemObject}
use Rattle.med_mem.specs.Objects.{pairs, object_of, put_at, is_other, without_path, compared, AreInOrder, IsThere, IsGap}

abbrev pub by : (a b : List ℕ) → Ordering
by = slice_cmp nat_cmp

-- ---- the order of paths

lower : (o : Ordering) → is_lt o ≡ true → o ≡ Less
lower Less e = refl
lower Equal e = absurd (cc)
lower Greater e = absurd (cc)

turned : (a b : List ℕ) → by b a ≡ ordering_reverse (by a b)
turned a b = nat_list_cmp_total.antisymm b a

pub turned_less : (a b : List ℕ) → by a b ≡ Less → by b a ≡ Greater
turned_less a b e = turned a b ∙ ap ordering_reverse e

pub turned_greater : (a b : List ℕ) → by a b ≡ Greater → by b a ≡ Less
turned_greater a b e = turned a b ∙ ap ordering_reverse e

at_most_two : (o : Ordering) → ordering_index o ≤ 2
at_most_two Less = omega arith
at_most_two Equal = omega arith
at_most_two Greater = omega arith

-- the comparisons of a lower path with a third one are no greater
ranked : (a b path : List ℕ) → by a b ≡ Less
    → ordering_index (by a path) ≤ ordering_index (by b path)
ranked a b path less = go (by b path) refl
  where
    go : (o : Ordering) → by b path ≡ o → ordering_index (by a path) ≤ ordering_index (by b path)
    go Less e = rw (e, nat_list_cmp_total.trans a b path less e) (omega arith)
    go Equal e = rw (e, sym (alike_right nat_list_cmp_total b path a e) ∙ less) (omega arith)
    go Greater e = rw e (at_most_two (by a path))

-- ---- objects in order

below_at : (p : List ℕ) (os : List MemObject) (i : ℕ) (d : MemObject)
    → IsTrue (below_all (slice_cmp nat_cmp) p (pairs os)) → i < length os
    → by p (get_or os i d).path ≡ Less
below_at p [] i d h lt = absurd (omega arith)
below_at p (o ∷ os) zero d h lt = lower _ (and_parts _ _ h).0
below_at p (o ∷ os) (suc i) d h lt = below_at p os i d (and_parts _ _ h).1 (omega arith)

rising : (os : List MemObject) (i j : ℕ) (d : MemObject) → AreInOrder os → i < j → j < length os
    → by (get_or os i d).path (get_or os j d).path ≡ Less
rising [] i j d h less lt = absurd (omega arith)
rising (o ∷ os) i zero d h less lt = absurd (omega arith)
rising (o ∷ os) zero (suc j) d h less lt =
    below_at o.path os j d (and_parts _ _ h).0 (omega arith)
rising (o ∷ os) (suc i) (suc j) d h less lt =
    rising os i j d (and_parts _ _ h).1 (omega arith) (omega arith)

-- as a binary search asks
comparisons_rise : (os : List MemObject) (path : List ℕ) → AreInOrder os
    → IsNonDecreasingBy (λ (o : MemObject). ordering_index (compared path o)) os
comparisons_rise [] path h i j d le lt = absurd (omega arith)
comparisons_rise (o ∷ os) path h zero zero d le lt = omega arith
comparisons_rise (o ∷ os) path h (suc i) zero d le lt = absurd (omega arith)
comparisons_rise (o ∷ os) path h zero (suc j) d le lt =
    ranked o.path (get_or os j d).path path
    (below_at o.path os j d (and_parts _ _ h).0 (omega arith))
comparisons_rise (o ∷ os) path h (suc i) (suc j) d le lt =
    comparisons_rise os path (and_parts _ _ h).1 i j d (omega arith) (omega arith)

module _ (os : List MemObject) (path : List ℕ) (h : AreInOrder os) where
  pub place_found : (r : Result ℕ ℕ) → IsSearchInRange r (length os)
      → IsBinarySearchResult (compared path) os r → IfOk r (IsThere os path)
  place_found (Ok i) within here = record {
    within = within;
    here = here;
    below = λ k d a b.
        let at = (get_or os i d).path in
        let before = (get_or os k d).path in
        sym (alike_right nat_list_cmp_total at path before (here d)) ∙ rising os k i d h b within;
    above = λ k d a b.
        let at = (get_or os i d).path in
        let behind = (get_or os k d).path in
        turned_less path behind
        (sym (nat_list_cmp_total.congr at path behind (here d))
        ∙ rising os i k d h (omega arith) b);
  }
  place_found (Err i) within parts = tt

  pub place_gap : (r : Result ℕ ℕ) → IsSearchInRange r (length os)
      → IsBinarySearchResult (compared path) os r → IfErr r (IsGap os path)
  place_gap (Ok i) within here = tt
  place_gap (Err i) within parts =
      let both = parts (comparisons_rise os path h) in
      record { within = within; below = both.0; above = both.1 }

-- ---- edits

module _ (path : List ℕ) (v : Object) (n : MemObject) (named : n.path ≡ path)
    (is : object_of n ≡ v) where
  pub inserted : (os : List MemObject) (i : ℕ) → IsGap os path i
      → pairs (insert os i n) ≡ put_at path v (pairs os)
  inserted [] zero gap = λ j. (named j, is j) ∷ []
  inserted [] (suc i) gap = absurd (omega (arith, gap.within))
  inserted (o ∷ os) zero gap =
      let greater = gap.above 0 o (omega arith) (omega arith) in
      rw (turned_greater o.path path greater) (λ j. (named j, is j) ∷ pairs (o ∷ os))
  inserted (o ∷ os) (suc i) gap =
      let less = gap.below 0 o (omega arith) (omega arith) in
      rw (turned_less o.path path less)
      (ap (λ t. (o.path, object_of o) ∷ t)
      (inserted os i record {
        within = omega (arith, gap.within);
        below = λ k d a b. gap.below (suc k) d (omega arith) (omega (arith, b));
        above = λ k d a b. gap.above (suc k) d (omega (arith, a)) (omega (arith, b));
      }))

tail_there : (o : MemObject) (os : List MemObject) (path : List ℕ) (i : ℕ)
    → IsThere (o ∷ os) path (suc i) → IsThere os path i
tail_there o os path i there = record {
  within = omega (arith, there.within);
  here = there.here;
  below = λ k d a b. there.below (suc k) d (omega arith) (omega (arith, b));
  above = λ k d a b. there.above (suc k) d (omega (arith, a)) (omega (arith, b));
}

-- an object that has the path of the one in whose place it comes
pub replaced : (path : List ℕ) (v : Object) (n : MemObject) → object_of n ≡ v
    → (os : List MemObject) (i : ℕ) (d : MemObject) → n.path ≡ (get_or os i d).path
    → IsThere os path i → pairs (set os i n) ≡ put_at path v (pairs os)
replaced path v n is [] i d same there = absurd (omega (arith, there.within))
replaced path v n is (o ∷ os) zero d same there =
    rw (tied_back nat_list_cmp_total o.path path (there.here o))
    (λ j. (same j, is j) ∷ pairs os)
replaced path v n is (o ∷ os) (suc i) d same there =
    let less = there.below 0 o (omega arith) (omega arith) in
    rw (turned_less o.path path less)
    (ap (λ t. (o.path, object_of o) ∷ t)
    (replaced path v n is os i d same (tail_there o os path i there)))

-- where all paths are others, nothing is left out
none_left_out : (path : List ℕ) (os : List MemObject)
    → ((k : ℕ) (d : MemObject) → k < length os → is_other path (get_or os k d).path ≡ true)
    → pairs os ≡ without_path path (pairs os)
none_left_out path [] others = refl
none_left_out path (o ∷ os) others =
    let rest = none_left_out path os (λ k d lt. others (suc k) d (omega (arith, lt))) in
    rw (others 0 o (omega arith)) (ap (λ t. (o.path, object_of o) ∷ t) rest)

other_lower : (path : List ℕ) (o : MemObject) → compared path o ≡ Less
    → is_other path o.path ≡ true
other_lower path o e = ap (λ r. not (is_eq r)) (turned_less o.path path e)

other_greater : (path : List ℕ) (o : MemObject) → compared path o ≡ Greater
    → is_other path o.path ≡ true
other_greater path o e = ap (λ r. not (is_eq r)) (turned_greater o.path path e)

same_path : (path : List ℕ) (o : MemObject) → compared path o ≡ Equal
    → is_other path o.path ≡ false
same_path path o e =
    ap (λ r. not (is_eq r)) (tied_back nat_list_cmp_total o.path path e)

pub removed : (path : List ℕ) (os : List MemObject) (i : ℕ) → IsThere os path i
    → pairs (remove os i) ≡ without_path path (pairs os)
removed path [] i there = absurd (omega (arith, there.within))
removed path (o ∷ os) zero there =
    rw (same_path path o (there.here o))
    (none_left_out path os (λ k d lt.
    other_greater path (get_or os k d) (there.above (suc k) d (omega arith) (omega (arith, lt)))))
removed path (o ∷ os) (suc i) there =
    let less = there.below 0 o (omega arith) (omega arith) in
    rw (other_lower path o less)
    (ap (λ t. (o.path, object_of o) ∷ t) (removed path os i (tail_there o os path i there)))

tail_gap : (o : MemObject) (os : List MemObject) (path : List ℕ) (i : ℕ)
    → IsGap (o ∷ os) path (suc i) → IsGap os path i
tail_gap o os path i gap = record {
  within = omega (arith, gap.within);
  below = λ k d a b. gap.below (suc k) d (omega arith) (omega (arith, b));
  above = λ k d a b. gap.above (suc k) d (omega (arith, a)) (omega (arith, b));
}

pub absent : (path : List ℕ) (os : List MemObject) (i : ℕ) → IsGap os path i
    → pairs os ≡ without_path path (pairs os)
absent path [] i gap = refl
absent path (o ∷ os) zero gap =
    none_left_out path (o ∷ os) (λ k d lt.
    other_greater path (get_or (o ∷ os) k d) (gap.above k d (omega arith) lt))
absent path (o ∷ os) (suc i) gap =
    let less = gap.below 0 o (omega arith) (omega arith) in
    rw (other_lower path o less)
    (ap (λ t. (o.path, object_of o) ∷ t) (absent path os i (tail_gap o os path i gap)))

-- ---- look-ups

pub find_there : (path : List ℕ) (os : List MemObject) (i : ℕ) (d : MemObject)
    → IsThere os path i
    → Some (object_of (get_or os i d)) ≡ find (slice_cmp nat_cmp) path (pairs os)
find_there path [] i d there = absurd (omega (arith, there.within))
find_there path (o ∷ os) zero d there =
    rw (tied_back nat_list_cmp_total o.path path (there.here o)) refl
find_there path (o ∷ os) (suc i) d there =
    let less = there.below 0 o (omega arith) (omega arith) in
    rw (turned_less o.path path less) (find_there path os i d (tail_there o os path i there))

is_false : (b : Bool) → not b ≡ true → b ≡ false
is_false true e = absurd (cc)
is_false false e = refl

find_none : (path : List ℕ) (os : List MemObject)
    → ((k : ℕ) (d : MemObject) → k < length os → is_other path (get_or os k d).path ≡ true)
    → None ≡ find (slice_cmp nat_cmp) path (pairs os)
find_none path [] others = refl
find_none path (o ∷ os) others =
    let rest = find_none path os (λ k d lt. others (suc k) d (omega (arith, lt))) in
    rw (is_false _ (others 0 o (omega arith))) rest

pub find_gap : (path : List ℕ) (os : List MemObject) (i : ℕ) → IsGap os path i
    → None ≡ find (slice_cmp nat_cmp) path (pairs os)
find_gap path [] i gap = refl
find_gap path (o ∷ os) zero gap =
    find_none path (o ∷ os) (λ k d lt.
    other_greater path (get_or (o ∷ os) k d) (gap.above k d (omega arith) lt))
find_gap path (o ∷ os) (suc i) gap =
    let less = gap.below 0 o (omega arith) (omega arith) in
    rw (turned_less o.path path less) (find_gap path os i (tail_gap o os path i gap))
