-- Where the objects behind the end of a page begin, and what a page has of them.
use Rattle.std.proofs.Common.{◌≡◌, ◌∙◌, ◌<◌, ◌≤◌, ◌+◌, ◌-◌, ◌==◌, min, ℕ, zero, suc, Bool, true, false, List, [], ◌∷◌, ◌++◌, Option, Some, None, take, drop, length, get_or, slice_get, IfSome, inl, inr, refl, sym, ap, append-nil, arith, map, leb-true, leb-false}
use Rattle.std.specs.Prelude.{nat_le, if◌then◌else◌}
use Rattle.std.specs.Ordering.{is_lt}
use Rattle.std.specs.Cmp.{tied_back}
use Rattle.std.specs.Cmp.Lexicographic.{nat_list_cmp_total}
use Rattle.std.specs.FinMap.{entries}
use Rattle.std.proofs.Math.Seq.{drop-nil, take-nil}
use Rattle.std.proofs.lemmas.Bool.{cases_lt, eqb-true, eq-eqb}
use Rattle.std.proofs.lemmas.List.{length-take, map-append}
use Rattle.std.proofs.lemmas.List.Elements.{filter-append}
use Rattle.std.specs.List.{filter}
use Rattle.med_base.proofs.Lists.{map_next}
use Rattle.med_base.specs.Content.{Content, Object, is_under}
use Rattle.med_outside.specs.Storage.{entry_of}
use Rattle.med_outside.specs.Pages.{page_size, page_end, last_path, is_behind, behind, left_of, IsPage, CountsDown, CountsRight}
use Rattle.med_outside.specs.declared.storage.Entry.{Entry}
use Rattle.med_outside.specs.declared.storage.Page.{Page}
use Rattle.med_outside.specs.declared.storage.PageEnd.{PageEnd}
use Rattle.med_mem.specs.declared.object.MemObject.{MemObject}
use Rattle.med_mem.specs.Objects.{pairs, object_of, listed_under, IsThere, IsGap}
use Rattle.med_mem.specs.Pages.{those_behind, listed_behind, HasFirst}
use Rattle.med_mem.proofs.Places.{by, turned_less, turned_greater}

-- ---- where they begin

-- the objects from a place on, where those before it aren't behind the end, and they are
from_place : (end : PageEnd) (os : List MemObject) (i : ℕ)
    → ((k : ℕ) (d : MemObject) → k < i → is_lt (by end.path (get_or os k d).path) ≡ false)
    → ((k : ℕ) (d : MemObject) → i ≤ k → k < length os
    → is_lt (by end.path (get_or os k d).path) ≡ true)
    → pairs (drop i os) ≡ those_behind (Some end) (pairs os)
from_place end [] i before from = ap pairs (drop-nil i)
from_place end (o ∷ os) zero before from =
    let rest = from_place end os zero (λ k d a. absurd (omega (arith, a)))
    (λ k d a b. from (suc k) d (omega arith) (omega (arith, b))) in
    rw (from 0 o (omega arith) (omega arith)) (ap (λ t. (o.path, object_of o) ∷ t) rest)
from_place end (o ∷ os) (suc i) before from =
    rw (before 0 o (omega arith))
    (from_place end os i (λ k d a. before (suc k) d (omega (arith, a)))
    (λ k d a b. from (suc k) d (omega (arith, a)) (omega (arith, b))))

not_behind : (end : PageEnd) (os : List MemObject) (i : ℕ) → IsThere os end.path i → (k : ℕ)
    (d : MemObject) → k < i + 1 → is_lt (by end.path (get_or os k d).path) ≡ false
not_behind end os i there k d less = elim (cases_lt k i) [
  | inl lower ↦
      ap is_lt (turned_less (get_or os k d).path end.path (there.below k d (omega arith) lower))
  | inr upper ↦
      let same : k ≡ i = omega (arith, less, upper) in
      rw same
      (ap is_lt (tied_back nat_list_cmp_total (get_or os i d).path end.path (there.here d)))
]

-- behind the place of the end itself
pub behind_there : (end : PageEnd) (os : List MemObject) (i : ℕ) → IsThere os end.path i
    → pairs (drop (i + 1) os) ≡ those_behind (Some end) (pairs os)
behind_there end os i there =
    from_place end os (i + 1) (not_behind end os i there)
    (λ k d a b. ap is_lt (turned_greater (get_or os k d).path end.path (there.above k d a b)))

-- from the place on where the end itself belongs
pub behind_gap : (end : PageEnd) (os : List MemObject) (i : ℕ) → IsGap os end.path i
    → pairs (drop i os) ≡ those_behind (Some end) (pairs os)
behind_gap end os i gap =
    from_place end os i
    (λ k d a. ap is_lt (turned_less (get_or os k d).path end.path (gap.below k d (omega arith) a)))
    (λ k d a b. ap is_lt (turned_greater (get_or os k d).path end.path (gap.above k d a b)))

-- all of them where there is no end
pub behind_none : (es : List (List ℕ × Object)) → es ≡ those_behind None es
behind_none [] = refl
behind_none (e ∷ es) = ap (λ t. e ∷ t) (behind_none es)

-- ---- what a page has

-- those behind the end under a text are those under the text behind the end
pub listed_those : (text : List ℕ) (after : Option PageEnd) (es : List (List ℕ × Object))
    → listed_under text (those_behind after es) ≡ listed_behind text after es
listed_those text after [] = refl
listed_those text after (e ∷ es) = go _ _ refl refl (listed_those text after es)
  where
    go : (b u : Bool) → is_behind after e.0 ≡ b → is_under text e.0 ≡ u
        → listed_under text (those_behind after es) ≡ listed_behind text after es
        → listed_under text (those_behind after (e ∷ es)) ≡ listed_behind text after (e ∷ es)
    go true true p q rest = rw (p, q, p) (ap (λ t. entry_of e ∷ t) rest)
    go true false p q rest = rw (p, q) rest
    go false true p q rest = rw (p, q, p) rest
    go false false p q rest = rw (p, q) rest

-- what a test of two numbers tells of their difference
no_rest : (n m : ℕ) → nat_le n m ≡ (n - m == 0)
no_rest n m = go _ _ refl refl
  where
    go : (b d : Bool) → nat_le n m ≡ b → (n - m == 0) ≡ d → nat_le n m ≡ (n - m == 0)
    go true true e f = e ∙ sym f
    go true false e f =
        let le = leb-true n m e in e ∙ sym (eq-eqb (n - m) 0 (omega (arith, le)))
    go false true e f =
        absurd
        (let none = eqb-true (n - m) 0 f in
        let less = leb-false n m e in
        omega (arith, none, less))
    go false false e f = e ∙ sym f

-- the end of a page of some size
abbrev ended : ℕ → List Entry → Option PageEnd
ended size all =
    if nat_le (length all) size then None
    else Some (record { path = last_path (take size all); left = length all - size })

-- the same by the number that is left
abbrev ended_by : List Entry → ℕ → Option PageEnd
ended_by shown left =
    if left == 0 then None else Some (record { path = last_path shown; left = left })

ended_is : (size : ℕ) (all : List Entry)
    → ended_by (take size all) (length all - size) ≡ ended size all
ended_is size all =
    ap (λ (b : Bool). if b then None
    else Some (record { path = last_path (take size all); left = length all - size }))
    (sym (no_rest (length all) size))

-- what is left behind the first entries, of a page that has them
pub has_first : (all items : List Entry) (left : ℕ) (page : Page) → items ≡ all
    → page.entries.items ≡ take page_size items → left ≡ length items - page_size
    → page.end ≡ ended_by page.entries.items left → HasFirst all page
has_first all items left page are first rest end =
    let entries_are = first ∙ ap (take page_size) are in
    record {
      entries = entries_are;
      end_is =
          end
          ∙ ap (ended_by page.entries.items)
          (rest ∙ ap (λ (l : List Entry). length l - page_size) are)
          ∙ ap (λ (l : List Entry). ended_by l (length all - page_size)) entries_are
          ∙ ended_is page_size all;
    }

-- ---- the first of them, object by object

-- one more, where the first aren't full
take_short : {A : Type 0} (n : ℕ) (xs : List A) (x : A) → length (take n xs) < n
    → take n (xs ++ x ∷ []) ≡ take n xs ++ x ∷ []
take_short zero xs x short = absurd (omega (arith, short))
take_short {A} (suc n) [] x short = ap (λ (ys : List A). x ∷ ys) (take-nil n)
take_short {A} (suc n) (y ∷ xs) x short =
    ap (λ (ys : List A). y ∷ ys) (take_short n xs x (omega (arith, short)))

-- no more, where they are full
take_full : {A : Type 0} (n : ℕ) (xs : List A) (x : A) → n ≤ length (take n xs)
    → take n (xs ++ x ∷ []) ≡ take n xs
take_full zero xs x full = refl
take_full (suc n) [] x full = absurd (omega (arith, full))
take_full {A} (suc n) (y ∷ xs) x full =
    ap (λ (ys : List A). y ∷ ys) (take_full n xs x (omega (arith, full)))

module _ (text : List ℕ) (os : List MemObject) (i : ℕ) (o : MemObject) (lt : i < length os)
    (at : o ≡ get_or os i o) where
  -- the entries of the objects up to a place
  abbrev to : ℕ → List Entry
  to k = listed_under text (pairs (take k os))

  abbrev here : Entry
  here = entry_of (o.path, object_of o)

  more : pairs (take (i + 1) os) ≡ pairs (take i os) ++ (o.path, object_of o) ∷ []
  more = map_next (λ (q : MemObject). (q.path, object_of q)) os i o lt at

  abbrev under : List (List ℕ × Object) → List (List ℕ × Object)
  under = filter (λ (e : List ℕ × Object). is_under text e.0)

  listed_more : to (i + 1)
      ≡ to i ++ map entry_of (under ((o.path, object_of o) ∷ []))
  listed_more =
      ap (listed_under text) more
      ∙ ap (map entry_of) (filter-append _ (pairs (take i os)) _)
      ∙ map-append entry_of (under (pairs (take i os))) _

  -- an object that is listed, and one that isn't
  to_next : is_under text o.path ≡ true → to (i + 1) ≡ to i ++ here ∷ []
  to_next is = listed_more ∙ rw is refl

  to_same : is_under text o.path ≡ false → to (i + 1) ≡ to i
  to_same is = listed_more ∙ rw is (append-nil (to i))

  module _ (xs : List Entry) (are : xs ≡ take page_size (to i)) where
    -- one more is listed
    pub first_next : length xs < page_size → is_under text o.path ≡ true
        → xs ++ here ∷ [] ≡ take page_size (to (i + 1))
    first_next short is =
        let room : length (take page_size (to i)) < page_size =
        omega (arith, short, ap length (sym are)) in
        ap (λ (l : List Entry). l ++ here ∷ []) are
        ∙ sym (take_short page_size (to i) here room)
        ∙ ap (take page_size) (sym (to_next is))

    -- it isn't listed
    pub first_other : is_under text o.path ≡ false → xs ≡ take page_size (to (i + 1))
    first_other is = are ∙ ap (take page_size) (sym (to_same is))

    -- the page is full
    pub first_full : page_size ≤ length xs → xs ≡ take page_size (to (i + 1))
    first_full full = go (is_under text o.path) refl
      where
        go : (b : Bool) → is_under text o.path ≡ b → xs ≡ take page_size (to (i + 1))
        go false is = first_other is
        go true is =
            let held : page_size ≤ length (take page_size (to i)) =
            omega (arith, full, ap length (sym are)) in
            are
            ∙ sym (take_full page_size (to i) here held)
            ∙ ap (take page_size) (sym (to_next is))

abbrev pub path_of : Option Entry → List ℕ
path_of None = []
path_of (Some e) = e.path

pub last_at : (es : List Entry) → path_of (slice_get es (length es - 1)) ≡ last_path es
last_at [] = refl
last_at (e ∷ []) = refl
last_at (e ∷ (f ∷ es)) =
    let there : length (e ∷ (f ∷ es)) - 1 ≡ suc (length (f ∷ es) - 1) = omega arith in
    ap (λ k. path_of (slice_get (e ∷ (f ∷ es)) k)) there ∙ last_at (f ∷ es)

pub is_page : (text : List ℕ) (after : Option PageEnd) (c : Content)
    (es : List (List ℕ × Object)) (page : Page) → es ≡ entries c
    → HasFirst (listed_behind text after es) page → IsPage text after c page
is_page text after c es page held first = record {
  entries = first.entries ∙ ap (λ l. take page_size (listed_behind text after l)) held;
  end_is = first.end_is ∙ ap (λ l. page_end (listed_behind text after l)) held;
}

left_is : (size : ℕ) (all : List Entry) → left_of (ended size all) ≡ length all - size
left_is size all = go (nat_le (length all) size) refl
  where
    go : (b : Bool) → nat_le (length all) size ≡ b → left_of (ended size all) ≡ length all - size
    go true e = let le = leb-true (length all) size e in rw e (omega (arith, le))
    go false e = rw e refl

some_left : (size : ℕ) (all : List Entry) → IfSome (ended size all) (λ end. 0 < end.left)
some_left size all = go (nat_le (length all) size) refl
  where
    go : (b : Bool) → nat_le (length all) size ≡ b
        → IfSome (ended size all) (λ end. 0 < end.left)
    go true e = rw e tt
    go false e = let less = leb-false (length all) size e in rw e (omega (arith, less))

module _ (size : ℕ) (all : List Entry) (page : Page) (items : page.entries.items ≡ take size all)
    (end_is : page.end ≡ ended size all) where
  page_length : length page.entries.items ≡ min size (length all)
  page_length = ap length items ∙ length-take size all

  page_left : left_of page.end ≡ length all - size
  page_left = ap left_of end_is ∙ left_is size all

  no_more : length page.entries.items ≤ size
  no_more = omega (arith, page_length)

  page_sum : (end : Option PageEnd) → IfSome end (λ e. e.left ≡ length all)
      → IfSome end (λ e. length page.entries.items + left_of page.end ≡ e.left)
  page_sum None right = tt
  page_sum (Some e) right = omega (arith, page_length, page_left, right)

  goes_on : 0 < size → (end : Option PageEnd) → IfSome end (λ e. e.left ≡ length all)
      → IfSome end (λ e. 0 < e.left → 0 < length page.entries.items)
  goes_on sized None right = tt
  goes_on sized (Some e) right = λ some. omega (arith, page_length, right, some, sized)

  ends_with_some : IfSome page.end (λ end. 0 < end.left)
  ends_with_some = rw end_is (some_left size all)

pub counts_down : (text : List ℕ) (after : Option PageEnd) (c : Content) (page : Page)
    → IsPage text after c page → CountsRight text after (Some c) → CountsDown after page
counts_down text after c page is right =
    let all = behind text after c in
    record {
      size = no_more page_size all page is.entries is.end_is;
      sum = page_sum page_size all page is.entries is.end_is after right;
      goes_on = goes_on page_size all page is.entries is.end_is (omega arith) after right;
      some_left = ends_with_some page_size all page is.entries is.end_is;
    }
