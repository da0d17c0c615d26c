-- Pages in a row: what comes behind the end of a page is what the page left.
use Rattle.std.proofs.Common.{◌≡◌, ◌∙◌, ◌≤◌, ◌<◌, ◌+◌, ◌-◌, ◌&&◌, ℕ, zero, suc, Bool, true, false, List, [], ◌∷◌, ◌++◌, map, Option, Some, None, take, drop, length, IfSome, T, refl, sym, ap, subst, arith, append_assoc, leb-true, leb-false}
use Rattle.std.specs.Prelude.{nat_le, if◌then◌else◌}
use Rattle.std.specs.List.{filter, AllByRecursion}
use Rattle.std.specs.declared.cmp.Ordering.{Ordering}
use Rattle.std.specs.declared.cmp.Ordering.TheVariants.{Less, Equal, Greater}
use Rattle.std.specs.Ordering.{nat_cmp, is_lt, ordering_reverse}
use Rattle.std.specs.Cmp.Lexicographic.{slice_cmp, nat_list_cmp_total}
use Rattle.std.specs.FinMap.{entries, entries_sorted}
use Rattle.std.specs.FinMap.Entries.{is_sorted, below_all, is_sorted-where_key}
use Rattle.std.proofs.lemmas.List.{take-append-drop, length-drop}
use Rattle.med_base.specs.Content.{Content, Object, is_under, objects_under}
use Rattle.med_base.specs.Effects.{after_all}
use Rattle.med_outside.specs.Storage.{entry_of, listing}
use Rattle.med_outside.specs.Pages.{page_size, page_end, last_path, is_behind, behind, IsPage, CountsRight}
use Rattle.med_outside.specs.declared.storage.Entry.{Entry}
use Rattle.med_outside.specs.declared.storage.Page.{Page}
use Rattle.med_outside.specs.declared.storage.PageEnd.{PageEnd}

abbrev by : List ℕ → List ℕ → Ordering
by = slice_cmp nat_cmp

abbrev Pair : Type 0
Pair = List ℕ × Object

-- whether an object comes behind a path
abbrev comes_behind : List ℕ → Pair → Bool
comes_behind path e = is_lt (by path e.0)

-- whether it comes behind the end of a page
abbrev comes_after : Option PageEnd → Pair → Bool
comes_after after e = is_behind after e.0

abbrev IsSorted : List Pair → Type 0
IsSorted es = T (is_sorted by es)

left_of : (a b : Bool) → T (a && b) → a ≡ true
left_of true b h = refl
left_of false b h = absurd h

right_of : (a b : Bool) → T (a && b) → T b
right_of true b h = h
right_of false b h = absurd h

both_true : {b : Bool} → b ≡ true → T b
both_true e = subst T (sym e) tt

-- ---- the order of paths

lower : (o : Ordering) → is_lt o ≡ true → o ≡ Less
lower Less e = refl
lower Equal e = absurd (cc)
lower Greater e = absurd (cc)

not_back : (x y : List ℕ) → is_lt (by x y) ≡ true → is_lt (by y x) ≡ false
not_back x y less =
    ap is_lt (nat_list_cmp_total.antisymm y x ∙ ap ordering_reverse (lower (by x y) less))

not_itself : (x : List ℕ) → is_lt (by x x) ≡ false
not_itself x = go (by x x) (nat_list_cmp_total.antisymm x x)
  where
    go : (o : Ordering) → o ≡ ordering_reverse o → is_lt o ≡ false
    go Less e = absurd (cc)
    go Equal e = refl
    go Greater e = refl

in_turn : (x y z : List ℕ) → is_lt (by x y) ≡ true → is_lt (by y z) ≡ true → is_lt (by x z) ≡ true
in_turn x y z a b =
    ap is_lt (nat_list_cmp_total.trans x y z (lower (by x y) a) (lower (by y z) b))

-- what comes behind something that comes behind an end comes behind the end
farther : (after : Option PageEnd) (x y : List ℕ) → is_behind after x ≡ true
    → is_lt (by x y) ≡ true → is_behind after y ≡ true
farther None x y a b = refl
farther (Some end) x y a b = in_turn end.path x y a b

-- ---- where the end of a page stands

all_behind : (path : List ℕ) (es : List Pair) → T (below_all by path es)
    → filter (comes_behind path) es ≡ es
all_behind path [] h = refl
all_behind path (e ∷ es) h =
    rw (left_of _ (below_all by path es) h) (ap (λ l. e ∷ l) (all_behind path es (right_of (is_lt (by path e.0)) _ h)))

below_one : (x : List ℕ) (front : List Pair) (last : Pair) (rest : List Pair)
    → T (below_all by x (front ++ last ∷ rest)) → is_lt (by x last.0) ≡ true
below_one x [] last rest h = left_of (is_lt (by x last.0)) (below_all by x rest) h
below_one x (e ∷ front) last rest h =
    below_one x front last rest (right_of (is_lt (by x e.0)) (below_all by x (front ++ last ∷ rest)) h)

-- behind one of the objects comes the rest
behind_one : (front : List Pair) (last : Pair) (rest : List Pair)
    → IsSorted (front ++ last ∷ rest)
    → filter (comes_behind last.0) (front ++ last ∷ rest) ≡ rest
behind_one [] last rest h =
    rw (not_itself last.0)
    (all_behind last.0 rest (both_true (left_of (below_all by last.0 rest) (is_sorted by rest) h)))
behind_one (e ∷ front) last rest h =
    let later = front ++ last ∷ rest in
    let first = both_true (left_of (below_all by e.0 later) (is_sorted by later) h) in
    rw (not_back e.0 last.0 (below_one e.0 front last rest first))
    (behind_one front last rest (right_of (below_all by e.0 later) (is_sorted by later) h))

-- what comes behind such an object is the same of those behind the end alone
filter_twice : (after : Option PageEnd) (path : List ℕ) → is_behind after path ≡ true
    → (es : List Pair)
    → filter (comes_behind path) es ≡ filter (comes_behind path) (filter (comes_after after) es)
filter_twice after path is [] = refl
filter_twice after path is (e ∷ es) =
    go _ _ refl refl (filter_twice after path is es)
  where
    go : (b a : Bool) → comes_behind path e ≡ b → comes_after after e ≡ a
        → filter (comes_behind path) es ≡ filter (comes_behind path) (filter (comes_after after) es)
        → filter (comes_behind path) (e ∷ es)
        ≡ filter (comes_behind path) (filter (comes_after after) (e ∷ es))
    go true true p q rest = rw (p, q, p) (ap (λ l. e ∷ l) rest)
    go true false p q rest = absurd (let far = farther after path e.0 is p in cc (far, q))
    go false true p q rest = rw (p, q, p) rest
    go false false p q rest = rw (p, q) rest

-- a listing of those that pass a test of their paths
listed : (test : List ℕ → Bool) (es : List Pair)
    → filter (λ (e : Entry). test e.path) (map entry_of es)
    ≡ map entry_of (filter (λ (e : Pair). test e.0) es)
listed test [] = refl
listed test (e ∷ es) = go (test e.0) refl (listed test es)
  where
    go : (b : Bool) → test e.0 ≡ b
        → filter (λ (e : Entry). test e.path) (map entry_of es)
        ≡ map entry_of (filter (λ (e : Pair). test e.0) es)
        → filter (λ (e : Entry). test e.path) (map entry_of (e ∷ es))
        ≡ map entry_of (filter (λ (e : Pair). test e.0) (e ∷ es))
    go true p rest = rw p (ap (λ l. entry_of e ∷ l) rest)
    go false p rest = rw p rest

behind_is : (text : List ℕ) (after : Option PageEnd) (c : Content)
    → behind text after c ≡ map entry_of (filter (comes_after after) (objects_under text c))
behind_is text after c = listed (is_behind after) (objects_under text c)

-- ---- the last of the first ones

map-take : (n : ℕ) (es : List Pair) → take n (map entry_of es) ≡ map entry_of (take n es)
map-take zero es = refl
map-take (suc n) [] = refl
map-take (suc n) (e ∷ es) = ap (λ l. entry_of e ∷ l) (map-take n es)

map-drop : (n : ℕ) (es : List Pair) → drop n (map entry_of es) ≡ map entry_of (drop n es)
map-drop zero es = refl
map-drop (suc n) [] = refl
map-drop (suc n) (e ∷ es) = map-drop n es

length-entries : (es : List Pair) → length (map entry_of es) ≡ length es
length-entries [] = refl
length-entries (e ∷ es) = ap suc (length-entries es)

-- a list that isn't empty, by its last
record HasLast (es : List Pair) : Type 0 where
  front : List Pair
  last : Pair
  is : es ≡ front ++ last ∷ []
  path : last_path (map entry_of es) ≡ last.0

has_last : (e : Pair) (es : List Pair) → HasLast (e ∷ es)
has_last e [] = record { front = []; last = e; is = refl; path = refl }
has_last e (f ∷ es) =
    let more = has_last f es in
    record {
      front = e ∷ more.front;
      last = more.last;
      is = ap (λ l. e ∷ l) more.is;
      path = more.path;
    }

first_has_last : (n : ℕ) (es : List Pair) → 0 < n → n < length es → HasLast (take n es)
first_has_last zero es some more = absurd (omega (arith, some))
first_has_last (suc n) [] some more = absurd (omega (arith, more))
first_has_last (suc n) (e ∷ es) some more = has_last e (take n es)

all_pass : (after : Option PageEnd) (es : List Pair)
    → AllByRecursion (λ (e : Pair). comes_after after e ≡ true) (filter (comes_after after) es)
all_pass after [] = tt
all_pass after (e ∷ es) = go (comes_after after e) refl (all_pass after es)
  where
    go : (b : Bool) → comes_after after e ≡ b
        → AllByRecursion (λ (d : Pair). comes_after after d ≡ true) (filter (comes_after after) es)
        → AllByRecursion (λ (d : Pair). comes_after after d ≡ true)
        (filter (comes_after after) (e ∷ es))
    go true p rest = rw p (p, rest)
    go false p rest = rw p rest

of_one : (P : Pair → Type 0) (front : List Pair) (last : Pair) (rest : List Pair)
    → AllByRecursion P (front ++ last ∷ rest) → P last
of_one P [] last rest all = all.0
of_one P (e ∷ front) last rest all = of_one P front last rest all.1

-- ---- pages in a row

module _ (after : Option PageEnd) (es : List Pair) (sorted : IsSorted es) (n : ℕ) (some : 0 < n)
    (more : n < length (filter (comes_after after) es)) where
  abbrev kept : List Pair
  kept = filter (comes_after after) es

  has : HasLast (take n kept)
  has = first_has_last n kept some more

  kept_is : kept ≡ has.front ++ has.last ∷ drop n kept
  kept_is =
      sym (take-append-drop n kept) ∙ ap (λ l. l ++ drop n kept) has.is
      ∙ append_assoc has.front (has.last ∷ []) (drop n kept)

  passes : is_behind after has.last.0 ≡ true
  passes =
      of_one (λ (e : Pair). comes_after after e ≡ true) has.front has.last (drop n kept)
      (subst (AllByRecursion (λ (e : Pair). comes_after after e ≡ true)) kept_is
      (all_pass after es))

  kept_sorted : IsSorted (has.front ++ has.last ∷ drop n kept)
  kept_sorted = subst IsSorted kept_is (is_sorted-where_key by (is_behind after) es sorted)

  -- what comes behind the last of the first ones is what they leave
  rest_is : filter (comes_behind (last_path (map entry_of (take n kept)))) es ≡ drop n kept
  rest_is =
      ap (λ path. filter (comes_behind path) es) has.path
      ∙ filter_twice after has.last.0 passes es
      ∙ ap (filter (comes_behind has.last.0)) kept_is
      ∙ behind_one has.front has.last (drop n kept) kept_sorted

sorted_under : (text : List ℕ) (c : Content) → IsSorted (objects_under text c)
sorted_under text c =
    is_sorted-where_key by (is_under text) (entries c) (entries_sorted c)

-- the end of a page of some size
abbrev ended : ℕ → List Entry → Option PageEnd
ended size all =
    if nat_le (length all) size then None
    else Some (record { path = last_path (take size all); left = length all - size })

-- what comes behind an end, and nothing where there is none
abbrev pub behind_end : List ℕ → Option PageEnd → Content → List Entry
behind_end text None c = []
behind_end text (Some end) c = behind text (Some end) c

module _ (size : ℕ) (some : 0 < size) (text : List ℕ) (after : Option PageEnd) (c : Content) where
  abbrev all : List Entry
  all = behind text after c

  pairs_left : size < length all
      → behind text (Some (record { path = last_path (take size all); left = length all - size })) c
      ≡ drop size all
  pairs_left more =
      let under = objects_under text c in
      let kept = filter (comes_after after) under in
      let is = behind_is text after c in
      let few = subst (λ (l : List Entry). size < length l) is more in
      let fewer = subst (λ (k : ℕ). size < k) (length-entries kept) few in
      behind_is text (Some (record { path = last_path (take size all); left = length all - size })) c
      ∙ ap (λ l. map entry_of (filter (comes_behind (last_path l)) under))
      (ap (take size) is ∙ map-take size kept)
      ∙ ap (map entry_of) (rest_is after under (sorted_under text c) size some fewer)
      ∙ sym (map-drop size kept) ∙ ap (drop size) (sym is)

  ends_split : behind_end text (ended size all) c ≡ drop size all
  ends_split = go (nat_le (length all) size) refl
    where
      go : (b : Bool) → nat_le (length all) size ≡ b
          → behind_end text (ended size all) c ≡ drop size all
      go true e =
          let le = leb-true (length all) size e in
          let none : length (drop size all) ≡ 0 = length-drop size all ∙ omega (arith, le) in
          rw e (sym (nothing_in (drop size all) none))
        where
          nothing_in : (es : List Entry) → length es ≡ 0 → es ≡ []
          nothing_in [] h = refl
          nothing_in (x ∷ es) h = absurd (omega (arith, h))
      go false e = rw e (pairs_left (leb-false (length all) size e))

  end_counts :
      IfSome (ended size all) (λ end. end.left ≡ length (behind text (ended size all) c))
  end_counts = go (nat_le (length all) size) refl
    where
      go : (b : Bool) → nat_le (length all) size ≡ b
          → IfSome (ended size all) (λ end. end.left ≡ length (behind text (ended size all) c))
      go true e = rw e tt
      go false e =
          rw e
          (sym (ap length (pairs_left (leb-false (length all) size e)) ∙ length-drop size all))

-- the end of a page counts what is left, so that the next page may be asked for
pub next_counts : (text : List ℕ) (after : Option PageEnd) (c : Content) (page : Page)
    → IsPage text after c page → CountsRight text page.end (Some c)
next_counts text after c page is =
    subst
    (λ (end : Option PageEnd). IfSome end (λ e. e.left ≡ length (behind text end c)))
    (sym is.end_is) (end_counts page_size (omega arith) text after c)

-- the entries of a page and what comes behind its end are what came behind the end before
pub page_splits : (text : List ℕ) (after : Option PageEnd) (c : Content) (page : Page)
    → IsPage text after c page
    → page.entries.items ++ behind_end text page.end c ≡ behind text after c
page_splits text after c page is =
    ap (λ l. l ++ behind_end text page.end c) is.entries
    ∙ ap (λ end. take page_size (behind text after c) ++ behind_end text end c) is.end_is
    ∙ ap (λ l. take page_size (behind text after c) ++ l)
    (ends_split page_size (omega arith) text after c)
    ∙ take-append-drop page_size (behind text after c)

-- before the first page all objects under the text are behind
pub none_before : (text : List ℕ) (c : Content) → behind text None c ≡ listing text c
none_before text c = go (listing text c)
  where
    go : (es : List Entry) → filter (λ (e : Entry). is_behind None e.path) es ≡ es
    go [] = refl
    go (e ∷ es) = ap (λ l. e ∷ l) (go es)

-- the same over what is told, as long as the objects stay
pub counts_next : (text : List ℕ) (after : Option PageEnd) (old new : Option Content)
    (page : Page) → new ≡ after_all [] old → IfSome old (λ c. IsPage text after c page)
    → CountsRight text page.end new
counts_next text after old new page same is =
    subst (λ (told : Option Content). CountsRight text page.end told) (sym same) (go old is)
  where
    go : (old : Option Content) → IfSome old (λ c. IsPage text after c page)
        → CountsRight text page.end (after_all [] old)
    go None is = tt
    go (Some c) is = next_counts text after c page is
