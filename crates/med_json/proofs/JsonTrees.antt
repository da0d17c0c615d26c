-- A value of json and its tree, level by level.
use Rattle.std.proofs.Common.{◌≡◌, ◌∙◌, ℕ, Bool, true, false, cond, ◌&&◌, List, Option, Some, None, option_map, option_and_then, is_some, refl, sym, ap, subst}
use Rattle.std.proofs.lemmas.Slice.Eq.{bytes_eq-Decides}
use Rattle.std.specs.Str.{bytes_eq}
use Rattle.json.specs.Json as json
use Rattle.json.specs.Find as find
use Rattle.serde_json.specs.Data.{Data, null, boolean, number, string, array, object, item, Members, no_members, put}
use Rattle.serde_json.specs.Find.{get, get_member, as_str, as_number, as_array}
use Rattle.serde_json.specs.Read.{number_of, of_json, of_items, of_members}
use Rattle.serde_json.proofs.Views.{get_member-put, get_member-put_other}

-- ---- options

-- what was mapped has a source
pub mapped : {A B : Type 0} (f : A → B) (o : Option A) (b : B) → option_map f o ≡ Some b
    → (a : A) × (o ≡ Some a) × (f a ≡ b)
mapped f None b e = absurd (cc)
mapped f (Some a) b e = (a, refl, cc)

-- what followed has a source
pub followed : {A B : Type 0} (f : A → Option B) (o : Option A) (b : B)
    → option_and_then f o ≡ Some b → (a : A) × (o ≡ Some a) × (f a ≡ Some b)
followed f None b e = absurd (cc)
followed f (Some a) b e = (a, refl, e)

pub same_some : {A : Type 0} (a b : A) → Some a ≡ Some b → a ≡ b
same_some a b e = cc

is_some-map : {A B : Type 0} (f : A → B) (o : Option A) → is_some (option_map f o) ≡ is_some o
is_some-map f None = refl
is_some-map f (Some a) = refl

-- ---- what kind of value it is

-- the text that a value is
pub text_kept : (j : json.Json) (d : Data) → of_json j ≡ Some d → find.as_str j ≡ as_str d
text_kept json.null d e = ap as_str (same_some null d e)
text_kept (json.boolean b) d e = ap as_str (same_some (boolean b) d e)
text_kept (json.number s) d e =
    let (n, found, is) = mapped number (number_of s) d e in ap as_str is
text_kept (json.string s) d e = ap as_str (same_some (string s) d e)
text_kept (json.array js) d e =
    let (ds, found, is) = mapped array (of_items js) d e in ap as_str is
text_kept (json.object ms) d e =
    let (ns, found, is) = mapped object (of_members ms no_members) d e in ap as_str is

-- the number that a value is
pub number_kept : (j : json.Json) (d : Data) → of_json j ≡ Some d
    → option_and_then number_of (find.as_number j) ≡ as_number d
number_kept json.null d e = ap as_number (same_some null d e)
number_kept (json.boolean b) d e = ap as_number (same_some (boolean b) d e)
number_kept (json.number s) d e =
    let (n, found, is) = mapped number (number_of s) d e in found ∙ ap as_number is
number_kept (json.string s) d e = ap as_number (same_some (string s) d e)
number_kept (json.array js) d e =
    let (ds, found, is) = mapped array (of_items js) d e in ap as_number is
number_kept (json.object ms) d e =
    let (ns, found, is) = mapped object (of_members ms no_members) d e in ap as_number is

-- the list that a value is
pub list_kept : (j : json.Json) (d : Data) → of_json j ≡ Some d
    → option_map of_items (find.as_array j) ≡ option_map (λ ds. Some ds) (as_array d)
list_kept json.null d e = ap (λ x. option_map (λ ds. Some ds) (as_array x)) (same_some null d e)
list_kept (json.boolean b) d e =
    ap (λ x. option_map (λ ds. Some ds) (as_array x)) (same_some (boolean b) d e)
list_kept (json.number s) d e =
    let (n, found, is) = mapped number (number_of s) d e in
    ap (λ x. option_map (λ ds. Some ds) (as_array x)) is
list_kept (json.string s) d e =
    ap (λ x. option_map (λ ds. Some ds) (as_array x)) (same_some (string s) d e)
list_kept (json.array js) d e =
    let (ds, found, is) = mapped array (of_items js) d e in
    ap (λ o. Some o) found ∙ ap (λ x. option_map (λ es. Some es) (as_array x)) is
list_kept (json.object ms) d e =
    let (ns, found, is) = mapped object (of_members ms no_members) d e in
    ap (λ x. option_map (λ ds. Some ds) (as_array x)) is

-- ---- the last member of a name

-- the later of two, where there is one
abbrev later_of : {A : Type 0} → Option A → Option A → Option A
later_of None earlier = earlier
later_of (Some a) earlier = Some a

-- a member of that name goes before those that stood earlier
later_here : (o : Option json.Json) (j : json.Json) (d : Data) (earlier : Option (Option Data))
    → of_json j ≡ Some d → later_of (option_map of_json o) (Some (Some d))
    ≡ later_of (option_map of_json (find.later_or o (Some j))) earlier
later_here None j d earlier e = ap (λ x. Some x) (sym e)
later_here (Some k) j d earlier e = refl

-- a member of another name changes nothing
later_elsewhere : (o : Option json.Json) (earlier : Option (Option Data))
    → later_of (option_map of_json o) earlier
    ≡ later_of (option_map of_json (find.later_or o None)) earlier
later_elsewhere None earlier = refl
later_elsewhere (Some k) earlier = refl

-- one more member, where the name is that of the member or another one
one_member : (b : Bool) (k l : List ℕ) (j : json.Json) (d : Data) (found : Members)
    (o : Option json.Json) → bytes_eq l k ≡ b → of_json j ≡ Some d
    → later_of (option_map of_json o) (option_map (λ x. Some x) (get_member k (put l d found)))
    ≡ later_of (option_map of_json (find.later_or o (cond b (Some j) None)))
    (option_map (λ x. Some x) (get_member k found))
one_member true k l j d found o same e =
    let is : l ≡ k = (bytes_eq-Decides l k).0 same in
    let here : get_member k (put l d found) ≡ Some d =
    subst (λ (q : List ℕ). get_member q (put l d found) ≡ Some d) is (get_member-put l d found) in
    ap (λ x. later_of (option_map of_json o) (option_map (λ y. Some y) x)) here
    ∙ later_here o j d (option_map (λ x. Some x) (get_member k found)) e
one_member false k l j d found o same e =
    let other = λ (is : k ≡ l). false_not_true (sym same ∙ (bytes_eq-Decides l k).1 (sym is)) in
    ap (λ x. later_of (option_map of_json o) (option_map (λ y. Some y) x))
    (get_member-put_other k l d found other)
    ∙ later_elsewhere o (option_map (λ x. Some x) (get_member k found))
  where
    false_not_true : false ≡ true → ⊥
    false_not_true e = cc

-- what an object has at a name, after members that were read before
member_kept : (k : List ℕ) (ms : json.Members) (found ns : Members) → of_members ms found ≡ Some ns
    → option_map (λ d. Some d) (get_member k ns)
    ≡ later_of (option_map of_json (find.get_member k ms))
    (option_map (λ d. Some d) (get_member k found))
member_kept k json.no_members found ns e =
    ap (λ x. option_map (λ d. Some d) (get_member k x)) (sym (same_some found ns e))
member_kept k (json.member l j ms) found ns e =
    let (d, is, more) = followed (λ x. of_members ms (put l x found)) (of_json j) ns e in
    member_kept k ms (put l d found) ns more
    ∙ one_member (bytes_eq l k) k l j d found (find.get_member k ms) refl is

-- nothing stood before
later_alone : (o : Option (Option Data)) → later_of o None ≡ o
later_alone None = refl
later_alone (Some x) = refl

-- what stands at a key
pub get_kept : (k : List ℕ) (j : json.Json) (d : Data) → of_json j ≡ Some d
    → option_map of_json (find.get k j) ≡ option_map (λ x. Some x) (get k d)
get_kept k json.null d e = ap (λ x. option_map (λ y. Some y) (get k x)) (same_some null d e)
get_kept k (json.boolean b) d e =
    ap (λ x. option_map (λ y. Some y) (get k x)) (same_some (boolean b) d e)
get_kept k (json.number s) d e =
    let (n, found, is) = mapped number (number_of s) d e in
    ap (λ x. option_map (λ y. Some y) (get k x)) is
get_kept k (json.string s) d e =
    ap (λ x. option_map (λ y. Some y) (get k x)) (same_some (string s) d e)
get_kept k (json.array js) d e =
    let (ds, found, is) = mapped array (of_items js) d e in
    ap (λ x. option_map (λ y. Some y) (get k x)) is
get_kept k (json.object ms) d e =
    let (ns, found, is) = mapped object (of_members ms no_members) d e in
    sym (later_alone (option_map of_json (find.get_member k ms)))
    ∙ sym (member_kept k ms no_members ns found) ∙ ap (λ x. option_map (λ y. Some y) (get k x)) is

-- ---- whether a value has a tree

both_some : (o : Option Data) (js : json.Items)
    → is_some (option_and_then (λ d. option_map (item d) (of_items js)) o)
    ≡ (is_some o && is_some (of_items js))
both_some None js = refl
both_some (Some d) js = is_some-map (item d) (of_items js)

-- the first item and those after it
pub item_has : (j : json.Json) (js : json.Items) → is_some (of_items (json.item j js))
    ≡ (is_some (of_json j) && is_some (of_items js))
item_has j js = both_some (of_json j) js

-- whether members have trees, whatever was read before
pub members_have : (ms : json.Members) (a b : Members) → is_some (of_members ms a)
    ≡ is_some (of_members ms b)
members_have json.no_members a b = refl
members_have (json.member k j ms) a b =
    go (of_json j) (λ d. members_have ms (put k d a) (put k d b))
  where
    go : (o : Option Data)
        → ((d : Data) → is_some (of_members ms (put k d a)) ≡ is_some (of_members ms (put k d b)))
        → is_some (option_and_then (λ d. of_members ms (put k d a)) o)
        ≡ is_some (option_and_then (λ d. of_members ms (put k d b)) o)
    go None more = refl
    go (Some d) more = more d

-- the first member and those after it
pub member_has : (k : List ℕ) (j : json.Json) (ms : json.Members) (a b : Members)
    → is_some (of_members (json.member k j ms) a)
    ≡ (is_some (of_json j) && is_some (of_members ms b))
member_has k j ms a b = go (of_json j)
  where
    go : (o : Option Data) → is_some (option_and_then (λ d. of_members ms (put k d a)) o)
        ≡ (is_some o && is_some (of_members ms b))
    go None = refl
    go (Some d) = members_have ms (put k d a) b
