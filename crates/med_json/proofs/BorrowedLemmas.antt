-- Values over borrowed text, and what stands in their trees.
use Rattle.std.proofs.Common.{◌≡◌, ◌∙◌, ◌+◌, ◌<◌, ℕ, Bool, true, ◌&&◌, List, [], ◌∷◌, map, length, drop, get_or, Option, Some, None, option_map, option_and_then, is_some, refl, sym, ap}
use Rattle.std.proofs.lemmas.List.{drop_more}
use Rattle.std.specs.Prelude.{unwrap_or}
use Rattle.std.specs.Borrow.{Bor}
use Rattle.std.specs.List.{AllByRecursion}
use Rattle.std.specs.declared.alloc.Global.{Global}
use Rattle.json.specs.Json as json
use Rattle.json.specs.Lex.{tokens}
use Rattle.json.specs.Token.{Token}
use Rattle.json.specs.Find as find
use Rattle.json.specs.Value.{value_view, items_view, members_view}
use Rattle.json.specs.declared.value.Value.{Value}
use Rattle.serde_json.specs.Data.{Data, null, Items, no_items, item, no_members}
use Rattle.serde_json.specs.Find.{get, as_str, as_number, as_u64, as_array}
use Rattle.serde_json.specs.Read.{number_of, of_json, of_items, of_members, read}
use Rattle.med_json.specs.Borrowed.{tree_of, HasTree}
use Rattle.med_json.specs.Tree.{items_in, text_at, number_at, list_at}
use Rattle.med_json.proofs.JsonTrees.{followed, get_kept, item_has, list_kept, mapped, member_has, number_kept, same_some, text_kept}

-- ---- lists and members from a place on

-- the items from a place on have trees
abbrev pub have_trees : List (Value Global) → Bool
have_trees vs = is_some (of_items (items_view vs))

pub items_from : (vs : List (Value Global)) (i : ℕ) (v : Value Global) → i < length vs
    → v ≡ get_or vs i v → have_trees (drop i vs)
    ≡ (is_some (of_json (value_view v)) && have_trees (drop (i + 1) vs))
items_from vs i v lt at =
    let here : drop i vs ≡ v ∷ drop (i + 1) vs =
    drop_more vs i v lt ∙ ap (λ x. x ∷ drop (i + 1) vs) (sym at) in
    ap have_trees here ∙ item_has (value_view v) (items_view (drop (i + 1) vs))

-- the members from a place on have trees
abbrev pub have_members : List (Bor (List ℕ) × Value Global) → Bool
have_members ms = is_some (of_members (members_view ms) no_members)

pub members_from : (ms : List (Bor (List ℕ) × Value Global)) (i : ℕ)
    (m : Bor (List ℕ) × Value Global) → i < length ms → m ≡ get_or ms i m
    → have_members (drop i ms)
    ≡ (is_some (of_json (value_view m.1)) && have_members (drop (i + 1) ms))
members_from ms i m lt at =
    let here : drop i ms ≡ m ∷ drop (i + 1) ms =
    drop_more ms i m lt ∙ ap (λ x. x ∷ drop (i + 1) ms) (sym at) in
    ap have_members here
    ∙ member_has m.0.now (value_view m.1) (members_view (drop (i + 1) ms)) no_members no_members

-- ---- the tree of a value

-- a value whose tree is known
pub has_tree : (v : Value Global) (d : Data) → of_json (value_view v) ≡ Some d → HasTree v
unfolding HasTree tree_of
has_tree v d e = e ∙ ap (λ x. Some x) (sym (ap (λ o. unwrap_or o null) e))

pub tree_is : (v : Value Global) (d : Data) → of_json (value_view v) ≡ Some d → tree_of v ≡ d
unfolding tree_of
tree_is v d e = ap (λ o. unwrap_or o null) e

pub tree_stands : (v : Value Global) → HasTree v → of_json (value_view v) ≡ Some (tree_of v)
unfolding HasTree
tree_stands v h = h

-- a value that passed the test
pub tree_from : (v : Value Global) → is_some (of_json (value_view v)) ≡ true → HasTree v
tree_from v e = go (of_json (value_view v)) refl e
  where
    go : (o : Option Data) → of_json (value_view v) ≡ o → is_some o ≡ true → HasTree v
    go None is e = absurd (cc)
    go (Some d) is e = has_tree v d is

-- the items of a list
pub items_kept : (vs : List (Value Global)) (ds : Items) → of_items (items_view vs) ≡ Some ds
    → AllByRecursion HasTree vs × (map tree_of vs ≡ items_in ds)
items_kept [] ds e = (tt, ap items_in (same_some no_items ds e))
items_kept (v ∷ vs) ds e =
    let (d, is, later) = followed (λ x. option_map (item x) (of_items (items_view vs)))
    (of_json (value_view v)) ds e in
    let (es, more, all) = mapped (item d) (of_items (items_view vs)) ds later in
    let (have, are) = items_kept vs es more in
    ((has_tree v d is, have), (λ i. tree_is v d is i ∷ are i) ∙ ap items_in all)

-- an option with something in it was made of one
inner : (o x : Option Data) → Some x ≡ option_map (λ d. Some d) o
    → (d : Data) × (o ≡ Some d) × (x ≡ Some d)
inner None x e = absurd (cc)
inner (Some d) x e = (d, refl, cc)

-- an option with nothing in it was made of one
nothing : (o : Option Data) → None ≡ option_map (λ d. Some d) o → o ≡ None
nothing None e = refl
nothing (Some d) e = absurd (cc)

module _ (k : List ℕ) (v : Value Global) (h : HasTree v) where
  -- what stands at the key
  pub found_at : (w : Value Global) → find.get k (value_view v) ≡ Some (value_view w)
      → HasTree w × (get k (tree_of v) ≡ Some (tree_of w))
  found_at w found =
      let kept = get_kept k (value_view v) (tree_of v) (tree_stands v h) in
      let (d, at, is) = inner (get k (tree_of v)) (of_json (value_view w))
      (ap (option_map of_json) (sym found) ∙ kept) in
      (has_tree w d is, at ∙ ap (λ x. Some x) (sym (tree_is w d is)))

  -- nothing stands there
  pub absent_at : find.get k (value_view v) ≡ None → get k (tree_of v) ≡ None
  absent_at absent = nothing (get k (tree_of v)) (ap (option_map of_json) (sym absent)
      ∙ get_kept k (value_view v) (tree_of v) (tree_stands v h))

  pub text_found : (w : Value Global) (r : Option (List ℕ))
      → find.get k (value_view v) ≡ Some (value_view w) → r ≡ find.as_str (value_view w)
      → r ≡ text_at k (tree_of v)
  text_found w r found is =
      let (has, at) = found_at w found in
      is ∙ text_kept (value_view w) (tree_of w) (tree_stands w has)
      ∙ sym (ap (option_and_then as_str) at)

  pub text_absent : find.get k (value_view v) ≡ None → None ≡ text_at k (tree_of v)
  text_absent absent = sym (ap (option_and_then as_str) (absent_at absent))

  -- the number at the key, by that of its text
  pub number_found : (w : Value Global) (r : Option ℕ)
      → find.get k (value_view v) ≡ Some (value_view w)
      → r ≡ option_and_then as_u64 (option_and_then number_of (find.as_number (value_view w)))
      → r ≡ number_at k (tree_of v)
  number_found w r found is =
      let (has, at) = found_at w found in
      is ∙ ap (option_and_then as_u64)
      (number_kept (value_view w) (tree_of w) (tree_stands w has)
      ∙ sym (ap (option_and_then as_number) at))

  pub number_absent : find.get k (value_view v) ≡ None → None ≡ number_at k (tree_of v)
  number_absent absent =
      sym (ap (λ o. option_and_then as_u64 (option_and_then as_number o)) (absent_at absent))

  pub list_found : (w : Value Global) (r : Option (List Data))
      → find.get k (value_view v) ≡ Some (value_view w)
      → (HasTree w → r ≡ option_map items_in (as_array (tree_of w))) → r ≡ list_at k (tree_of v)
  list_found w r found is =
      let (has, at) = found_at w found in
      is has ∙ sym (ap (λ o. option_map items_in (option_and_then as_array o)) at)

  pub list_absent : find.get k (value_view v) ≡ None → None ≡ list_at k (tree_of v)
  list_absent absent =
      sym (ap (λ o. option_map items_in (option_and_then as_array o)) (absent_at absent))

module _ (v : Value Global) (h : HasTree v) where
  listed : (o : Option Items) (js : json.Items)
      → Some (of_items js) ≡ option_map (λ ds. Some ds) o
      → (ds : Items) × (o ≡ Some ds) × (of_items js ≡ Some ds)
  listed None js e = absurd (cc)
  listed (Some ds) js e = (ds, refl, cc)

  unlisted : (o : Option Items) → None ≡ option_map (λ (ds : Items). Some ds) o → o ≡ None
  unlisted None e = refl
  unlisted (Some ds) e = absurd (cc)

  -- the items of a list
  pub items_found : (vs : List (Value Global)) → find.as_array (value_view v) ≡ Some (items_view vs)
      → AllByRecursion HasTree vs
      × (Some (map tree_of vs) ≡ option_map items_in (as_array (tree_of v)))
  items_found vs found =
      let (ds, at, is) = listed (as_array (tree_of v)) (items_view vs)
      (ap (option_map of_items) (sym found)
      ∙ list_kept (value_view v) (tree_of v) (tree_stands v h)) in
      let (have, are) = items_kept vs ds is in
      (have, ap (λ x. Some x) are ∙ sym (ap (option_map items_in) at))

  -- a value that is no list
  pub items_absent : find.as_array (value_view v) ≡ None
      → None ≡ option_map items_in (as_array (tree_of v))
  items_absent absent = sym (ap (option_map items_in) (unlisted (as_array (tree_of v))
      (ap (option_map of_items) (sym absent)
      ∙ list_kept (value_view v) (tree_of v) (tree_stands v h))))

-- a text whose tokens are those of one value with a tree
pub read_whole : (text : List ℕ) (v : Value Global) (ts : List Token)
    → json.value 127 (tokens text) ≡ Some (value_view v, ts) → ts ≡ []
    → is_some (of_json (value_view v)) ≡ true → HasTree v × (read text ≡ Some (tree_of v))
read_whole text v ts e none some =
    let has = tree_from v some in
    let last : option_and_then (λ p. json.if_last p.0 p.1) (json.value 127 (tokens text))
    ≡ Some (value_view v) =
    ap (option_and_then (λ p. json.if_last p.0 p.1)) e ∙ ap (json.if_last (value_view v)) none in
    (has, ap (option_and_then of_json) last ∙ tree_stands v has)
