-- The sizes of the entries of a node, as a listing has them.
use Rattle.std.proofs.Common.{◌≡◌, ◌∙◌, inl, inr, ℕ, Bool, true, false, true≢false, cond, List, [], ◌∷◌, ◌++◌, map, filter, codes, Option, Some, None, option_map, IfSome, length, refl, sym, ap, subst, append_assoc}
use Rattle.std.proofs.lemmas.Option.{same_Some}
use Rattle.std.specs.BTreeMap.{BTreeMap, Updates, get}
use Rattle.std.specs.FinMap as finite
use Rattle.std.specs.List.{AllByRecursion}
use Rattle.med_base.specs.declared.kinds.IndexKind.{IndexKind}
use Rattle.med_base.specs.Classify.{kind_of}
use Rattle.med_base.specs.Content.{Content, Object, is_under}
use Rattle.med_base.specs.Kinds.{Kind, Shared, Own, Meta, Entry as IndexEntry, Latest, Stray, Other}
use Rattle.med_base.specs.Layout.{entry_file, entry_path}
use Rattle.med_base.specs.NameOrder.{name_cmp}
use Rattle.med_base.proofs.Bools.{same_bytes}
use Rattle.med_base.proofs.Folders.{is_under-append}
use Rattle.med_manifest.specs.Rebuild.{is_entry_of_node}
use Rattle.med_outside.specs.Storage.{entry_of, listing}
use Rattle.med_outside.specs.declared.storage.Entry.{Entry}
use Rattle.med_index.specs.Given.{AreOfNode, AreSizes, AreSizesFound, IsSizedEntry, IsSizing, size_in}
use Rattle.med_index.proofs.EntryListing.{entry_built}
use Rattle.med_index.proofs.Finding.{nothing_got, put_cases}
use Rattle.med_index.proofs.Listings.{AreIn, all_in, to_come}

abbrev Pair : Type 0
Pair = List ℕ × Object

abbrev Sizes : Type 0
Sizes = BTreeMap (List ℕ) ℕ

-- ---- each entry of a listing has the size of its object

kept_sized : (c : Content) (test : List ℕ → Bool) (es : List Pair) → AreIn (finite.entries c) es
    → AllByRecursion (IsSizedEntry c) (map entry_of (filter (λ (e : Pair). test e.0) es))
kept_sized c test [] are = tt
kept_sized c test (e ∷ es) are = go (test e.0) refl (kept_sized c test es are.1)
  where
    go : (b : Bool) → test e.0 ≡ b
        → AllByRecursion (IsSizedEntry c) (map entry_of (filter (λ (d : Pair). test d.0) es))
        → AllByRecursion (IsSizedEntry c)
        (map entry_of (filter (λ (d : Pair). test d.0) (e ∷ es)))
    go true p rest =
        rw p
        (ap (option_map (λ (o : Object). length o.bytes)) (finite.get-entries c e.0 ∙ are.0), rest)
    go false p rest = rw p rest

sized_are : (text : List ℕ) (c : Content) → AllByRecursion (IsSizedEntry c) (listing text c)
sized_are text c =
    kept_sized c (is_under text) (finite.entries c)
    (all_in (finite.entries c) (finite.entries_sorted c))

-- ---- an entry of the node lies in the folder of all entries

entry_by : (k : Kind) (f : List ℕ) → is_entry_of_node f k ≡ true
    → (n : List ℕ) × (kind : IndexKind) × (k ≡ IndexEntry f n kind)
entry_by (IndexEntry g n kind) f e =
    let node = same_bytes g f e in (n, kind, λ i. IndexEntry (node i) n kind)
entry_by (Shared g key) f e = absurd (cc)
entry_by (Own g n key) f e = absurd (cc)
entry_by (Meta g n kind) f e = absurd (cc)
entry_by (Latest g kind) f e = absurd (cc)
entry_by (Stray g n) f e = absurd (cc)
entry_by Other f e = absurd (cc)

-- an entry has the path that the builder gives
pub entry_of_node : (before f path : List ℕ) → is_entry_of_node f (kind_of before path) ≡ true
    → (n : List ℕ) × (kind : IndexKind) × (kind_of before path ≡ IndexEntry f n kind)
    × (entry_path before f n kind ≡ path)
entry_of_node before f path e =
    let (n, kind, is) = entry_by (kind_of before path) f e in
    (n, kind, is, entry_built before path f n kind is)

lies_within : (before f path : List ℕ) → is_entry_of_node f (kind_of before path) ≡ true
    → is_under (before ++ codes "index/backup_index/") path ≡ true
lies_within before f path e =
    let (n, kind, is, built) = entry_of_node before f path e in
    let text = before ++ codes "index/backup_index/" in
    let more = n ++ 47 ∷ entry_file f kind in
    let flat : text ++ more ≡ entry_path before f n kind = simp append_assoc in
    ap (is_under text) (sym built ∙ sym flat) ∙ is_under-append text more

-- ---- one entry after another

size_once : (o p : Option ℕ) (a b : ℕ) → o ≡ p → o ≡ Some a → p ≡ Some b → a ≡ b
size_once o p a b same x y = same_Some a b (sym x ∙ same ∙ y)

module _ (before f : List ℕ) (c : Content) (e : Entry) (rest : List Entry) (sizes : Sizes)
    (old : AreSizesFound before f c sizes (e ∷ rest)) where
  pub sized_over : is_entry_of_node f (kind_of before e.path) ≡ false
      → AreSizesFound before f c sizes rest
  sized_over other = record {
    stands = old.stands;
    all = λ path size of_node is. elim (old.all path size of_node is) [
      | inl there ↦ inl there
      | inr later ↦ elim later [
        | inl here ↦
            absurd (true≢false
            (sym (subst (λ p. is_entry_of_node f (kind_of before p) ≡ true) (sym here) of_node)
            ∙ other))
        | inr more ↦ inr more
      ]
    ];
    entries = old.entries.1;
  }

  pub sized_more : (new : Sizes) → Updates name_cmp sizes new e.path (Some e.size)
      → AreSizesFound before f c new rest
  sized_more new updates = record {
    stands = λ path size is. elim (put_cases sizes new e.path e.size updates path) [
      | inl both ↦
          subst (λ p. size_in (finite.get c p) ≡ Some size) both.0
          (old.entries.0 ∙ sym both.1 ∙ is)
      | inr same ↦ old.stands path size (sym same ∙ is)
    ];
    all = λ path size of_node is. elim (put_cases sizes new e.path e.size updates path) [
      | inl both ↦
          inl (both.1
          ∙ sym (subst (λ p. size_in (finite.get c p) ≡ Some e.size) both.0 old.entries.0) ∙ is)
      | inr same ↦ elim (old.all path size of_node is) [
        | inl there ↦ inl (same ∙ there)
        | inr later ↦ elim later [
          | inl here ↦
              inl (subst (λ p. get name_cmp new p ≡ Some size) here
              (updates.1 ∙ sym old.entries.0
              ∙ ap (λ p. size_in (finite.get c p)) here ∙ is))
          | inr more ↦ inr more
        ]
      ]
    ];
    entries = old.entries.1;
  }

-- one more entry is of the node
pub sizing_more : (before f node path : List ℕ) (size : ℕ) (sizes new : Sizes)
    → is_entry_of_node node (kind_of before path) ≡ true
    → Updates name_cmp sizes new path (Some size) → IsSizing before f node sizes
    → IsSizing before f node new
sizing_more before f node path size sizes new is updates old = record {
  node_is = old.node_is;
  of_node = λ other x e. elim (put_cases sizes new path size updates other) [
    | inl both ↦
        subst (λ p. is_entry_of_node f (kind_of before p) ≡ true) both.0
        (subst (λ g. is_entry_of_node g (kind_of before path) ≡ true) old.node_is is)
    | inr same ↦ old.of_node other x (sym same ∙ e)
  ];
}

pub sizing_none : (before f : List ℕ) (none : Sizes) → none.entries ≡ [] → IsSizing before f f none
sizing_none before f none empty = record {
  node_is = refl;
  of_node = λ path x e. absurd (let nothing = nothing_got none path empty in cc (e, nothing));
}

-- ---- at the end of the walk

same_size : (a b : Option ℕ) → ((s : ℕ) → a ≡ Some s → b ≡ Some s)
    → ((s : ℕ) → b ≡ Some s → a ≡ Some s) → a ≡ b
same_size (Some x) b there back = sym (there x refl)
same_size None None there back = refl
same_size None (Some y) there back = back y refl

no_value : (a : Option ℕ) → ((s : ℕ) → a ≡ Some s → ⊥) → a ≡ None
no_value None never = refl
no_value (Some s) never = absurd (never s refl)

are_sizes : (before f : List ℕ) (c : Content) (sizes : Sizes) → AreOfNode before f sizes
    → AreSizesFound before f c sizes [] → AreSizes before f c sizes
are_sizes before f c sizes of_node found path =
    go (is_entry_of_node f (kind_of before path)) refl
  where
    go : (b : Bool) → is_entry_of_node f (kind_of before path) ≡ b
        → get name_cmp sizes path ≡ cond b (size_in (finite.get c path)) None
    go true e =
        same_size (get name_cmp sizes path) (size_in (finite.get c path)) (found.stands path)
        (λ s is. elim (found.all path s e is) [
          | inl there ↦ there
          | inr none ↦ absurd none
        ])
    go false e =
        no_value (get name_cmp sizes path)
        (λ s is. absurd (true≢false (sym (of_node path s is) ∙ e)))

some_object : (o : Option Object) (size : ℕ) → size_in o ≡ Some size → (x : Object) × (o ≡ Some x)
some_object None size is = absurd (cc)
some_object (Some x) size is = (x, refl)

none_sized : (before f text : List ℕ) (c : Content) (none : Sizes)
    → text ≡ before ++ codes "index/backup_index/" → none.entries ≡ []
    → AreSizesFound before f c none (listing text c)
none_sized before f text c none is empty = record {
  stands = λ path size e. absurd (let nothing = nothing_got none path empty in cc (e, nothing));
  all = λ path size of_node e.
      let o = some_object (finite.get c path) size e in
      inr (to_come text path c o.0 o.1
      (subst (λ t. is_under t path ≡ true) (sym is) (lies_within before f path of_node)));
  entries = sized_are text c;
}

pub sizes_all : (told : Option Content) (before f text node : List ℕ) (none sizes : Sizes)
    → text ≡ before ++ codes "index/backup_index/" → none.entries ≡ []
    → IsSizing before f node sizes
    → IfSome told (λ c. (g : List ℕ) → AreSizesFound before f c none (listing text c)
    → AreSizesFound before node c sizes [])
    → IfSome told (λ c. AreSizes before f c sizes)
sizes_all None before f text node none sizes is empty same walked = tt
sizes_all (Some c) before f text node none sizes is empty same walked =
    are_sizes before f c sizes same.of_node
    (subst (λ g. AreSizesFound before g c sizes []) same.node_is
    (walked f (none_sized before f text c none is empty)))
