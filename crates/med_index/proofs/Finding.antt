-- What is found of the objects that tell of backups, entry by entry.
use Rattle.std.proofs.Common.{◌≡◌, ◌∙◌, ◌⊎◌, inl, inr, ℕ, Bool, true, false, cond, List, [], ◌∷◌, ◌++◌, codes, Option, Some, None, option_map, IfSome, Result, Ok, Err, OnOk, bytes_eq, refl, sym, ap, subst}
use Rattle.std.proofs.lemmas.Map.Lookups.{exact_bytes}
use Rattle.std.proofs.lemmas.Option.{same_Some}
use Rattle.std.specs.BTreeMap.{BTreeMap, Updates, get, is_at}
use Rattle.std.specs.Cmp.Lexicographic.{bytes_decides}
use Rattle.std.specs.FinMap as finite
use Rattle.std.specs.Ordering.{is_eq}
use Rattle.std.specs.declared.cmp.Ordering.{Ordering}
use Rattle.std.specs.declared.cmp.Ordering.TheVariants.{Less, Equal, Greater}
use Rattle.med_base.specs.declared.layout.MetaKind.{MetaKind}
use Rattle.med_base.specs.declared.layout.MetaKind.TheVariants.{Schema, Differential, Tokenmap, Manifest}
use Rattle.med_base.specs.Classify.{kind_of}
use Rattle.std.specs.Map.{lookup}
use Rattle.med_base.specs.Content.{Content, Object, is_under}
use Rattle.med_base.specs.Kinds.{Kind, Shared, Own, Meta, Entry as IndexEntry, Latest, Stray, Other, IsBackupName, IsFqdn}
use Rattle.med_base.specs.Layout.{meta_file, meta_path, node_folder}
use Rattle.med_base.specs.NameOrder.{name_cmp}
use Rattle.med_base.proofs.KindsMade.{built_is_told, meta_flat}
use Rattle.med_base.proofs.KindsLaw.{kinds_are_told}
use Rattle.med_base.proofs.KindsTold.{folder_flat}
use Rattle.med_base.proofs.Folders.{is_under-append}
use Rattle.med_manifest.specs.Vault.{second_of, IsBackup}
use Rattle.med_outside.specs.declared.storage.Entry.{Entry}
use Rattle.med_outside.specs.Storage.{listing}
use Rattle.med_index.specs.declared.marks.Marks.{Marks}
use Rattle.med_index.specs.Marks.{mark_of, no_marks, or_none, with_mark}
use Rattle.med_index.specs.Rows.{HasBackup}
use Rattle.med_index.specs.Visits.{AreFound, AreNodesFound, IsToCome, found_second, told_by}
use Rattle.med_index.proofs.Listings.{listed_are, to_come}

-- ---- which paths tell of backups

-- what the builder gives tells of its backup
told_there : (before f n : List ℕ) (kind : MetaKind) → IsFqdn f → IsBackupName n
    → told_by (kind_of before (meta_path before f n kind)) ≡ Some (f, (n, kind))
told_there before f n kind node name =
    ap told_by
    (built_is_told before (meta_path before f n kind) (Meta f n kind)
    (record { valid = (node, name); built = refl }))

kind_by : (k : Kind) (f n : List ℕ) (kind : MetaKind) → told_by k ≡ Some (f, (n, kind))
    → k ≡ Meta f n kind
kind_by (Meta g m other) f n kind e =
    let same = same_Some (g, (m, other)) (f, (n, kind)) e in
    λ i. Meta (same i).0 (same i).1.0 (same i).1.1
kind_by (Shared g key) f n kind e = absurd (cc)
kind_by (Own g m key) f n kind e = absurd (cc)
kind_by (IndexEntry g m other) f n kind e = absurd (cc)
kind_by (Latest g other) f n kind e = absurd (cc)
kind_by (Stray g m) f n kind e = absurd (cc)
kind_by Other f n kind e = absurd (cc)

-- what tells of a backup has the path that the builder gives
path_told : (before path f n : List ℕ) (kind : MetaKind)
    → told_by (kind_of before path) ≡ Some (f, (n, kind)) → meta_path before f n kind ≡ path
path_told before path f n kind e =
    let built = (kinds_are_told before path (Meta f n kind)).0
    (kind_by (kind_of before path) f n kind e) in
    same_Some (meta_path before f n kind) path built.built

-- ---- seconds

pub nothing_marked : (kind : MetaKind) (second : ℕ) → mark_of kind no_marks ≡ Some second → ⊥
nothing_marked Schema second e = absurd (cc)
nothing_marked Differential second e = absurd (cc)
nothing_marked Tokenmap second e = absurd (cc)
nothing_marked Manifest second e = absurd (cc)

-- a new mark, of this kind or of another
mark_cases : (kind new : MetaKind) (second : ℕ) (m : Marks)
    → ((new ≡ kind) × (mark_of kind (with_mark new second m) ≡ Some second))
    ⊎ (mark_of kind (with_mark new second m) ≡ mark_of kind m)
mark_cases Schema Schema second m = inl (refl, refl)
mark_cases Schema Differential second m = inr refl
mark_cases Schema Tokenmap second m = inr refl
mark_cases Schema Manifest second m = inr refl
mark_cases Differential Schema second m = inr refl
mark_cases Differential Differential second m = inl (refl, refl)
mark_cases Differential Tokenmap second m = inr refl
mark_cases Differential Manifest second m = inr refl
mark_cases Tokenmap Schema second m = inr refl
mark_cases Tokenmap Differential second m = inr refl
mark_cases Tokenmap Tokenmap second m = inl (refl, refl)
mark_cases Tokenmap Manifest second m = inr refl
mark_cases Manifest Schema second m = inr refl
mark_cases Manifest Differential second m = inr refl
mark_cases Manifest Tokenmap second m = inr refl
mark_cases Manifest Manifest second m = inl (refl, refl)

mark_new : (kind : MetaKind) (second : ℕ) (m : Marks)
    → mark_of kind (with_mark kind second m) ≡ Some second
mark_new Schema second m = refl
mark_new Differential second m = refl
mark_new Tokenmap second m = refl
mark_new Manifest second m = refl

pub equal_of : (o : Ordering) → is_eq o ≡ true → o ≡ Equal
equal_of Less e = absurd (cc)
equal_of Equal e = refl
equal_of Greater e = absurd (cc)

-- what a map has after a key was put: the new value at that key, and the old ones at others
pub put_cases : {X : Type 0} (m m' : BTreeMap (List ℕ) X) (key : List ℕ) (v : X)
    → Updates name_cmp m m' key (Some v) → (q : List ℕ)
    → ((key ≡ q) × (get name_cmp m' q ≡ Some v)) ⊎ (get name_cmp m' q ≡ get name_cmp m q)
put_cases {X} m m' key v updates q = go (is_at (name_cmp key) q) refl
  where
    go : (b : Bool) → is_at (name_cmp key) q ≡ b
        → ((key ≡ q) × (get name_cmp m' q ≡ Some v)) ⊎ (get name_cmp m' q ≡ get name_cmp m q)
    go true e =
        inl (
          exact_bytes key q (equal_of (name_cmp key q) e),
          updates.0 q ∙ ap (λ (b : Bool). cond b (Some v) (get name_cmp m q)) e,
        )
    go false e = inr (updates.0 q ∙ ap (λ (b : Bool). cond b (Some v) (get name_cmp m q)) e)

put_there : {X : Type 0} (m m' : BTreeMap (List ℕ) X) (key : List ℕ) (v : X)
    → Updates name_cmp m m' key (Some v) → get name_cmp m' key ≡ Some v
put_there m m' key v updates = updates.1

-- ---- an entry that tells of no backup of the node

module _ (node : List ℕ) (found : BTreeMap (List ℕ) Marks) (before f : List ℕ) (c : Content)
    (e : Entry) (rest : List Entry) where
  pub passed_over : ((n : List ℕ) (kind : MetaKind) → IsBackupName n
      → e.path ≡ meta_path before f n kind → ⊥)
      → AreFound node found before f c (e ∷ rest) → AreFound node found before f c rest
  passed_over none old = record {
    node_is = old.node_is;
    names = old.names;
    stands = old.stands;
    all = λ n kind second name is. elim (old.all n kind second name is) [
      | inl there ↦ inl there
      | inr later ↦ elim later [
        | inl here ↦ absurd (none n kind name here)
        | inr more ↦ inr more
      ]
    ];
    entries = old.entries.1;
  }

-- ---- an entry that tells of a backup of the node

module _ (node : List ℕ) (found found' : BTreeMap (List ℕ) Marks) (before f : List ℕ) (c : Content)
    (e : Entry) (rest : List Entry) (m : List ℕ) (new : MetaKind) (is_node : IsFqdn f)
    (is_name : IsBackupName m) (told : told_by (kind_of before e.path) ≡ Some (f, (m, new)))
    (updates : Updates name_cmp found found' m
    (Some (with_mark new e.second (or_none (get name_cmp found m)))))
    (old : AreFound node found before f c (e ∷ rest)) where
  abbrev marks_then : Marks
  marks_then = with_mark new e.second (or_none (get name_cmp found m))

  stands_here : second_of c before f m new ≡ Some e.second
  stands_here =
      ap (λ (p : List ℕ). option_map (λ (o : Object). o.second) (finite.get c p))
      (path_told before e.path f m new told)
      ∙ old.entries.0

  here_is : IsBackup c before f m
  here_is = record { name = is_name; kind = new; second = e.second; stands = stands_here }

  names_now : (n : List ℕ) (marks : Marks) → get name_cmp found' n ≡ Some marks
      → IsBackup c before f n
  names_now n marks is = elim (put_cases found found' m marks_then updates n) [
    | inl both ↦ subst (IsBackup c before f) both.0 here_is
    | inr same ↦ old.names n marks (sym same ∙ is)
  ]

  stands_at : (kind : MetaKind) (second : ℕ) → mark_of kind marks_then ≡ Some second
      → second_of c before f m kind ≡ Some second
  stands_at kind second is =
      elim (mark_cases kind new e.second (or_none (get name_cmp found m))) [
        | inl both ↦
            subst (λ (k : MetaKind). second_of c before f m k ≡ Some second) both.0
            (stands_here ∙ sym both.1 ∙ is)
        | inr same ↦ old.stands m kind second (sym same ∙ is)
      ]

  stands_now : (n : List ℕ) (kind : MetaKind) (second : ℕ)
      → found_second kind (get name_cmp found' n) ≡ Some second
      → second_of c before f n kind ≡ Some second
  stands_now n kind second is = elim (put_cases found found' m marks_then updates n) [
    | inl both ↦
        subst (λ (q : List ℕ). second_of c before f q kind ≡ Some second) both.0
        (stands_at kind second (sym (ap (found_second kind) both.1) ∙ is))
    | inr same ↦ old.stands n kind second (sym (ap (found_second kind) same) ∙ is)
  ]

  -- what was found before is found still
  found_still : (n : List ℕ) (kind : MetaKind) (second : ℕ)
      → second_of c before f n kind ≡ Some second
      → found_second kind (get name_cmp found n) ≡ Some second
      → found_second kind (get name_cmp found' n) ≡ Some second
  found_still n kind second is was = elim (put_cases found found' m marks_then updates n) [
    | inl both ↦
        ap (found_second kind) both.1
        ∙ elim (mark_cases kind new e.second (or_none (get name_cmp found m))) [
          | inl new_one ↦
              new_one.1
              ∙ sym (subst (λ (k : MetaKind). second_of c before f m k ≡ Some e.second) new_one.0
              stands_here)
              ∙ subst (λ (q : List ℕ). second_of c before f q kind ≡ Some second) (sym both.0) is
          | inr same ↦
              same
              ∙ subst (λ (q : List ℕ). found_second kind (get name_cmp found q) ≡ Some second)
              (sym both.0) was
        ]
    | inr same ↦ ap (found_second kind) same ∙ was
  ]

  -- what this entry tells is found now
  found_here : (n : List ℕ) (kind : MetaKind) (second : ℕ) → IsBackupName n
      → second_of c before f n kind ≡ Some second → e.path ≡ meta_path before f n kind
      → found_second kind (get name_cmp found' n) ≡ Some second
  found_here n kind second name is here =
      let same : ◌≡◌ {A = Option (List ℕ × (List ℕ × MetaKind))} (Some (f, (m, new)))
      (Some (f, (n, kind))) =
      sym told ∙ ap (λ (p : List ℕ). told_by (kind_of before p)) here
      ∙ told_there before f n kind is_node name in
      let pair = same_Some (f, (m, new)) (f, (n, kind)) same in
      let name_is : m ≡ n = ap (λ (t : List ℕ × (List ℕ × MetaKind)). t.1.0) pair in
      let kind_is : new ≡ kind = ap (λ (t : List ℕ × (List ℕ × MetaKind)). t.1.1) pair in
      let one : found_second new (get name_cmp found' m) ≡ Some e.second =
      ap (found_second new) (put_there found found' m marks_then updates)
      ∙ mark_new new e.second (or_none (get name_cmp found m)) in
      let second_is : ◌≡◌ {A = Option ℕ} (Some e.second) (Some second) =
      sym stands_here
      ∙ (λ i. second_of c before f (name_is i) (kind_is i)) ∙ is in
      (λ i. found_second (sym kind_is i) (get name_cmp found' (sym name_is i))) ∙ one ∙ second_is

  pub noted : AreFound node found' before f c rest
  noted = record {
    node_is = old.node_is;
    names = names_now;
    stands = stands_now;
    all = λ n kind second name is. elim (old.all n kind second name is) [
      | inl there ↦ inl (found_still n kind second is there)
      | inr later ↦ elim later [
        | inl here ↦ inl (found_here n kind second name is here)
        | inr more ↦ inr more
      ]
    ];
    entries = old.entries.1;
  }

-- the path is that of no object of a backup of the node
pub none_told : (before path f : List ℕ) → IsFqdn f → told_by (kind_of before path) ≡ None
    → (n : List ℕ) (kind : MetaKind) → IsBackupName n → path ≡ meta_path before f n kind → ⊥
none_told before path f node none n kind name here =
    absurd
    (let told = told_there before f n kind node name in
    let same = ap (λ (p : List ℕ). told_by (kind_of before p)) here in
    cc (none, told, same))

-- or it is that of an object of another node
pub other_told : (before path f g m : List ℕ) (new : MetaKind) → IsFqdn f
    → told_by (kind_of before path) ≡ Some (g, (m, new)) → (g ≡ f → ⊥)
    → (n : List ℕ) (kind : MetaKind) → IsBackupName n → path ≡ meta_path before f n kind → ⊥
other_told before path f g m new node told other n kind name here =
    let same : ◌≡◌ {A = Option (List ℕ × (List ℕ × MetaKind))} (Some (g, (m, new)))
    (Some (f, (n, kind))) =
    sym told ∙ ap (λ (p : List ℕ). told_by (kind_of before p)) here
    ∙ told_there before f n kind node name in
    other (ap (λ (t : List ℕ × (List ℕ × MetaKind)). t.0)
    (same_Some (g, (m, new)) (f, (n, kind)) same))

pub then_ok : {X E P Q : Type 0} (r : Result X E) → (P → Q) → OnOk r P → OnOk r Q
then_ok (Ok x) step p = step p
then_ok (Err e) step p = tt

pub same_text : (a b : List ℕ) → bytes_eq a b ≡ true → a ≡ b
same_text a b e = (bytes_decides a b).0 e

pub other_text : (a b : List ℕ) → bytes_eq a b ≡ false → a ≡ b → ⊥
other_text a b e same = absurd (let p = (bytes_decides a b).1 same in cc (e, p))

-- ---- before the walk

-- a backup of a node that stands lies under the node's folder, and under what stands before it
meta_under : (before f n : List ℕ) (kind : MetaKind)
    → is_under (node_folder before f) (meta_path before f n kind) ≡ true
meta_under before f n kind =
    let more = n ++ 47 ∷ (codes "meta" ++ 47 ∷ meta_file kind) in
    ap (is_under (node_folder before f))
    (meta_flat before f n kind ∙ sym (folder_flat before f more))
    ∙ is_under-append (node_folder before f) more

meta_below : (before f n : List ℕ) (kind : MetaKind)
    → is_under before (meta_path before f n kind) ≡ true
meta_below before f n kind =
    ap (is_under before) (meta_flat before f n kind)
    ∙ is_under-append before (f ++ 47 ∷ (n ++ 47 ∷ (codes "meta" ++ 47 ∷ meta_file kind)))

some_object : (o : Option Object) (second : ℕ)
    → option_map (λ (x : Object). x.second) o ≡ Some second → (x : Object) × (o ≡ Some x)
some_object None second is = absurd (cc)
some_object (Some x) second is = (x, refl)

stands_to_come : (text before f n : List ℕ) (c : Content) (kind : MetaKind) (second : ℕ)
    → is_under text (meta_path before f n kind) ≡ true
    → second_of c before f n kind ≡ Some second
    → IsToCome (listing text c) (meta_path before f n kind)
stands_to_come text before f n c kind second under is =
    let o = some_object (finite.get c (meta_path before f n kind)) second is in
    to_come text (meta_path before f n kind) c o.0 o.1 under

pub nothing_got : {X : Type 0} (m : BTreeMap (List ℕ) X) (q : List ℕ) → m.entries ≡ []
    → get name_cmp m q ≡ None
nothing_got m q none = ap (lookup (is_at (name_cmp q))) none

none_found : (node : List ℕ) (found : BTreeMap (List ℕ) Marks) (before : List ℕ)
    (c : Content) → found.entries ≡ []
    → AreFound node found before node c (listing (node_folder before node) c)
none_found node found before c none = record {
  node_is = refl;
  names = λ n marks is. absurd (let nothing = nothing_got found n none in cc (is, nothing));
  stands = λ n kind second is.
      absurd (nothing_marked kind second
      (sym (ap (found_second kind) (nothing_got found n none)) ∙ is));
  all = λ n kind second name is.
      inr (stands_to_come (node_folder before node) before node n c kind second
      (meta_under before node n kind) is);
  entries = listed_are (node_folder before node) c;
}

no_node_found : (found : BTreeMap (List ℕ) (Unit {0})) (before : List ℕ) (c : Content)
    → found.entries ≡ [] → AreNodesFound found before c (listing before c)
no_node_found found before c none = record {
  nodes = λ f is. absurd (let nothing = nothing_got found f none in cc (is, nothing));
  all = λ f n kind second node name is.
      inr (stands_to_come before before f n c kind second (meta_below before f n kind) is);
  entries = listed_are before c;
}

-- what was found at the end of the walk, where the visitor's node is that of the start
pub found_of : (told : Option Content) (node now : List ℕ)
    (found found' : BTreeMap (List ℕ) Marks) (before text : List ℕ)
    → text ≡ node_folder before node → found.entries ≡ []
    → IfSome told (λ c. (f : List ℕ) → AreFound node found before f c (listing text c)
    → AreFound now found' before f c [])
    → IfSome told (λ c. AreFound node found' before node c [])
found_of None node now found found' before text is none walked = tt
found_of (Some c) node now found found' before text is none walked =
    let all = walked node
    (subst (λ (t : List ℕ). AreFound node found before node c (listing t c)) (sym is)
    (none_found node found before c none)) in
    record {
      node_is = refl;
      names = all.names;
      stands = all.stands;
      all = all.all;
      entries = all.entries;
    }

-- ---- nodes

-- the nodes that were found at the end of the walk
pub nodes_of : (told : Option Content) (found found' : BTreeMap (List ℕ) (Unit {0}))
    (before text : List ℕ) → text ≡ before → found.entries ≡ []
    → IfSome told (λ c. (f : List ℕ) → AreNodesFound found before c (listing text c)
    → AreNodesFound found' before c [])
    → IfSome told (λ c. AreNodesFound found' before c [])
nodes_of None found found' before text is none walked = tt
nodes_of (Some c) found found' before text is none walked =
    walked []
    (subst (λ (t : List ℕ). AreNodesFound found before c (listing t c)) (sym is)
    (no_node_found found before c none))

module _ (found : BTreeMap (List ℕ) (Unit {0})) (before : List ℕ) (c : Content) (e : Entry)
    (rest : List Entry) where
  pub no_meta : told_by (kind_of before e.path) ≡ None → AreNodesFound found before c (e ∷ rest)
      → AreNodesFound found before c rest
  no_meta none old = record {
    nodes = old.nodes;
    all = λ f n kind second node name is. elim (old.all f n kind second node name is) [
      | inl there ↦ inl there
      | inr later ↦ elim later [
        | inl here ↦
            absurd
            (let told = told_there before f n kind node name in
            let same = ap (λ (p : List ℕ). told_by (kind_of before p)) here in
            cc (none, told, same))
        | inr more ↦ inr more
      ]
    ];
    entries = old.entries.1;
  }

module _ (found found' : BTreeMap (List ℕ) (Unit {0})) (before : List ℕ) (c : Content) (e : Entry)
    (rest : List Entry) (g m : List ℕ) (new : MetaKind) (is_node : IsFqdn g)
    (is_name : IsBackupName m) (told : told_by (kind_of before e.path) ≡ Some (g, (m, new)))
    (updates : Updates name_cmp found found' g (Some tt))
    (old : AreNodesFound found before c (e ∷ rest)) where
  node_here : HasBackup c before g
  node_here = record {
    node = is_node;
    name = m;
    backup = record {
      name = is_name;
      kind = new;
      second = e.second;
      stands = ap (λ (p : List ℕ). option_map (λ (o : Object). o.second) (finite.get c p))
          (path_told before e.path g m new told) ∙ old.entries.0;
    };
  }

  still_there : (f : List ℕ) → get name_cmp found f ≡ Some tt → get name_cmp found' f ≡ Some tt
  still_there f was = elim (put_cases found found' g tt updates f) [
    | inl both ↦ both.1
    | inr same ↦ same ∙ was
  ]

  pub node_noted : AreNodesFound found' before c rest
  node_noted = record {
    nodes = λ f is. elim (put_cases found found' g tt updates f) [
      | inl both ↦ subst (HasBackup c before) both.0 node_here
      | inr same ↦ old.nodes f (sym same ∙ is)
    ];
    all = λ f n kind second node name is. elim (old.all f n kind second node name is) [
      | inl there ↦ inl (still_there f there)
      | inr later ↦ elim later [
        | inl here ↦
            let same : ◌≡◌ {A = Option (List ℕ × (List ℕ × MetaKind))} (Some (g, (m, new)))
            (Some (f, (n, kind))) =
            sym told ∙ ap (λ (p : List ℕ). told_by (kind_of before p)) here
            ∙ told_there before f n kind node name in
            let is_f : g ≡ f = ap (λ (t : List ℕ × (List ℕ × MetaKind)). t.0)
            (same_Some (g, (m, new)) (f, (n, kind)) same) in
            inl (subst (λ (q : List ℕ). get name_cmp found' q ≡ Some tt) is_f
            (put_there found found' g tt updates))
        | inr more ↦ inr more
      ]
    ];
    entries = old.entries.1;
  }
