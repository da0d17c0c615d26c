-- Entries that are given to the index of a node, one after another.
use Rattle.std.proofs.Common.{◌≡◌, ◌∙◌, ◌↔◌, ◌==◌, inl, inr, ℕ, Bool, true, false, cond, List, [], ◌∷◌, ◌++◌, Vec, Option, Some, None, option_map, is_some, length, bytes_eq, refl, sym, ap, subst, arith}
use Rattle.std.proofs.lemmas.Bool.{eq-eqb}
use Rattle.std.proofs.lemmas.Option.{same_Some}
use Rattle.std.specs.declared.alloc.Global.{Global}
use Rattle.std.specs.BTreeMap.{BTreeMap, Updates, get}
use Rattle.std.specs.FinMap as finite
use Rattle.med_base.specs.declared.kinds.IndexKind.{IndexKind}
use Rattle.med_base.specs.declared.kinds.IndexKind.TheVariants as entry
use Rattle.med_base.specs.declared.layout.MetaKind.{MetaKind}
use Rattle.med_base.specs.declared.layout.MetaKind.TheVariants.{Differential, Tokenmap, Manifest}
use Rattle.med_base.specs.Classify.{kind_of}
use Rattle.med_base.specs.Content.{Content, Object}
use Rattle.med_base.specs.Kinds.{Entry as IndexEntry}
use Rattle.med_base.specs.Layout.{entry_path}
use Rattle.med_base.specs.NameOrder.{name_cmp}
use Rattle.med_base.proofs.Bools.{bytes_same}
use Rattle.med_base.proofs.Lists.{all_push, all_split, all_with}
use Rattle.med_manifest.specs.Index.{bytes_in, empty_at, empty_where, given, given_to, meta_in, second_in, started}
use Rattle.med_manifest.specs.Mend.{has_bytes}
use Rattle.med_manifest.specs.Rebuild.{is_entry_of_node}
use Rattle.med_manifest.specs.Vault.{second_of, IsBackup}
use Rattle.med_manifest.proofs.Starts.{start_is_told}
use Rattle.med_outside.specs.State.{State, History, OnlyReads}
use Rattle.med_outside.proofs.Passing.{moves_on}
use Rattle.med_index.specs.declared.marks.Marks.{Marks}
use Rattle.med_index.specs.Given.{AreMarksNoted, AreOfNode, AreRestsTold, AreRightly, AreSizes, Given, Grows, IsEmptyNoted, IsFor, IsFoundAs, IsNoted, IsNotedWhere, IsRestGiven, IsRestNoted, IsRightly, IsRingOf, WasGiven, bytes_to_put, difference_of, finish_of, size_in, unless_stands}
use Rattle.med_index.specs.Marks.{mark_of, start_of}
use Rattle.med_index.specs.Visits.{AreFound, found_second}
use Rattle.med_index.proofs.Finding.{put_cases}
use Rattle.med_index.proofs.Starts.{start_is}

abbrev Value : Type 0
Value = Option (Vec ℕ Global)

-- ---- an empty entry

is_false : (b : Bool) → (b ≡ true → ⊥) → b ≡ false
is_false true never = absurd (never refl)
is_false false never = refl

no_length : (b : ℕ) (bytes : List ℕ) → ◌≡◌ {A = Option ℕ} (Some (length (b ∷ bytes))) (Some 0) → ⊥
no_length b bytes e = let is = same_Some (length (b ∷ bytes)) 0 e in absurd (omega (arith, is))

-- an object stands with no bytes exactly where its size is 0
empty_is : (o : Option Object) (stands : Bool) → (stands ≡ true) ↔ (size_in o ≡ Some 0)
    → stands ≡ has_bytes o []
empty_is None stands so = is_false stands (λ e. absurd (let none = so.0 e in cc none))
empty_is (Some o) stands so = go o.bytes refl
  where
    go : (bytes : List ℕ) → o.bytes ≡ bytes → stands ≡ bytes_eq o.bytes []
    go [] e =
        so.1 (ap (λ b. Some (length b)) e) ∙ sym (ap (λ b. bytes_eq b []) e)
    go (b ∷ bytes) e =
        is_false stands
        (λ t. no_length b bytes (sym (ap (λ l. Some (length l)) e) ∙ so.0 t))
        ∙ sym (ap (λ l. bytes_eq l []) e)

is_of_node : (before f n path : List ℕ) (kind : IndexKind)
    → kind_of before path ≡ IndexEntry f n kind → is_entry_of_node f (kind_of before path) ≡ true
is_of_node before f n path kind e = ap (is_entry_of_node f) e ∙ bytes_same f

pub empty_noted : (before f n : List ℕ) (kind : IndexKind) (sizes : BTreeMap (List ℕ) ℕ)
    (old new : Given) (path : List ℕ) (value : Value) (stands : Bool)
    → path ≡ entry_path before f n kind → kind_of before path ≡ IndexEntry f n kind
    → (stands ≡ true) ↔ (get name_cmp sizes path ≡ Some 0)
    → bytes_to_put value ≡ cond stands None (Some [])
    → Updates name_cmp old new path (Some value) → IsEmptyNoted before f n kind sizes old new
empty_noted before f n kind sizes old new path value stands is kind_is so put updates = record {
  value = value;
  updates = subst (λ p. Updates name_cmp old new p (Some value)) is updates;
  kind_is = ap (kind_of before) (sym is) ∙ kind_is;
  right = λ c all.
      let size = all path
      ∙ ap (λ b. cond b (size_in (finite.get c path)) None)
      (is_of_node before f n path kind kind_is) in
      let empty = empty_is (finite.get c path) stands
      ((λ e. sym size ∙ so.0 e), (λ e. so.1 (size ∙ e))) in
      put ∙ ap (λ b. cond b None (Some [])) empty ∙ ap (λ p. unless_stands (finite.get c p) []) is;
}

-- ---- one more entry

module _ (before f n : List ℕ) (kind : IndexKind) (old new : Given) (Right : Value → Type 0)
    (noted : IsNoted before f n kind old new Right) where
  abbrev place : List ℕ
  place = entry_path before f n kind

  pub noted_there : WasGiven new place
  noted_there = ap is_some noted.updates.1

  pub noted_keeps : (path : List ℕ) → WasGiven old path → WasGiven new path
  noted_keeps path was = elim (put_cases old new place noted.value noted.updates path) [
    | inl both ↦ ap is_some both.1
    | inr same ↦ ap is_some same ∙ was
  ]

  pub noted_within : AreOfNode before f old → AreOfNode before f new
  noted_within within path x is =
      elim (put_cases old new place noted.value noted.updates path) [
        | inl both ↦
            subst (λ p. is_entry_of_node f (kind_of before p) ≡ true) both.0
            (is_of_node before f n place kind noted.kind_is)
        | inr same ↦ within path x (sym same ∙ is)
      ]

  module _ (c : Content) (bytes : List ℕ) (gives : given before c f n kind ≡ Some bytes)
      (is_for : IsFor before f n kind bytes c noted.value) where
    given_here : given_to before c f (kind_of before place) ≡ Some bytes
    given_here =
        ap (given_to before c f) noted.kind_is
        ∙ ap (λ b. cond b (given before c f n kind) None) (bytes_same f) ∙ gives

    rightly_here : IsRightly before f c place noted.value
    rightly_here = record { bytes = bytes; gives = given_here; value_is = is_for }

    noted_right : AreRightly before f c old → AreRightly before f c new
    noted_right right path x is =
        elim (put_cases old new place noted.value noted.updates path) [
          | inl both ↦
              subst (IsRightly before f c path) (same_Some noted.value x (sym both.1 ∙ is))
              (subst (λ p. IsRightly before f c p noted.value) both.0 rightly_here)
          | inr same ↦ right path x (sym same ∙ is)
        ]

    pub noted_grows : Grows before f c old new
    noted_grows = record { keeps = noted_keeps; right = noted_right }

module _ (before f : List ℕ) (c : Content) where
  pub grows_on : (a b d : Given) → Grows before f c a b → Grows before f c b d
      → Grows before f c a d
  grows_on a b d p q = record {
    keeps = λ path was. q.keeps path (p.keeps path was);
    right = λ right. q.right (p.right right);
  }

  pub grows_same : (a b : Given) → b ≡ a → Grows before f c a b
  grows_same a b e = record {
    keeps = λ path was. subst (λ m. WasGiven m path) (sym e) was;
    right = λ right. subst (AreRightly before f c) (sym e) right;
  }

-- ---- an entry that may be asked for

module _ (before f n : List ℕ) (sizes : BTreeMap (List ℕ) ℕ) (old new : Given) where
  pub where_within : (asked : Option IndexKind) → IsNotedWhere before f n asked sizes old new
      → AreOfNode before f old → AreOfNode before f new
  where_within None same within = subst (AreOfNode before f) (sym same) within
  where_within (Some kind) noted within =
      noted_within before f n kind old new _ noted within

  module _ (c : Content) (are : AreSizes before f c sizes) where
    pub where_grows : (asked : Option IndexKind) → IsNotedWhere before f n asked sizes old new
        → ((kind : IndexKind) → asked ≡ Some kind → given before c f n kind ≡ Some [])
        → Grows before f c old new
    where_grows None same gives = grows_same before f c old new same
    where_grows (Some kind) noted gives =
        noted_grows before f n kind old new _ noted c [] (gives kind refl) (noted.right c are)

  pub where_there : (asked : Option IndexKind) → IsNotedWhere before f n asked sizes old new
      → (kind : IndexKind) → asked ≡ Some kind → WasGiven new (entry_path before f n kind)
  where_there None same kind e = absurd (cc e)
  where_there (Some other) noted kind e =
      subst (λ k. WasGiven new (entry_path before f n k)) (same_Some other kind e)
      (noted_there before f n other old new _ noted)

-- ---- the marks of a backup

same_second : (a b : Option ℕ) → ((s : ℕ) → a ≡ Some s → b ≡ Some s)
    → ((s : ℕ) → b ≡ Some s → a ≡ Some s) → a ≡ b
same_second (Some x) b there back = sym (there x refl)
same_second None None there back = refl
same_second None (Some y) there back = back y refl

second_is : (o : Option Object) → second_in o ≡ option_map (λ (x : Object). x.second) o
second_is None = refl
second_is (Some o) = refl

at_itself : (o : Option ℕ) (second : ℕ) → o ≡ Some second → empty_at o second ≡ Some []
at_itself o second e =
    ap (λ p. empty_at p second) e ∙ ap (λ b. cond b (Some []) None) (eq-eqb second second refl)

at_second : (o : Option ℕ) (second : ℕ) (bytes : List ℕ) → empty_at o second ≡ Some bytes
    → o ≡ Some second
at_second None second bytes e = absurd (cc)
at_second (Some at) second bytes e = go (second == at) refl e
  where
    go : (b : Bool) → (second == at) ≡ b
        → ◌≡◌ {A = Option (List ℕ)} (cond b (Some []) None) (Some bytes)
        → ◌≡◌ {A = Option ℕ} (Some at) (Some second)
    go true is e = let same : second ≡ at = grind (arith, is) in ap Some (sym same)
    go false is e = absurd (cc)

where_some : (o : Option Object) (bytes : List ℕ) → empty_where o ≡ Some bytes
    → (second : ℕ) × (option_map (λ (x : Object). x.second) o ≡ Some second)
where_some None bytes e = absurd (cc)
where_some (Some o) bytes e = (o.second, refl)

where_stands : (o : Option Object) (second : ℕ)
    → option_map (λ (x : Object). x.second) o ≡ Some second → empty_where o ≡ Some []
where_stands None second e = absurd (cc)
where_stands (Some o) second e = refl

module _ (before f n : List ℕ) (c : Content) (found : BTreeMap (List ℕ) Marks)
    (are : AreFound f found before f c []) (m : Marks) (got : get name_cmp found n ≡ Some m) where
  backup : IsBackup c before f n
  backup = are.names n m got

  exact : (kind : MetaKind) → mark_of kind m ≡ second_of c before f n kind
  exact kind =
      same_second (mark_of kind m) (second_of c before f n kind)
      (λ s is. are.stands n kind s (ap (found_second kind) got ∙ is))
      (λ s is. elim (are.all n kind s backup.name is) [
        | inl there ↦ sym (ap (found_second kind) got) ∙ there
        | inr none ↦ absurd none
      ])

  began : started before c f n ≡ Some (start_of m)
  began =
      (start_is_told before c f n (start_of m)).1
      (start_is c before f n m exact backup.kind backup.second backup.stands)

  finished : second_in (meta_in before c f n Manifest) ≡ m.manifest
  finished = second_is (meta_in before c f n Manifest) ∙ sym (exact Manifest)

  gives_finish : (kind : IndexKind) → finish_of m ≡ Some kind → given before c f n kind ≡ Some []
  gives_finish kind e = go m.manifest refl e
    where
      go : (o : Option ℕ) → m.manifest ≡ o → option_map entry.Finished o ≡ Some kind
          → given before c f n kind ≡ Some []
      go None is e = absurd (cc e)
      go (Some second) is e =
          subst (λ k. given before c f n k ≡ Some []) (same_Some (entry.Finished second) kind e)
          (at_itself (second_in (meta_in before c f n Manifest)) second (finished ∙ is))

  gives_difference : (kind : IndexKind) → difference_of m ≡ Some kind
      → given before c f n kind ≡ Some []
  gives_difference kind e = go m.differential refl e
    where
      go : (o : Option ℕ) → m.differential ≡ o
          → option_map (λ (_ : ℕ). entry.Differential) o ≡ Some kind
          → given before c f n kind ≡ Some []
      go None is e = absurd (cc e)
      go (Some second) is e =
          subst (λ k. given before c f n k ≡ Some []) (same_Some entry.Differential kind e)
          (where_stands (meta_in before c f n Differential) second (sym (exact Differential) ∙ is))

  module _ (sizes : BTreeMap (List ℕ) ℕ) (sized : AreSizes before f c sizes) (old new : Given)
      (noted : AreMarksNoted before f n m sizes old new) where
    start_grows : Grows before f c old noted.first
    start_grows =
        noted_grows before f n (entry.Started (start_of m)) old noted.first _ noted.start c []
        (at_itself (started before c f n) (start_of m) began) (noted.start.right c sized)

    finish_grows : Grows before f c noted.first noted.second
    finish_grows =
        where_grows before f n sizes noted.first noted.second c sized (finish_of m) noted.finish
        gives_finish

    difference_grows : Grows before f c noted.second new
    difference_grows =
        where_grows before f n sizes noted.second new c sized (difference_of m) noted.difference
        gives_difference

    pub marks_grow : Grows before f c old new
    marks_grow =
        grows_on before f c old noted.first new start_grows
        (grows_on before f c noted.first noted.second new finish_grows difference_grows)

    pub start_given : (second : ℕ) (bytes : List ℕ)
        → given before c f n (entry.Started second) ≡ Some bytes
        → WasGiven new (entry_path before f n (entry.Started second))
    start_given second bytes e =
        let is : ◌≡◌ {A = Option ℕ} (Some (start_of m)) (Some second) =
        sym began ∙ at_second (started before c f n) second bytes e in
        subst (λ s. WasGiven new (entry_path before f n (entry.Started s)))
        (same_Some (start_of m) second is)
        (difference_grows.keeps (entry_path before f n (entry.Started (start_of m)))
        (finish_grows.keeps (entry_path before f n (entry.Started (start_of m)))
        (noted_there before f n (entry.Started (start_of m)) old noted.first _ noted.start)))

    pub finish_given : (second : ℕ) (bytes : List ℕ)
        → given before c f n (entry.Finished second) ≡ Some bytes
        → WasGiven new (entry_path before f n (entry.Finished second))
    finish_given second bytes e =
        let is : m.manifest ≡ Some second =
        sym finished ∙ at_second (second_in (meta_in before c f n Manifest)) second bytes e in
        difference_grows.keeps (entry_path before f n (entry.Finished second))
        (where_there before f n sizes noted.first noted.second (finish_of m) noted.finish
        (entry.Finished second) (ap (option_map entry.Finished) is))

    pub difference_given : (bytes : List ℕ) → given before c f n entry.Differential ≡ Some bytes
        → WasGiven new (entry_path before f n entry.Differential)
    difference_given bytes e =
        let some = where_some (meta_in before c f n Differential) bytes e in
        where_there before f n sizes noted.second new (difference_of m) noted.difference
        entry.Differential
        (ap (option_map (λ (_ : ℕ). entry.Differential)) (exact Differential ∙ some.1))

-- the entries of a mark are of the node
pub marks_within : (before f n : List ℕ) (m : Marks) (sizes : BTreeMap (List ℕ) ℕ)
    (old new : Given) → AreMarksNoted before f n m sizes old new → AreOfNode before f old
    → AreOfNode before f new
marks_within before f n m sizes old new noted within =
    where_within before f n sizes noted.second new (difference_of m) noted.difference
    (where_within before f n sizes noted.first noted.second (finish_of m) noted.finish
    (noted_within before f n (entry.Started (start_of m)) old noted.first _ noted.start within))

-- ---- the token map of a backup

bytes_are : (o : Option Object) → bytes_in o ≡ option_map (λ (x : Object). x.bytes) o
bytes_are None = refl
bytes_are (Some o) = refl

ring_of_within : (told : Option Content) (before f n : List ℕ) (found : Option (List ℕ))
    (old new : Given) → IsRingOf told before f n found old new → AreOfNode before f old
    → AreOfNode before f new
ring_of_within told before f n None old new same within =
    subst (AreOfNode before f) (sym same) within
ring_of_within told before f n (Some bytes) old new noted within =
    noted_within before f n entry.Tokenmap old new _ noted within

ring_of_grows : (before f n : List ℕ) (c : Content) (found : Option (List ℕ)) (old new : Given)
    → given before c f n entry.Tokenmap ≡ found → IsRingOf (Some c) before f n found old new
    → Grows before f c old new
ring_of_grows before f n c None old new is same = grows_same before f c old new same
ring_of_grows before f n c (Some bytes) old new is noted =
    noted_grows before f n entry.Tokenmap old new _ noted c bytes is noted.right

ring_of_given : (before f n : List ℕ) (c : Content) (found : Option (List ℕ)) (old new : Given)
    → given before c f n entry.Tokenmap ≡ found → IsRingOf (Some c) before f n found old new
    → (bytes : List ℕ) → given before c f n entry.Tokenmap ≡ Some bytes
    → WasGiven new (entry_path before f n entry.Tokenmap)
ring_of_given before f n c None old new is same bytes e =
    absurd (let none = sym is ∙ e in cc none)
ring_of_given before f n c (Some bytes) old new is noted other e =
    noted_there before f n entry.Tokenmap old new _ noted

-- ---- the entries of a backup but that of its manifest

pub rest_within : (told : Option Content) (before f n : List ℕ) (m : Marks)
    (sizes : BTreeMap (List ℕ) ℕ) (old new : Given)
    → IsRestNoted told before f n m sizes old new → AreOfNode before f old
    → AreOfNode before f new
rest_within told before f n m sizes old new (mid, marks, (found, answer, ring)) within =
    ring_of_within told before f n found mid new ring
    (marks_within before f n m sizes old mid marks within)

module _ (before f n : List ℕ) (c : Content) (found : BTreeMap (List ℕ) Marks)
    (are : AreFound f found before f c []) (m : Marks) (got : get name_cmp found n ≡ Some m)
    (sizes : BTreeMap (List ℕ) ℕ) (sized : AreSizes before f c sizes) (old new : Given)
    (noted : IsRestNoted (Some c) before f n m sizes old new) where
  abbrev mid : Given
  mid = noted.0

  ring_is : given before c f n entry.Tokenmap ≡ noted.2.0
  ring_is = bytes_are (meta_in before c f n Tokenmap) ∙ sym noted.2.1

  ring_grows : Grows before f c mid new
  ring_grows = ring_of_grows before f n c noted.2.0 mid new ring_is noted.2.2

  rest_grows : Grows before f c old new
  rest_grows =
      grows_on before f c old mid new
      (marks_grow before f n c found are m got sizes sized old mid noted.1) ring_grows

  rest_given : IsRestGiven before f c new n
  rest_given entry.Tokenmap bytes copy e =
      ring_of_given before f n c noted.2.0 mid new ring_is noted.2.2 bytes e
  rest_given entry.Manifest bytes copy e = absurd copy
  rest_given (entry.Started second) bytes copy e =
      ring_grows.keeps (entry_path before f n (entry.Started second))
      (start_given before f n c found are m got sizes sized old mid noted.1 second bytes e)
  rest_given (entry.Finished second) bytes copy e =
      ring_grows.keeps (entry_path before f n (entry.Finished second))
      (finish_given before f n c found are m got sizes sized old mid noted.1 second bytes e)
  rest_given entry.Differential bytes copy e =
      ring_grows.keeps (entry_path before f n entry.Differential)
      (difference_given before f n c found are m got sizes sized old mid noted.1 bytes e)

-- ---- the backups that were found, one after another

rest_grown : (before f : List ℕ) (c : Content) (a b : Given) → Grows before f c a b
    → (n : List ℕ) → IsRestGiven before f c a n → IsRestGiven before f c b n
rest_grown before f c a b grows n all kind bytes copy e =
    grows.keeps (entry_path before f n kind) (all kind bytes copy e)

-- what is given of one more backup. The storage still has the content that it had at the start
pub rests_step : (start told : Option Content) (before f n : List ℕ)
    (found : BTreeMap (List ℕ) Marks) (es : List (List ℕ × Marks)) (m : Marks)
    (sizes : BTreeMap (List ℕ) ℕ) (old middle new : Given) → told ≡ start
    → AreRestsTold start before f found sizes es old middle
    → IsRestNoted told before f n m sizes middle new
    → AreRestsTold start before f found sizes (es ++ (n, m) ∷ []) old new
rests_step None told before f n found es m sizes old middle new same all noted = tt
rests_step (Some c) told before f n found es m sizes old middle new same all noted =
    λ are sized got.
    let parts = all_split (IsFoundAs found) es ((n, m) ∷ []) got in
    let first = all are sized parts.0 in
    let here = subst (λ t. IsRestNoted t before f n m sizes middle new) same noted in
    let more = rest_grows before f n c found are m parts.1.0 sizes sized middle new here in
    record {
      grows = grows_on before f c old middle new first.grows more;
      all =
          all_push (λ (e : List ℕ × Marks). IsRestGiven before f c new e.0) es (n, m)
          (all_with (λ (e : List ℕ × Marks). IsRestGiven before f c middle e.0)
          (λ (e : List ℕ × Marks). IsRestGiven before f c new e.0)
          (λ e. rest_grown before f c middle new more e.0) es first.all)
          (rest_given before f n c found are m parts.1.0 sizes sized middle new here);
    }

-- before the first backup
pub rests_none : (told : Option Content) (before f : List ℕ) (found : BTreeMap (List ℕ) Marks)
    (sizes : BTreeMap (List ℕ) ℕ) (m : Given) → AreRestsTold told before f found sizes [] m m
rests_none None before f found sizes m = tt
rests_none (Some c) before f found sizes m = λ are sized got.
    record { grows = grows_same before f c m m refl; all = tt }

-- ---- calls that only read, one after another

pub looks_on : (s0 s1 s2 : State) (p0 p1 p2 : History) → OnlyReads s0 s1 p0 p1
    → OnlyReads s1 s2 p1 p2 → OnlyReads s0 s2 p0 p2
looks_on s0 s1 s2 p0 p1 p2 a b =
    record { moves = moves_on [] [] s0 s1 s2 p0 p1 p2 a.moves b.moves; room = b.room ∙ a.room }
