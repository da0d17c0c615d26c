-- A mend: the newest backup that was found is that of the content, and what is planned is made.
use Rattle.std.proofs.Common.{◌≡◌, ◌∙◌, inl, inr, ℕ, Bool, true, false, cond, ◌&&◌, not, List, [], ◌∷◌, ◌++◌, map, Option, Some, None, option_map, IfSome, Result, Ok, Err, IfOk, OnOk, Contains, bytes_eq, refl, sym, ap, ap₂, subst, get_or}
use Rattle.std.proofs.lemmas.Option.{same_Some}
use Rattle.std.specs.BTreeMap.{BTreeMap, get as lookup}
use Rattle.std.specs.BTreeSet.{BTreeSet, contains}
use Rattle.std.specs.FinMap as fin
use Rattle.std.specs.List.{AllByRecursion, list_any}
use Rattle.std.specs.Option.{option_to_list}
use Rattle.med_base.proofs.Lists.{all_append, contains_map}
use Rattle.med_base.specs.declared.kinds.LatestKind.{LatestKind}
use Rattle.med_base.specs.declared.kinds.LatestKind.TheVariants as latest
use Rattle.med_base.specs.declared.layout.MetaKind.TheVariants as meta_kind
use Rattle.med_base.specs.Classify.{kind_of}
use Rattle.med_base.specs.Content.{Content, Object}
use Rattle.med_base.specs.Effects.{Effect, Removes, Stores}
use Rattle.med_base.specs.Kinds.{Kind, Meta, Latest, IsFqdn}
use Rattle.med_base.specs.Layout.{latest_path, meta_path}
use Rattle.med_base.specs.NameOrder.{name_cmp}
use Rattle.med_manifest.proofs.ByKind.{HasPath, folder, manifest_path, path_has, path_valid}
use Rattle.med_manifest.proofs.Gets.{from_same, same_itself}
use Rattle.med_manifest.proofs.Members.{IsListed, all_listed, all_so, any_same, is_listed, same_any}
use Rattle.med_manifest.proofs.Newest.{and_first, and_second}
use Rattle.med_manifest.specs.Listed.{paths_of}
use Rattle.med_manifest.specs.Mend.{changes_of_mend, finished_at, has_bytes, is_later, is_manifest_outside, mend_to, mend_tokenmap, name_in, newest, put_unless, second_or_zero}
use Rattle.med_index.specs.declared.changes.Planned.{Planned}
use Rattle.med_index.specs.declared.marks.Marks.{Marks}
use Rattle.med_index.specs.Marks.{IsSetOf}
use Rattle.med_index.specs.Planned.{ArePlanned, IsFinishedOutside, IsNewestFound, IsOfLatestPlan, IsPlanOf, latest_to, object_to}
use Rattle.med_index.specs.Rebuilt.{AreOfLatest, IsLatestOf, IsMend, changed}
use Rattle.med_index.specs.Visits.{AreFound, found_second}
use Rattle.med_index.proofs.NewestLemmas.{Finish, last_is, last_of_none}
use Rattle.med_index.proofs.PlanLemmas.{latest_made, object_made, planned_apart}

-- ---- the newest of the content

module _ (names : List (List ℕ)) (but : BTreeSet (List ℕ)) (set : IsSetOf names but) where
  -- a name that isn't one of these isn't in their set, and the other way round
  pub not_in_set : (n : List ℕ) (b t : Bool) → list_any (bytes_eq n) names ≡ b
      → contains name_cmp but n ≡ t → not b ≡ true → contains name_cmp but n ≡ false
  not_in_set n true t e is isnt = absurd (cc)
  not_in_set n false true e is isnt = absurd (cc (any_same n names ((set n).0 is), e))
  not_in_set n false false e is isnt = is

  pub not_in_names : (n : List ℕ) (b : Bool) → list_any (bytes_eq n) names ≡ b
      → contains name_cmp but n ≡ false → not (list_any (bytes_eq n) names) ≡ true
  not_in_names n true e isnt = absurd (cc ((set n).1 (same_any n names e), isnt))
  not_in_names n false e isnt = ap not e

module _ (before : List ℕ) (c : Content) (node f : List ℕ) (found : BTreeMap (List ℕ) Marks)
    (all_found : AreFound node found before f c []) (names : List (List ℕ))
    (but : BTreeSet (List ℕ)) (set : IsSetOf names but) where
  -- what was found of a backup whose manifest stands
  manifest_found : (n : List ℕ) (o : Object) → HasPath before (Meta f n meta_kind.Manifest)
      → fin.get c (meta_path before f n meta_kind.Manifest) ≡ Some o
      → found_second meta_kind.Manifest (lookup name_cmp found n) ≡ Some o.second
  manifest_found n o has stands =
      let valid = path_valid before (Meta f n meta_kind.Manifest) tt has in
      elim (all_found.all n meta_kind.Manifest o.second valid.1
      (ap (option_map (λ (x : Object). x.second)) stands)) [
        | inl there ↦ there
        | inr later ↦ absurd later
      ]

  finish_at : (p : List ℕ) (k : Kind) → kind_of before p ≡ k
      → is_manifest_outside f names k ≡ true → (o : Object) → fin.get c p ≡ Some o
      → IsFinishedOutside found but (finished_at before c p)
  finish_at p (Meta g n meta_kind.Manifest) e passes o stands =
      let free = not (list_any (bytes_eq n) names) in
      let is : g ≡ f = from_same g f (and_first (bytes_eq g f) free passes) in
      let isnt = not_in_set names but set n (list_any (bytes_eq n) names) (contains name_cmp but n) refl refl
      (and_second (bytes_eq g f) free passes) in
      let kind : kind_of before p ≡ Meta f n meta_kind.Manifest =
      e ∙ ap (λ h. Meta h n meta_kind.Manifest) is in
      let here : p ≡ meta_path before f n meta_kind.Manifest = manifest_path before p f n kind in
      let got = manifest_found n o (ap (kind_of before) (sym here) ∙ kind)
      (ap (fin.get c) (sym here) ∙ stands) in
      subst (IsFinishedOutside found but)
      (sym (λ i. (second_or_zero (stands i), name_in (kind i)))) (isnt, got)
  finish_at p _ e passes o stands = absurd (cc)

  all_finishes : (ps : List (List ℕ))
      → AllByRecursion (IsListed before c (is_manifest_outside f names)) ps
      → AllByRecursion (IsFinishedOutside found but) (map (finished_at before c) ps)
  all_finishes [] all = tt
  all_finishes (p ∷ ps) all =
      (finish_at p (kind_of before p) refl all.0.0 all.0.1.0 all.0.1.1, all_finishes ps all.1)

  finishes_found : AllByRecursion (IsFinishedOutside found but)
      (map (finished_at before c) (paths_of before c (is_manifest_outside f names)))
  finishes_found =
      all_finishes (paths_of before c (is_manifest_outside f names))
      (all_listed before c (is_manifest_outside f names))

  some_object : (o : Option Object) (second : ℕ)
      → option_map (λ (x : Object). x.second) o ≡ Some second
      → (x : Object) × (o ≡ Some x) × (x.second ≡ second)
  some_object None second is = absurd (cc)
  some_object (Some x) second is = (x, refl, same_Some x.second second is)

  -- a finished backup that was found is among those of the content
  among_finishes : (b : Finish) → HasPath before (Meta f b.1 meta_kind.Manifest)
      → IsFinishedOutside found but b
      → Contains (map (finished_at before c) (paths_of before c (is_manifest_outside f names))) b
  among_finishes b has (isnt, got) =
      let path = meta_path before f b.1 meta_kind.Manifest in
      let (o, stands, second) = some_object (fin.get c path) b.0
      (all_found.stands b.1 meta_kind.Manifest b.0 got) in
      let passes : is_manifest_outside f names (kind_of before path) ≡ true =
      ap (is_manifest_outside f names) has
      ∙ (ap (λ t. t && not (list_any (bytes_eq b.1) names)) (same_itself f)
      ∙ not_in_names names but set b.1 (list_any (bytes_eq b.1) names) refl isnt) in
      let (k, less, there) = is_listed before c (is_manifest_outside f names) path o passes stands
      in
      let mapped = contains_map (finished_at before c)
      (paths_of before c (is_manifest_outside f names)) k path less (sym there) in
      subst
      (Contains (map (finished_at before c) (paths_of before c (is_manifest_outside f names))))
      (λ i. ((ap second_or_zero stands ∙ second) i, name_in (has i))) mapped

  -- the newest that was found is that of the content
  pub newest_told : (b : Option Finish)
      → IfSome b (λ a. HasPath before (Meta f a.1 meta_kind.Manifest))
      → IsNewestFound found but b → newest before c f names ≡ b
  newest_told None has none =
      last_of_none _
      (all_so (IsFinishedOutside found but) (λ a. ⊥) none _ finishes_found)
  newest_told (Some b) has (got, last) =
      last_is _ b (among_finishes b has got)
      (all_so (IsFinishedOutside found but) (λ a. is_later a b ≡ false) last _ finishes_found)

-- ---- the plan

module _ (before : List ℕ) (c : Content) (f : List ℕ) where
  -- the plans of both latest objects
  pub both_made : (name ring : Option (List ℕ)) (first second : Option Planned) (xs : List Effect)
      → IsPlanOf c (latest_path before f latest.Name) name first
      → IsPlanOf c (latest_path before f latest.Tokenmap) ring second
      → ArePlanned (option_to_list first ++ option_to_list second) xs
      → (seconds : ℕ → ℕ) × (xs ≡ latest_to before c f name ring seconds)
  both_made name ring first second xs a b planned =
      let (ys, zs, is, one, two) = planned_apart (option_to_list first) (option_to_list second) xs
      planned in
      let (s, made) = object_made c (latest_path before f latest.Name) name first ys a one in
      let (t, more) = object_made c (latest_path before f latest.Tokenmap) ring second zs b two in
      (λ i. get_or (s ∷ t ∷ []) i 0, is ∙ ap₂ (λ l k. l ++ k) made more)

  ring_to : (o : Option Object) (second : ℕ)
      → object_to c (latest_path before f latest.Tokenmap)
      (option_map (λ (x : Object). x.bytes) o) second
      ≡ mend_tokenmap before c f o second
  ring_to None second = refl
  ring_to (Some o) second = refl

  -- the latest objects of a backup are those of a mend to it
  pub mend_to_is : (a : Finish) (ring : Option (List ℕ)) (seconds : ℕ → ℕ)
      → ring ≡ option_map (λ (x : Object). x.bytes)
      (fin.get c (meta_path before f a.1 meta_kind.Tokenmap))
      → latest_to before c f (Some a.1) ring seconds ≡ mend_to before c f (Some a) seconds
  mend_to_is a ring seconds is =
      ap
      (λ l. put_unless c (latest_path before f latest.Name) a.1 (seconds 0) ++ l)
      (ap (λ r. object_to c (latest_path before f latest.Tokenmap) r (seconds 1)) is
      ∙ ring_to (fin.get c (meta_path before f a.1 meta_kind.Tokenmap)) (seconds 1))

  -- ---- a mend changes the latest objects of its node

  module _ (node : IsFqdn f) where
    latest_kind : (kind : LatestKind) → IsLatestOf f (kind_of before (latest_path before f kind))
    latest_kind kind =
        subst (IsLatestOf f) (sym (path_has before (Latest f kind) tt node)) refl

    object_reach : (kind : LatestKind) (wanted : Option (List ℕ)) (second : ℕ)
        → AreOfLatest before f (object_to c (latest_path before f kind) wanted second)
    object_reach kind None second = by (fin.contains_key c (latest_path before f kind))
      where
        by : (t : Bool) → AreOfLatest before f
            (cond t (Removes (latest_path before f kind) ∷ []) [])
        by true = (latest_kind kind, tt)
        by false = tt
    object_reach kind (Some bytes) second =
        by (has_bytes (fin.get c (latest_path before f kind)) bytes)
      where
        by : (t : Bool) → AreOfLatest before f
            (cond t [] (Stores (latest_path before f kind) bytes second ∷ []))
        by true = tt
        by false = (latest_kind kind, tt)

    latest_reach : (name ring : Option (List ℕ)) (seconds : ℕ → ℕ)
        → AreOfLatest before f (latest_to before c f name ring seconds)
    latest_reach name ring seconds =
        all_append (λ x. IsLatestOf f (kind_of before (changed x))) _ _
        (object_reach latest.Name name (seconds 0)) (object_reach latest.Tokenmap ring (seconds 1))

    pub mend_reach : (seconds : ℕ → ℕ)
        → AreOfLatest before f (changes_of_mend before c f [] seconds)
    mend_reach seconds = go (newest before c f [])
      where
        go : (b : Option Finish) → AreOfLatest before f (mend_to before c f b seconds)
        go None = latest_reach None None seconds
        go (Some a) =
            subst (AreOfLatest before f) (mend_to_is a _ seconds refl)
            (latest_reach (Some a.1) (option_map (λ (x : Object). x.bytes)
            (fin.get c (meta_path before f a.1 meta_kind.Tokenmap))) seconds)

-- ---- where the storage is told

-- what is planned makes this list
abbrev pub Becomes : List Planned → ((ℕ → ℕ) → List Effect) → Type 0
Becomes ps list = (xs : List Effect) → ArePlanned ps xs → (seconds : ℕ → ℕ) × (xs ≡ list seconds)

-- what was found before the plan
then_planned : (P Q : Content → Type 0) (told later : Option Content) → later ≡ told
    → IfSome told P → IfSome later (λ c. P c → Q c) → IfSome told Q
then_planned P Q None later same found plan = tt
then_planned P Q (Some c) later same found plan =
    subst (λ o. IfSome o (λ d. P d → Q d)) same plan found

module _ (before f : List ℕ) (ps : List Planned) where
  -- a plan for the newest that was found is one of a mend
  pub mend_planned : (told : Option Content) (node : List ℕ) (found : BTreeMap (List ℕ) Marks)
      (but : BTreeSet (List ℕ)) (b : Option Finish)
      → IfSome b (λ a. HasPath before (Meta f a.1 meta_kind.Tokenmap))
      → IsNewestFound found but b → IfSome told (λ c. Becomes ps (mend_to before c f b))
      → IfSome told (λ c. AreFound node found before f c [] → (names : List (List ℕ))
      → IsSetOf names but → Becomes ps (changes_of_mend before c f names))
  mend_planned None node found but b has newest plan = tt
  mend_planned (Some c) node found but b has newest plan = λ all_found names set.
      subst (λ a. Becomes ps (mend_to before c f a))
      (sym (newest_told before c node f found all_found names but set b (in_folder b has) newest))
      plan
    where
      in_folder : (b : Option Finish)
          → IfSome b (λ a. HasPath before (Meta f a.1 meta_kind.Tokenmap))
          → IfSome b (λ a. HasPath before (Meta f a.1 meta_kind.Manifest))
      in_folder None has = tt
      in_folder (Some a) has = folder before f a.1 meta_kind.Tokenmap meta_kind.Manifest has

  -- what a plan of a mend becomes is a mend
  pub mend_made : (told : Option Content) (xs : List Effect)
      → IfSome told (λ c. Becomes ps (changes_of_mend before c f []))
      → AllByRecursion (IsOfLatestPlan before f) ps → ArePlanned ps xs → IsMend before told f xs
  mend_made told xs plan all planned = record {
    reach = latest_made before f ps xs planned all;
    list = go told plan;
  }
    where
      go : (o : Option Content) → IfSome o (λ c. Becomes ps (changes_of_mend before c f []))
          → IfSome o (λ c. (seconds : ℕ → ℕ) × (xs ≡ changes_of_mend before c f [] seconds))
      go None plan = tt
      go (Some c) plan = plan xs planned

-- there is always a list of a mend
pub some_mend : (before : List ℕ) (told : Option Content) (f : List ℕ) → IsFqdn f
    → (xs : List Effect) × IsMend before told f xs
some_mend before None f node = ([], record { reach = tt; list = tt })
some_mend before (Some c) f node = (
  changes_of_mend before c f [] (λ i. 0),
  record { reach = mend_reach before c f node (λ i. 0); list = (λ i. 0, refl) },
)

-- ---- calls in a row

module _ (before f : List ℕ) where
  -- the plans of both latest objects, of which the second was made after the first
  pub latest_planned : (told later : Option Content) (name ring : Option (List ℕ))
      (first second : Option Planned) (ps : List Planned) → later ≡ told
      → ps ≡ option_to_list first ++ option_to_list second
      → IfSome told (λ c. IsPlanOf c (latest_path before f latest.Name) name first)
      → IfSome later (λ c. IsPlanOf c (latest_path before f latest.Tokenmap) ring second)
      → IfSome told (λ c. Becomes ps (latest_to before c f name ring))
  latest_planned None later name ring first second ps same is a b = tt
  latest_planned (Some c) later name ring first second ps same is a b = λ xs planned.
      both_made before c f name ring first second xs a
      (subst (λ o. IfSome o
      (λ d. IsPlanOf d (latest_path before f latest.Tokenmap) ring second)) same b)
      (subst (λ l. ArePlanned l xs) is planned)

  -- the plan for the latest objects of a backup, whose token map was read before
  pub newest_planned : {X E : Type 0} (items : X → List Planned) (n : List ℕ)
      (told later : Option Content) (name ring found : Option (List ℕ)) (r : Result X E)
      → later ≡ told → name ≡ Some n → ring ≡ found
      → IfSome told (λ c. found ≡ option_map (λ (x : Object). x.bytes)
      (fin.get c (meta_path before f n meta_kind.Tokenmap)))
      → IfOk r (λ x. IfSome later (λ c. Becomes (items x) (latest_to before c f name ring)))
      → IfOk r (λ x. IfSome told (λ c. (newest : Finish) → newest.1 ≡ n
      → Becomes (items x) (mend_to before c f (Some newest))))
  newest_planned items n told later name ring found (Err e) same is lent answer plan = tt
  newest_planned items n None later name ring found (Ok x) same is lent answer plan = tt
  newest_planned items n (Some c) later name ring found (Ok x) same is lent answer plan =
      λ newest named xs planned.
      let here = subst
      (λ o. IfSome o (λ d. Becomes (items x) (latest_to before d f name ring))) same plan in
      let (seconds, list) = here xs planned in
      let ring_is = lent ∙ answer
      ∙ ap (λ m. option_map (λ (x : Object). x.bytes)
      (fin.get c (meta_path before f m meta_kind.Tokenmap))) (sym named) in (
        seconds,
        list ∙ ap (λ m. latest_to before c f m ring seconds) (is ∙ ap Some (sym named))
            ∙ mend_to_is before c f newest ring seconds ring_is,
      )

  -- the plan for the newest backup that was found, or where there is none
  pub none_planned : {X E : Type 0} (items : X → List Planned) (told : Option Content)
      (node : List ℕ) (found : BTreeMap (List ℕ) Marks) (but : BTreeSet (List ℕ)) (r : Result X E)
      → IsNewestFound found but None
      → IfOk r (λ x. IfSome told (λ c. Becomes (items x) (mend_to before c f None)))
      → IfOk r (λ x. IfSome told (λ c. AreFound node found before f c [] → (names : List (List ℕ))
      → IsSetOf names but → Becomes (items x) (changes_of_mend before c f names)))
  none_planned items told node found but (Err e) none plan = tt
  none_planned items told node found but (Ok x) none plan =
      mend_planned before f (items x) told node found but None tt none plan

  pub some_planned : {X E : Type 0} (items : X → List Planned) (told : Option Content)
      (node : List ℕ) (found : BTreeMap (List ℕ) Marks) (but : BTreeSet (List ℕ)) (r : Result X E)
      (a : Finish) → IsNewestFound found but (Some a)
      → OnOk r (HasPath before (Meta f a.1 meta_kind.Tokenmap))
      → IfOk r (λ x. IfSome told (λ c. (newest : Finish) → newest.1 ≡ a.1
      → Becomes (items x) (mend_to before c f (Some newest))))
      → IfOk r (λ x. IfSome told (λ c. AreFound node found before f c [] → (names : List (List ℕ))
      → IsSetOf names but → Becomes (items x) (changes_of_mend before c f names)))
  some_planned items told node found but (Err e) a is has plan = tt
  some_planned items told node found but (Ok x) a is has plan =
      mend_planned before f (items x) told node found but (Some a) has is (go told plan)
    where
      go : (o : Option Content)
          → IfSome o (λ c. (newest : Finish) → newest.1 ≡ a.1
          → Becomes (items x) (mend_to before c f (Some newest)))
          → IfSome o (λ c. Becomes (items x) (mend_to before c f (Some a)))
      go None plan = tt
      go (Some c) plan = plan a refl

  -- the plan where there is no name that isn't to be the newest
  pub all_planned : {X E : Type 0} (items : X → List Planned) (told : Option Content)
      (node : List ℕ) (found : BTreeMap (List ℕ) Marks) (but : BTreeSet (List ℕ)) (r : Result X E)
      → IsSetOf [] but
      → IfOk r (λ x. IfSome told (λ c. AreFound node found before f c [] → (names : List (List ℕ))
      → IsSetOf names but → Becomes (items x) (changes_of_mend before c f names)))
      → IfOk r (λ x. IfSome told (λ c. AreFound node found before f c []
      → Becomes (items x) (changes_of_mend before c f [])))
  all_planned items told node found but (Err e) set plan = tt
  all_planned items None node found but (Ok x) set plan = tt
  all_planned items (Some c) node found but (Ok x) set plan = λ found. plan found [] set

  -- the plan after the backups were found
  pub found_planned : {X E : Type 0} (items : X → List Planned) (told later : Option Content)
      (node : List ℕ) (found : BTreeMap (List ℕ) Marks) (r : Result X E) → later ≡ told
      → IfSome told (λ c. AreFound node found before f c [])
      → IfOk r (λ x. IfSome later (λ c. AreFound node found before f c []
      → Becomes (items x) (changes_of_mend before c f [])))
      → IfOk r (λ x. IfSome told (λ c. Becomes (items x) (changes_of_mend before c f [])))
  found_planned items told later node found (Err e) same there plan = tt
  found_planned items told later node found (Ok x) same there plan =
      then_planned (λ c. AreFound node found before f c [])
      (λ c. Becomes (items x) (changes_of_mend before c f [])) told later same there plan
