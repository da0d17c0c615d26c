-- The manifests of the finished backups of a node, one after another.
use Rattle.std.proofs.Common.{◌≡◌, ◌∙◌, inl, inr, ℕ, List, [], ◌∷◌, ◌++◌, map, Option, Some, None, option_map, refl, sym, ap, subst}
use Rattle.std.proofs.lemmas.Map.Iter.{rest_more, rest_so_far}
use Rattle.std.proofs.lemmas.Option.{same_Some}
use Rattle.std.specs.Iterator.{Yields}
use Rattle.std.specs.Map.Iter.{TakesFirst}
use Rattle.std.specs.BTreeMap.{BTreeMap, get}
use Rattle.std.specs.BTreeSet.{BTreeSet}
use Rattle.std.specs.FinMap as finite
use Rattle.std.specs.List.{AllByRecursion}
use Rattle.med_base.specs.declared.kinds.IndexKind.TheVariants as entry
use Rattle.med_base.specs.declared.layout.MetaKind.TheVariants.{Manifest}
use Rattle.med_base.specs.Classify.{kind_of}
use Rattle.med_base.specs.Content.{Content, Object}
use Rattle.med_base.specs.Kinds.{Meta}
use Rattle.med_base.specs.Layout.{entry_path, meta_path}
use Rattle.med_base.specs.NameOrder.{name_cmp}
use Rattle.med_base.proofs.Lists.{all_push, all_split, all_with}
use Rattle.med_manifest.specs.declared.manifest.FileRecord.{FileRecord}
use Rattle.med_manifest.specs.Index.{bytes_in, given}
use Rattle.med_manifest.specs.Manifest.{IsManifest}
use Rattle.med_manifest.specs.Mend.{name_in}
use Rattle.med_manifest.specs.Reads.{DoesRead}
use Rattle.med_manifest.specs.Refusals.{IsNoManifest, IsRefused}
use Rattle.med_manifest.specs.Whole.{HasManifest}
use Rattle.med_manifest.proofs.ByKind.{manifest_path}
use Rattle.med_outside.specs.Storage.{AnswersBytes}
use Rattle.med_index.specs.declared.errors.IndexError.{IndexError}
use Rattle.med_index.specs.declared.errors.IndexError.TheVariants.{BadManifest, Store, Memory}
use Rattle.med_index.specs.declared.marks.Marks.{Marks}
use Rattle.med_index.specs.Given.{AreOfNode, Given, Grows, IsFoundAs, WasGiven}
use Rattle.med_index.specs.Planned.{outside}
use Rattle.med_index.specs.Manifests.{AreManifests, AreManifestsOf, AreReadTold, IsBadManifest, IsManifestNoted, IsManifestRead, IsNamed, IsReadAs, IsReadIn, IsStopped, Manifests}
use Rattle.med_index.proofs.Finding.{nothing_got, put_cases}
use Rattle.med_index.proofs.GivenLemmas.{grows_on, grows_same, noted_grows, noted_there, noted_within}

abbrev Found : Type 0
Found = BTreeMap (List ℕ) Marks

abbrev Named : Type 0
Named = List ℕ × List ℕ

-- ---- which manifests there are

name_once : (before f n m path : List ℕ) → kind_of before path ≡ Meta f n Manifest
    → kind_of before path ≡ Meta f m Manifest → n ≡ m
name_once before f n m path a b = ap name_in (sym a ∙ b)

module _ (before f : List ℕ) (found : Found) (but : BTreeSet (List ℕ)) where
  pub manifests_none : (m : Manifests) → m.entries ≡ [] → AreManifests before f found but [] m
  manifests_none m empty = λ got. record {
    named = λ path n is. absurd (let none = none_got m empty path in cc (is, none));
    all = tt;
  }
    where
      none_got : (m : Manifests) → m.entries ≡ [] → (q : List ℕ) → get name_cmp m q ≡ None
      none_got m empty q = nothing_got m q empty

  -- a backup that isn't finished
  module _ (es : List (List ℕ × Marks)) (n : List ℕ) (marks : Marks) (old new : Manifests) where
    pub manifest_step : IsManifestNoted before f n (outside but n marks.manifest) old new
        → AreManifests before f found but es old
        → AreManifests before f found but (es ++ (n, marks) ∷ []) new
    manifest_step noted all got =
        let parts = all_split (IsFoundAs found) es ((n, marks) ∷ []) got in
        go (outside but n marks.manifest) refl noted (all parts.0) parts.1.0
      where
        go : (o : Option ℕ) → outside but n marks.manifest ≡ o → IsManifestNoted before f n o old new
            → AreManifestsOf before f found but es old → get name_cmp found n ≡ Some marks
            → AreManifestsOf before f found but (es ++ (n, marks) ∷ []) new
        go None is same first here = record {
          named = λ path m e. first.named path m
              (subst (λ k. get name_cmp k path ≡ Some m) same e);
          all = all_push
              (λ (e : List ℕ × Marks). (second : ℕ) → outside but e.0 e.1.manifest ≡ Some second
              → get name_cmp new (meta_path before f e.0 Manifest) ≡ Some e.0) es (n, marks)
              (subst (λ k. AllByRecursion
              (λ (e : List ℕ × Marks). (second : ℕ) → outside but e.0 e.1.manifest ≡ Some second
              → get name_cmp k (meta_path before f e.0 Manifest) ≡ Some e.0) es) (sym same)
              first.all)
              (λ second e. absurd (let none = sym is ∙ e in cc none));
        }
        go (Some second) is put first here = record {
          named = λ path m e.
              elim (put_cases old new (meta_path before f n Manifest) n put.1 path) [
                | inl both ↦
                    let same : n ≡ m = same_Some n m (sym both.1 ∙ e) in
                    subst (λ x. IsNamed before f found but path x) same
                    (record {
                      path_is = sym both.0;
                      kind_is = ap (kind_of before) (sym both.0) ∙ put.0;
                      marks = marks;
                      second = second;
                      got = here;
                      finished = is;
                    })
                | inr same ↦ first.named path m (sym same ∙ e)
              ];
          all = all_push
              (λ (e : List ℕ × Marks). (second : ℕ) → outside but e.0 e.1.manifest ≡ Some second
              → get name_cmp new (meta_path before f e.0 Manifest) ≡ Some e.0) es (n, marks)
              (all_with
              (λ (e : List ℕ × Marks). (second : ℕ) → outside but e.0 e.1.manifest ≡ Some second
              → get name_cmp old (meta_path before f e.0 Manifest) ≡ Some e.0)
              (λ (e : List ℕ × Marks). (second : ℕ) → outside but e.0 e.1.manifest ≡ Some second
              → get name_cmp new (meta_path before f e.0 Manifest) ≡ Some e.0)
              (λ e was second finished. still e.0 (was second finished)) es first.all)
              (λ other e. put.1.1);
        }
          where
            still : (m : List ℕ) → get name_cmp old (meta_path before f m Manifest) ≡ Some m
                → get name_cmp new (meta_path before f m Manifest) ≡ Some m
            still m was =
                elim (put_cases old new (meta_path before f n Manifest) n put.1
                (meta_path before f m Manifest)) [
                  | inl both ↦
                      let named = first.named (meta_path before f m Manifest) m was in
                      both.1
                      ∙ ap Some (name_once before f n m (meta_path before f m Manifest)
                      (ap (kind_of before) (sym both.0) ∙ put.0) named.kind_is)
                  | inr same ↦ same ∙ was
                ]

-- ---- one manifest

module _ (before f n path : List ℕ) (kind : kind_of before path ≡ Meta f n Manifest) where
  path_is : path ≡ meta_path before f n Manifest
  path_is = manifest_path before path f n kind

  given_is : (c : Content) → given before c f n entry.Manifest ≡ bytes_in (finite.get c path)
  given_is c = ap (λ p. bytes_in (finite.get c p)) (sym path_is)

  bytes_are : (o : Option Object) → bytes_in o ≡ option_map (λ (x : Object). x.bytes) o
  bytes_are None = refl
  bytes_are (Some o) = refl

  does_read : (c : Content) (o : Object) (files : List FileRecord) → finite.get c path ≡ Some o
      → IsManifest before f n o.bytes files → DoesRead before c f path
  does_read c o files stands is = (
    files,
    subst (λ m. HasManifest before f m c files) (sym (ap name_in kind))
        (record {
          object = o;
          stands = ap (finite.get c) (sym path_is) ∙ stands;
          names = is;
        }),
  )

  module _ (c : Content) (old new : Given) where
    as_grows : (found : Option (List ℕ)) → given before c f n entry.Manifest ≡ found
        → IsReadAs (Some c) before f n found old new → Grows before f c old new
    as_grows None is same = grows_same before f c old new same
    as_grows (Some bytes) is (reads, noted) =
        noted_grows before f n entry.Manifest old new _ noted c bytes is noted.right

    pub read_grows : IsManifestRead (Some c) before f n path old new → Grows before f c old new
    read_grows (found, answer, reads) =
        as_grows found (given_is c ∙ bytes_are (finite.get c path) ∙ sym answer) reads

    as_read : (found : Option (List ℕ)) (o : Object) → finite.get c path ≡ Some o
        → found ≡ Some o.bytes → IsReadAs (Some c) before f n found old new
        → DoesRead before c f path × WasGiven new (entry_path before f n entry.Manifest)
    as_read None o stands is same = absurd (cc is)
    as_read (Some bytes) o stands is ((files, reads), noted) = (
      does_read c o files stands
          (subst (λ b. IsManifest before f n b files) (same_Some bytes o.bytes is) reads),
      noted_there before f n entry.Manifest old new _ noted,
    )

    pub read_in : IsManifestRead (Some c) before f n path old new
        → IsReadIn before f c new (path, n)
    read_in (found, answer, reads) o stands =
        as_read found o stands
        (answer ∙ ap (option_map (λ (x : Object). x.bytes)) stands) reads

as_within : (told : Option Content) (before f n : List ℕ) (found : Option (List ℕ))
    (old new : Given) → IsReadAs told before f n found old new → AreOfNode before f old
    → AreOfNode before f new
as_within told before f n None old new same within = subst (AreOfNode before f) (sym same) within
as_within told before f n (Some bytes) old new (reads, noted) within =
    noted_within before f n entry.Manifest old new _ noted within

pub read_within : (told : Option Content) (before f n path : List ℕ) (old new : Given)
    → IsManifestRead told before f n path old new → AreOfNode before f old
    → AreOfNode before f new
read_within told before f n path old new (found, answer, reads) within =
    as_within told before f n found old new reads within

-- ---- one after another

read_on : (before f : List ℕ) (c : Content) (a b : Given) → Grows before f c a b → (e : Named)
    → IsReadIn before f c a e → IsReadIn before f c b e
read_on before f c a b grows e was o stands =
    let both = was o stands in
    (both.0, grows.keeps (entry_path before f e.1 entry.Manifest) both.1)

pub reads_none : (told : Option Content) (before f : List ℕ) (m : Given)
    → AreReadTold told before f [] m m
reads_none None before f m = tt
reads_none (Some c) before f m = record { grows = grows_same before f c m m refl; all = tt }

-- one more manifest is read. The storage still has the content that it had at the start
pub reads_step : (start told : Option Content) (before f n path : List ℕ) (es : List Named)
    (old middle new : Given) → told ≡ start → kind_of before path ≡ Meta f n Manifest
    → AreReadTold start before f es old middle
    → IsManifestRead told before f n path middle new
    → AreReadTold start before f (es ++ (path, n) ∷ []) old new
reads_step None told before f n path es old middle new same kind all reads = tt
reads_step (Some c) told before f n path es old middle new same kind all reads =
    let here = subst (λ t. IsManifestRead t before f n path middle new) same reads in
    let more = read_grows before f n path kind c middle new here in
    record {
      grows = grows_on before f c old middle new all.grows more;
      all =
          all_push (IsReadIn before f c new) es (path, n)
          (all_with (IsReadIn before f c middle) (IsReadIn before f c new)
          (read_on before f c middle new more) es all.all)
          (read_in before f n path kind c middle new here);
    }

some_object : (o : Option Object) (bytes : List ℕ)
    → ◌≡◌ {A = Option (List ℕ)} (Some bytes) (option_map (λ (x : Object). x.bytes) o)
    → (x : Object) × (o ≡ Some x) × (bytes ≡ x.bytes)
some_object None bytes e = absurd (cc e)
some_object (Some o) bytes e = (o, refl, same_Some bytes o.bytes e)

-- the manifest that is refused, behind those that were read
pub stopped_at : (start told : Option Content) (before f n path : List ℕ)
    (es rest all : List Named) (old middle : Given) (error : IndexError) → told ≡ start
    → all ≡ es ++ (path, n) ∷ rest → AreReadTold start before f es old middle
    → IsBadManifest told before f n path error → IsStopped start before f all error
stopped_at start told before f n path es rest all old middle Store same parts reads bad = tt
stopped_at start told before f n path es rest all old middle Memory same parts reads bad = tt
stopped_at None told before f n path es rest all old middle (BadManifest at why) same parts reads
    bad =
    tt
stopped_at (Some c) told before f n path es rest all old middle (BadManifest at why) same parts
    reads (bytes, answer, (at_is, refused, none)) =
    let found = some_object (finite.get c path) bytes
    (subst (λ t. AnswersBytes path t (Some bytes)) same answer) in
    record {
      good = es;
      name = n;
      rest = rest;
      parts = parts ∙ ap (λ p. es ++ (p, n) ∷ rest) (sym at_is);
      read =
          all_with (IsReadIn before f c middle)
          (λ (e : Named). (o : Object) → finite.get c e.0 ≡ Some o → DoesRead before c f e.0)
          (λ e reads o stands. (reads o stands).0) es reads.all;
      object = found.0;
      stands = ap (finite.get c) at_is ∙ found.1;
      why_is = subst (λ b. IsRefused before f n b why) found.2 refused;
      none = subst (IsNoManifest before f n) found.2 none;
    }

-- what a loop over a map has come to
pub parts_of : {X : Type 0} (all xs s t u : List X) (r : Option X) (x : X) → s ≡ all
    → Yields (TakesFirst (λ (y : X). y)) s xs t → r ≡ Some x → TakesFirst (λ (y : X). y) t r u
    → all ≡ xs ++ x ∷ u
parts_of {X} all xs s t u r x start so_far is step =
    sym start ∙ rest_so_far (λ (y : X). y) xs s t so_far ∙ ap (λ l. l ++ t) (itself xs)
    ∙ ap (λ l. xs ++ l) (rest_more (λ (y : X). y) t u r x is step)
  where
    itself : (ys : List X) → map (λ (y : X). y) ys ≡ ys
    itself [] = refl
    itself (y ∷ ys) = ap (λ l. y ∷ l) (itself ys)
