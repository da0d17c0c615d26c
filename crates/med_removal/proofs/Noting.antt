-- Paths that are noted in a set, where they are those of shared files.
use Rattle.std.proofs.Common.{◌≡◌, ◌∙◌, ◌++◌, ◌∷◌, [], inl, inr, ℕ, Bool, true, false, true≢false, List, Contains, IsTrue, Option, Some, None, option_map, map, refl, sym, ap, subst, append_assoc, append-nil}
use Rattle.std.proofs.lemmas.List.{map-append}
use Rattle.std.proofs.lemmas.List.Elements.{Contains-append_left, Contains-append_right, Contains-append_cases, Contains-push, Contains-push_cases}
use Rattle.std.proofs.lemmas.Map.Lookups.{exact_bytes}
use Rattle.std.proofs.lemmas.Option.{same_Some}
use Rattle.std.specs.BTreeMap.{is_at}
use Rattle.std.specs.FinMap.{get}
use Rattle.med_base.proofs.Lists.{all_push, all_with}
use Rattle.med_base.specs.declared.layout.MetaKind.TheVariants.{Manifest}
use Rattle.med_base.specs.Content.{Content, Object}
use Rattle.med_base.specs.Kinds.{Meta}
use Rattle.med_base.specs.Layout.{meta_path}
use Rattle.med_manifest.proofs.ByKind.{manifest_path}
use Rattle.med_manifest.proofs.Members.{contains_nothing}
use Rattle.med_manifest.proofs.Once.{manifest_once}
use Rattle.med_manifest.specs.Manifest.{IsManifest}
use Rattle.med_manifest.specs.Mend.{name_in}
use Rattle.med_manifest.specs.Refusals.{IsNoManifest, IsRefused}
use Rattle.med_manifest.specs.Whole.{HasManifest}
use Rattle.med_outside.specs.Storage.{AnswersBytes}
use Rattle.med_index.specs.declared.errors.IndexError.{IndexError}
use Rattle.med_index.specs.declared.errors.IndexError.TheVariants.{BadManifest, Store, Memory}
use Rattle.med_index.specs.Manifests.{IsBadManifest, IsStopped}
use Rattle.std.specs.BTreeSet.{BTreeSet, Updates, contains}
use Rattle.med_base.specs.Classify.{kind_of}
use Rattle.med_base.specs.NameOrder.{name_cmp}
use Rattle.med_index.proofs.Finding.{equal_of}
use Rattle.med_manifest.specs.declared.manifest.FileRecord.{FileRecord}
use Rattle.med_removal.specs.Named.{AreNamesNoted, AreNamesOf, AreNoted, HasShared, IsManifestNoted, IsNamedBy, IsWithin, ReadsIfThere, is_shared_kind, paths_in}

pub map_itself : {X : Type 0} (xs : List X) → map (λ x. x) xs ≡ xs
map_itself [] = refl
map_itself (x ∷ xs) = ap (λ l. x ∷ l) (map_itself xs)

module _ (before path : List ℕ) (s s' : BTreeSet (List ℕ)) where
  -- a path that was put into the set
  pub noted_put : Updates name_cmp s s' path true → AreNoted before (path ∷ []) s s'
  noted_put updates paths old p shared = (
    λ has. there has (is_at (name_cmp path) p) refl,
    λ has. elim (Contains-push_cases paths path p has) [
      | inl was ↦ still was (is_at (name_cmp path) p) refl
      | inr same ↦ here same
    ],
  )
    where
      there : IsTrue (contains name_cmp s' p) → (b : Bool) → is_at (name_cmp path) p ≡ b
          → Contains (paths ++ path ∷ []) p
      there has true e =
          subst (Contains (paths ++ path ∷ []))
          (exact_bytes path p (equal_of (name_cmp path p) e)) (Contains-push paths path)
      there has false e =
          Contains-append_left paths (path ∷ []) p
          ((old p shared).0 (sym (updates.2 p e) ∙ has))

      here : path ≡ p → IsTrue (contains name_cmp s' p)
      here same = subst (λ (q : List ℕ). IsTrue (contains name_cmp s' q)) same updates.1

      still : Contains paths p → (b : Bool) → is_at (name_cmp path) p ≡ b
          → IsTrue (contains name_cmp s' p)
      still was true e = here (exact_bytes path p (equal_of (name_cmp path p) e))
      still was false e = updates.2 p e ∙ (old p shared).1 was

  -- one that isn't that of a shared file
  pub noted_over : is_shared_kind (kind_of before path) ≡ false → AreNoted before (path ∷ []) s s
  noted_over isnt paths old p shared = (
    λ has. Contains-append_left paths (path ∷ []) p ((old p shared).0 has),
    λ has. elim (Contains-push_cases paths path p has) [
      | inl was ↦ (old p shared).1 was
      | inr same ↦
          absurd
          (true≢false (sym shared ∙ ap (λ q. is_shared_kind (kind_of before q)) (sym same) ∙ isnt))
    ],
  )

module _ (before : List ℕ) where
  pub noted_none : (s : BTreeSet (List ℕ)) → AreNoted before [] s s
  noted_none s paths old = subst (λ ps. HasShared before ps s) (sym (append-nil paths)) old

  pub noted_both : (more others : List (List ℕ)) (a b d : BTreeSet (List ℕ))
      → AreNoted before more a b → AreNoted before others b d
      → AreNoted before (more ++ others) a d
  noted_both more others a b d first second paths old =
      subst (λ ps. HasShared before ps d) (append_assoc paths more others)
      (second (paths ++ more) (first paths old))

  -- one more file
  pub noted_file : (files : List FileRecord) (r : FileRecord) (a b d : BTreeSet (List ℕ))
      → AreNoted before (paths_in files) a b → AreNoted before (r.path ∷ []) b d
      → AreNoted before (paths_in (files ++ r ∷ [])) a d
  noted_file files r a b d first second =
      subst (λ ps. AreNoted before ps a d)
      (sym (map-append (λ (r : FileRecord). r.path) files (r ∷ [])))
      (noted_both (paths_in files) (r.path ∷ []) a b d first second)

-- ---- the manifests of a node

module _ (before f : List ℕ) (c : Content) where
  -- no manifest was read
  pub names_none : AreNamesOf before f c [] []
  names_none = record {
    read = tt;
    sound = λ path has. absurd (contains_nothing path has);
    complete = tt;
  }

  module _ (n path : List ℕ) (kind : kind_of before path ≡ Meta f n Manifest)
      (es : List (List ℕ × List ℕ)) (paths : List (List ℕ)) (so : AreNamesOf before f c es paths)
    where
      path_is : path ≡ meta_path before f n Manifest
      path_is = manifest_path before path f n kind

      -- what named a path so far does so still
      more_named : (p : List ℕ) → IsNamedBy before f c es p
          → IsNamedBy before f c (es ++ (path, n) ∷ []) p
      more_named p by = record {
        entry = by.entry;
        among = Contains-append_left es ((path, n) ∷ []) by.entry by.among;
        files = by.files;
        manifest = by.manifest;
        here = by.here;
      }

      within_more : (more : List (List ℕ)) (e : List ℕ × List ℕ) → IsWithin before f c paths e
          → IsWithin before f c (paths ++ more) e
      within_more more e was files has p here =
          Contains-append_left paths more p (was files has p here)

      -- no manifest stands there
      pub names_absent : get c path ≡ None
          → AreNamesOf before f c (es ++ (path, n) ∷ []) paths
      names_absent none = record {
        read = all_push (ReadsIfThere before f c) es (path, n) so.read
            (λ o stands. absurd (cc (none, stands)));
        sound = λ p has. more_named p (so.sound p has);
        complete = all_push (IsWithin before f c paths) es (path, n) so.complete
            (λ files has. absurd
            (let there = ap (get c) path_is ∙ has.stands in cc (none, there)));
      }

      -- one was read, and it names these files
      pub names_read : (o : Object) (files : List FileRecord) → get c path ≡ Some o
          → IsManifest before f n o.bytes files
          → AreNamesOf before f c (es ++ (path, n) ∷ []) (paths ++ paths_in files)
      names_read o files stands is = record {
        read = all_push (ReadsIfThere before f c) es (path, n) so.read
            (λ other there. (
              files,
              subst (λ m. HasManifest before f m c files) (sym (ap name_in kind)) has,
            ));
        sound = λ p among. elim (Contains-append_cases paths (paths_in files) p among) [
          | inl was ↦ more_named p (so.sound p was)
          | inr here ↦ record {
            entry = (path, n);
            among = Contains-push es (path, n);
            files = files;
            manifest = has;
            here = here;
          }
        ];
        complete = all_push (IsWithin before f c (paths ++ paths_in files)) es (path, n)
            (all_with (IsWithin before f c paths) (IsWithin before f c (paths ++ paths_in files))
            (within_more (paths_in files)) es so.complete)
            (λ others with p here. Contains-append_right paths (paths_in files) p
            (subst (λ rs. Contains (paths_in rs) p) (same others with) here));
      }
        where
          has : HasManifest before f n c files
          has = record {
            object = o;
            stands = ap (get c) (sym path_is) ∙ stands;
            names = is;
          }

          same : (others : List FileRecord) → HasManifest before f n c others → others ≡ files
          same others with =
              manifest_once before f n o.bytes others files
              (subst (λ (x : Object). IsManifest before f n x.bytes others)
              (same_Some with.object o
              (sym with.stands ∙ ap (get c) (sym path_is) ∙ stands)) with.names) is

  -- one more manifest was looked for
  pub names_more : (n path : List ℕ) → kind_of before path ≡ Meta f n Manifest
      → (es : List (List ℕ × List ℕ)) (a b d : BTreeSet (List ℕ))
      → AreNamesNoted (Some c) before f es a b
      → IsManifestNoted (Some c) before f n path b d
      → AreNamesNoted (Some c) before f (es ++ (path, n) ∷ []) a d
  names_more n path kind es a b d (paths, so, noted) (None, answer, same) = (
    paths,
    names_absent n path kind es paths so (none_of (get c path) (sym answer)),
    subst (AreNoted before paths a) (sym same) noted,
  )
    where
      none_of : (o : Option Object) → option_map (λ (x : Object). x.bytes) o ≡ None → o ≡ None
      none_of None e = refl
      none_of (Some x) e = absurd (cc e)
  names_more n path kind es a b d (paths, so, noted) (Some bytes, answer, (files, is, more)) =
      let (o, stands, same) = some_of (get c path) (sym answer) in (
        paths ++ paths_in files,
        names_read n path kind es paths so o files stands
            (subst (λ bs. IsManifest before f n bs files) (sym same) is),
        noted_both before paths (paths_in files) a b d noted more,
      )
    where
      some_of : (o : Option Object) → option_map (λ (x : Object). x.bytes) o ≡ Some bytes
          → (x : Object) × (o ≡ Some x) × (x.bytes ≡ bytes)
      some_of None e = absurd (cc e)
      some_of (Some x) e = (x, refl, same_Some x.bytes bytes e)

-- the same where the storage may not be told, and has been read since the start
pub names_step : (start told : Option Content) (before f n path : List ℕ)
    (es : List (List ℕ × List ℕ)) (a b d : BTreeSet (List ℕ)) → told ≡ start
    → kind_of before path ≡ Meta f n Manifest → AreNamesNoted start before f es a b
    → IsManifestNoted told before f n path b d
    → AreNamesNoted start before f (es ++ (path, n) ∷ []) a d
names_step None told before f n path es a b d same kind so more = tt
names_step (Some c) told before f n path es a b d same kind so more =
    names_more before f c n path kind es a b d so
    (subst (λ t. IsManifestNoted t before f n path b d) same more)

pub names_first : (told : Option Content) (before f : List ℕ) (s : BTreeSet (List ℕ))
    → AreNamesNoted told before f [] s s
names_first None before f s = tt
names_first (Some c) before f s = ([], names_none before f c, noted_none before s)

-- the manifest that is refused, behind those that were read
pub names_stopped : (start told : Option Content) (before f n path : List ℕ)
    (es rest all : List (List ℕ × List ℕ)) (a b : BTreeSet (List ℕ)) (error : IndexError)
    → told ≡ start → all ≡ es ++ (path, n) ∷ rest → AreNamesNoted start before f es a b
    → IsBadManifest told before f n path error → IsStopped start before f all error
names_stopped start told before f n path es rest all a b Store same parts so bad = tt
names_stopped start told before f n path es rest all a b Memory same parts so bad = tt
names_stopped None told before f n path es rest all a b (BadManifest at why) same parts so bad = tt
names_stopped (Some c) told before f n path es rest all a b (BadManifest at why) same parts
    (paths, so, noted) (bytes, answer, (at_is, refused, none)) =
    let (o, stands, is) = some_of (get c path) bytes
    (sym (subst (λ t. AnswersBytes path t (Some bytes)) same answer)) in
    record {
      good = es;
      name = n;
      rest = rest;
      parts = parts ∙ ap (λ p. es ++ (p, n) ∷ rest) (sym at_is);
      read = so.read;
      object = o;
      stands = ap (get c) at_is ∙ stands;
      why_is = subst (λ bs. IsRefused before f n bs why) (sym is) refused;
      none = subst (IsNoManifest before f n) (sym is) none;
    }
  where
    some_of : (o : Option Object) (bytes : List ℕ)
        → option_map (λ (x : Object). x.bytes) o ≡ Some bytes
        → (x : Object) × (o ≡ Some x) × (x.bytes ≡ bytes)
    some_of None bytes e = absurd (cc e)
    some_of (Some x) bytes e = (x, refl, same_Some x.bytes bytes e)
