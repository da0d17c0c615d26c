-- Lists of changes each of which fits.
use Rattle.std.proofs.Common.{◌≡◌, ◌≢◌, ◌⊎◌, ℕ, List, [], ◌∷◌, ◌++◌, Some, None, sym, ◌∙◌, ap, subst, inl, inr}
use Rattle.std.specs.List.{AllByRecursion}
use Rattle.std.proofs.lemmas.List.Elements.{All-contains}
use Rattle.std.specs.FinMap as fin
use Rattle.med_base.specs.declared.layout.MetaKind.TheVariants as meta_kind
use Rattle.med_base.specs.declared.kinds.IndexKind.TheVariants as index_kind
use Rattle.med_base.specs.declared.kinds.LatestKind.TheVariants as latest_kind
use Rattle.med_base.specs.Classify.{kind_of}
use Rattle.med_base.specs.Content.{Content, Object}
use Rattle.med_base.specs.Effects.{Effect, Removes, Stores, applied, made}
use Rattle.med_base.specs.Kinds.{Entry, Kind, Latest, Meta, Own, Shared}
use Rattle.med_core.proofs.SafeByKind.{SafeAlongByKind, SafeByKind}
use Rattle.med_core.proofs.Steps.{Fits, IsIndexPut, IsNeeded, MayPut, step_safe}
use Rattle.med_core.specs.Safe.{kept_after, kept_after_all}
use Rattle.med_manifest.proofs.ByKind.{FinishedByKind, HasPath, IsFileOf, StandsByKind, Text, at, files, manifest}
use Rattle.med_manifest.proofs.Elsewhere.{AreElsewhere}
use Rattle.med_manifest.proofs.Gets.{get_delete_other, get_delete_same, same_path, target}
use Rattle.med_manifest.specs.Listed.{removes}
use Rattle.med_manifest.specs.declared.manifest.FileRecord.{FileRecord}

abbrev pub FitsAll : Text → Content → (Text → Text → Type 0) → List Effect → Type 0
FitsAll before c R [] = Unit {0}
FitsAll before c R (x ∷ xs) = Fits before c R x × FitsAll before (made x c) R xs

pub fits_front : (before : Text) (R : Text → Text → Type 0) (xs ys : List Effect) (c : Content)
    → FitsAll before c R (xs ++ ys) → FitsAll before c R xs
fits_front before R [] ys c h = tt
fits_front before R (x ∷ xs) ys c h = (h.0, fits_front before R xs ys (made x c) h.1)

pub fits_join : (before : Text) (R : Text → Text → Type 0) (xs ys : List Effect) (c : Content)
    → FitsAll before c R xs → FitsAll before (applied xs c) R ys → FitsAll before c R (xs ++ ys)
fits_join before R [] ys c h k = k
fits_join before R (x ∷ xs) ys c h k = (h.0, fits_join before R xs ys (made x c) h.1 k)

-- no file of a backup and no manifest is of this kind
abbrev pub IsQuiet : Kind → Type 0
IsQuiet (Shared f k) = ⊥
IsQuiet (Own f n k) = ⊥
IsQuiet (Meta f n meta_kind.Manifest) = ⊥
IsQuiet _ = Unit {0}

-- nor does the index say by this kind what a manifest has
abbrev pub IsPlain : Kind → Type 0
IsPlain (Shared f k) = ⊥
IsPlain (Own f n k) = ⊥
IsPlain (Meta f n meta_kind.Manifest) = ⊥
IsPlain (Entry f n index_kind.Manifest) = ⊥
IsPlain (Entry f n (index_kind.Finished t)) = ⊥
IsPlain (Latest f latest_kind.Name) = ⊥
IsPlain _ = Unit {0}

pub plain_quiet : (k : Kind) → IsPlain k → IsQuiet k
plain_quiet (Shared f k) h = h
plain_quiet (Own f n k) h = h
plain_quiet (Meta f n meta_kind.Manifest) h = h
plain_quiet _ h = tt

abbrev pub IsQuietChange : Text → Effect → Type 0
IsQuietChange before (Stores p b s) = IsPlain (kind_of before p)
IsQuietChange before (Removes p) = IsQuiet (kind_of before p)

pub quiet_change : (before : Text) (x : Effect) → IsQuietChange before x
    → IsQuiet (kind_of before (target x))
quiet_change before (Stores p b s) h = plain_quiet (kind_of before p) h
quiet_change before (Removes p) h = h

abbrev pub AreQuiet : Text → List Effect → Type 0
AreQuiet before [] = Unit {0}
AreQuiet before (x ∷ xs) = IsQuietChange before x × AreQuiet before xs

pub quiet_deletes : (before : Text) (ps : List Text)
    → AllByRecursion (λ p. IsQuiet (kind_of before p)) ps → AreQuiet before (removes ps)
quiet_deletes before [] h = tt
quiet_deletes before (p ∷ ps) h = (h.0, quiet_deletes before ps h.1)

-- no whole backup needs it, and it is no manifest
pub record IsSpare (before : Text) (c : Content) (p : Text) : Type 0 where
  pub unneeded : ¬ (IsNeeded before c p)
  pub apart : (f n : Text) → (kind_of before p ≢ Meta f n meta_kind.Manifest)

-- the index says by this kind nothing that a manifest has
abbrev pub IsSilent : Kind → Type 0
IsSilent (Entry f n index_kind.Manifest) = ⊥
IsSilent (Entry f n (index_kind.Finished t)) = ⊥
IsSilent (Latest f latest_kind.Name) = ⊥
IsSilent _ = Unit {0}

pub plain_silent : (k : Kind) → IsPlain k → IsSilent k
plain_silent (Entry f n index_kind.Manifest) h = h
plain_silent (Entry f n (index_kind.Finished t)) h = h
plain_silent (Latest f latest_kind.Name) h = h
plain_silent _ h = tt

module _ (before : Text) where
  pub quiet_at : (k : Kind) → HasPath before k → IsPlain k → IsPlain (kind_of before (at before k))
  quiet_at k has h = subst IsPlain (sym has) h

  pub quiet_not_manifest : (p f n : Text) → IsQuiet (kind_of before p) → (kind_of before p
      ≢ Meta f n meta_kind.Manifest)
  quiet_not_manifest p f n h e = subst IsQuiet e h

  pub quiet_not_file : (p f n : Text) (r : FileRecord) → IsQuiet (kind_of before p)
      → IsFileOf before f n r → (r.path ≢ p)
  quiet_not_file p f n r h (inl is) e = subst IsQuiet (ap (kind_of before) (sym e) ∙ is) h
  quiet_not_file p f n r h (inr is) e = subst IsQuiet (ap (kind_of before) (sym e) ∙ is) h

  pub file_needed : (c : Content) (p : Text) (h : IsNeeded before c p)
      → IsFileOf before h.node h.name h.file
  file_needed c p h = All-contains (IsFileOf before h.node h.name) h.list h.file
      (files before h.node h.name h.object.bytes h.list h.whole.reads) h.among

  pub quiet_unneeded : (c : Content) (p : Text) → IsQuiet (kind_of before p)
      → ¬ (IsNeeded before c p)
  quiet_unneeded c p q h = quiet_not_file p h.node h.name h.file q (file_needed c p h) h.here

  pub silent_index : (c : Content) (p b : Text) → IsSilent (kind_of before p)
      → IsIndexPut before c p b
  silent_index c p b q = record {
    entry = λ f n e. absurd (subst IsSilent e q);
    finished = λ f n t e. absurd (subst IsSilent e q);
    latest = λ f e. absurd (subst IsSilent e q);
  }

  pub quiet_fits : (c : Content) (R : Text → Text → Type 0) (x : Effect) → IsQuietChange before x
      → Fits before c R x
  quiet_fits c R (Stores p b s) q = record {
    unneeded = quiet_unneeded c p (plain_quiet (kind_of before p) q);
    new = λ f n e. absurd (subst IsPlain e q);
    index = silent_index c p b (plain_silent (kind_of before p) q);
  }
  quiet_fits c R (Removes p) q = record {
    unneeded = quiet_unneeded c p q;
    unlisted = λ f n e. absurd (subst IsQuiet e q);
  }

  pub all_quiet_fit : (c : Content) (R : Text → Text → Type 0) (xs : List Effect)
      → AreQuiet before xs → FitsAll before c R xs
  all_quiet_fit c R [] h = tt
  all_quiet_fit c R (x ∷ xs) h = (quiet_fits c R x h.0, all_quiet_fit (made x c) R xs h.1)

  pub quiet_elsewhere : (f n : Text) → HasPath before (Meta f n meta_kind.Manifest)
      → (xs : List Effect) → AreQuiet before xs → AreElsewhere (manifest before f n) xs
  quiet_elsewhere f n has [] h = tt
  quiet_elsewhere f n has (x ∷ xs) h = (
    λ e. quiet_not_manifest (target x) f n
        (quiet_change before x h.0) (ap (kind_of before) (sym e) ∙ has),
    quiet_elsewhere f n has xs
        h.1,
  )

  -- what isn't needed isn't needed either where less stands
  back_delete : (c : Content) (p q : Text) (o : Object) → fin.get (made (Removes p) c) q ≡ Some o
      → fin.get c q ≡ Some o
  back_delete c p q o e = go (same_path q p)
    where
      go : (q ≡ p) ⊎ (q ≢ p) → fin.get c q ≡ Some o
      go (inl is) = let gone : fin.get (made (Removes p) c) q
          ≡ None = ap (fin.get (made (Removes p) c)) is ∙ get_delete_same c p in cc
      go (inr apart) = sym (get_delete_other c p q apart) ∙ e

  needed_before : (c : Content) (q p : Text) → IsNeeded before (made (Removes q) c) p
      → IsNeeded before c p
  needed_before c q p h = record {
    node = h.node;
    name = h.name;
    object = h.object;
    list = h.list;
    whole = record {
      stands = (h.whole.stands.0, back_delete c q _ h.object h.whole.stands.1);
      reads = h.whole.reads;
      stored = λ k d lt. let (o, e, is) = h.whole.stored k d lt in (o, back_delete c q _ o e, is);
    };
    file = h.file;
    among = h.among;
    here = h.here;
  }

  pub fits_deletes : (R : Text → Text → Type 0) (ps : List Text) (c : Content)
      → AllByRecursion (IsSpare before c) ps → FitsAll before c R (removes ps)
  fits_deletes R [] c h = tt
  fits_deletes R (p ∷ ps) c h = (
    record {
      unneeded = h.0.unneeded;
      unlisted = λ f n e. absurd
          (h.0.apart f n e);
    },
    fits_deletes R ps (made (Removes p) c) (still ps h.1),
  )
    where
      still : (qs : List Text) → AllByRecursion (IsSpare before c) qs
          → AllByRecursion (IsSpare before (made (Removes p) c)) qs
      still [] k = tt
      still (q ∷ qs) k = (
        record {
          unneeded = λ need. k.0.unneeded (needed_before c p q need);
          apart = k.0.apart;
        },
        still qs k.1,
      )

  pub safe_along : (S : Type 0) (R : Text → Text → Type 0) (xs : List Effect) (c : Content)
      (W : Text → Text → Type 0) → SafeByKind before S c R W → FitsAll before c R xs
      → SafeAlongByKind before S c R W xs
  safe_along S R [] c W safe h = safe
  safe_along S R (x ∷ xs) c W safe h = (
    safe,
    safe_along S R xs (made x c) (kept_after before W x)
        (step_safe before S c R W safe x h.0) h.1,
  )

  pub safe_at_end : (S : Type 0) (R : Text → Text → Type 0) (xs : List Effect) (c : Content)
      (W : Text → Text → Type 0) → SafeAlongByKind before S c R W xs → SafeByKind before S
      (applied xs c) R (kept_after_all before W xs)
  safe_at_end S R [] c W h = h
  safe_at_end S R (x ∷ xs) c W h = safe_at_end S R xs (made x c) (kept_after before W x) h.1

  -- the puts by which the index tells of a manifest
  pub entry_put : (c : Content) (R : Text → Text → Type 0) (f n b : Text) (x : Object)
      → HasPath before (Entry f n index_kind.Manifest) → StandsByKind before c
      (Meta f n meta_kind.Manifest) x → x.bytes ≡ b → MayPut before c R
      (at before (Entry f n index_kind.Manifest)) b
  entry_put c R f n b x has stands is = record {
    unneeded = quiet_unneeded c _ (subst IsQuiet (sym has) tt);
    new = λ g m e. absurd (subst IsQuiet (sym has ∙ e) tt);
    index = record {
      entry = λ g m e. let same_kind : Entry f n index_kind.Manifest
          ≡ Entry g m index_kind.Manifest = sym has ∙ e in
          let a : f ≡ g = cc in
          let z : n ≡ m = cc in (
            x,
            subst (λ h. StandsByKind before c (Meta h m meta_kind.Manifest) x) a
                (subst (λ h. StandsByKind before c (Meta f h meta_kind.Manifest) x) z stands),
            is,
          );
      finished = λ g m t e. let no : Entry f n index_kind.Manifest
          ≡ Entry g m (index_kind.Finished t) = sym has ∙ e in absurd (cc);
      latest = λ g e. let no : Entry f n index_kind.Manifest ≡ Latest g latest_kind.Name = sym has
          ∙ e in absurd (cc);
    };
  }

  pub finished_put : (c : Content) (R : Text → Text → Type 0) (f n b : Text) (t : ℕ) (x : Object)
      → HasPath before (Entry f n (index_kind.Finished t)) → StandsByKind before c
      (Meta f n meta_kind.Manifest) x → x.second ≡ t → MayPut before c R
      (at before (Entry f n (index_kind.Finished t))) b
  finished_put c R f n b t x has stands is = record {
    unneeded = quiet_unneeded c _ (subst IsQuiet (sym has) tt);
    new = λ g m e. absurd (subst IsQuiet (sym has ∙ e) tt);
    index = record {
      entry = λ g m e. let no : Entry f n (index_kind.Finished t) ≡ Entry g m index_kind.Manifest =
          sym has ∙ e in absurd (cc);
      finished = λ g m s e. let same_kind : Entry f n (index_kind.Finished t)
          ≡ Entry g m (index_kind.Finished s) = sym has ∙ e in
          let a : f ≡ g = cc in
          let z : n ≡ m = cc in
          let y : t ≡ s = cc in (
            x,
            subst (λ h. StandsByKind before c (Meta h m meta_kind.Manifest) x) a
                (subst (λ h. StandsByKind before c (Meta f h meta_kind.Manifest) x) z stands),
            is
                ∙ y,
          );
      latest = λ g e. let no : Entry f n (index_kind.Finished t) ≡ Latest g latest_kind.Name =
          sym has ∙ e in absurd (cc);
    };
  }

  pub latest_put : (c : Content) (R : Text → Text → Type 0) (f b : Text)
      → HasPath before (Latest f latest_kind.Name) → FinishedByKind before c f b → MayPut before c R
      (at before (Latest f latest_kind.Name)) b
  latest_put c R f b has done = record {
    unneeded = quiet_unneeded c _ (subst IsQuiet (sym has) tt);
    new = λ g m e. absurd (subst IsQuiet (sym has ∙ e) tt);
    index = record {
      entry = λ g m e. let no : Latest f latest_kind.Name ≡ Entry g m index_kind.Manifest = sym has
          ∙ e in absurd (cc);
      finished = λ g m t e. let no : Latest f latest_kind.Name ≡ Entry g m (index_kind.Finished t) =
          sym has ∙ e in absurd (cc);
      latest = λ g e. let same_kind : Latest f latest_kind.Name ≡ Latest g latest_kind.Name =
          sym has ∙ e in let a : f ≡ g = cc in subst (λ h. FinishedByKind before c h b) a done;
    };
  }
