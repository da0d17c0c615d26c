-- The changes of a claim, a place and a finish fit.
use Rattle.std.proofs.Common.{◌≡◌, ◌^◌, ◌<◌, ◌≢◌, ℕ, Bool, true, false, cond, List, [], ◌∷◌, ◌++◌, Some, None, Option, refl, sym, ◌∙◌, ap, subst, inl, inr, All}
use Rattle.std.proofs.lemmas.List.Elements.{All-contains, All-head, All-tail, All-cons, All-nil}
use Rattle.std.specs.FinMap as fin
use Rattle.med_base.specs.declared.layout.MetaKind.TheVariants as meta_kind
use Rattle.med_base.specs.declared.kinds.IndexKind.TheVariants as index_kind
use Rattle.med_base.specs.Classify.{kind_of}
use Rattle.med_base.specs.Content.{Content, Object}
use Rattle.med_base.specs.Effects.{Effect, Stores, applied, made}
use Rattle.med_base.specs.Fingerprint.{fingerprint_of}
use Rattle.med_base.specs.Kinds.{Entry, Kind, Meta, Own, Shared}
use Rattle.med_base.specs.declared.key.FileKey.{FileKey}
use Rattle.med_core.proofs.Lists.{AreQuiet, FitsAll, IsSilent, entry_put, file_needed, finished_put, fits_join, quiet_at, silent_index}
use Rattle.med_core.proofs.SafeByKind.{AreApart, finish_with, same_print}
use Rattle.med_core.proofs.Steps.{IsNeeded, IsNew, file_not_manifest}
use Rattle.med_core.specs.Claim.{changes_of_claim}
use Rattle.med_core.specs.Finish.{Checked, Fresh, checked, is_stored_as, manifest_puts, with_placing, with_record}
use Rattle.med_core.specs.Place.{Placing, is_same_print, placing, placing_over, reused, stored_own, stored_shared}
use Rattle.med_manifest.proofs.ByKind.{FinishedByKind, HasPath, IsFileOf, KeyByKind, NameByKind, Reads, StandsByKind, StoredByPath, Text, at, files, manifest}
use Rattle.med_manifest.proofs.Elsewhere.{applied_append}
use Rattle.med_manifest.proofs.Gets.{get_put_other, get_put_same}
use Rattle.med_manifest.specs.declared.manifest.FileRecord.{FileRecord}

-- what each placing of the key k for (f, n) does
pub record IsGood (before : Text) (R : Text → Text → Type 0) (c : Content) (f n : Text)
    (k : FileKey) (p : Placing) : Type 0 where
  pub fits : FitsAll before c R p.changes
  pub stored : StoredByPath before (applied p.changes c) p.file
  pub keeps : (q : FileRecord) → IsFileOf before f n q → (q.key ≢ k) → StoredByPath before c q
      → StoredByPath before (applied p.changes c) q
  pub manifests : (g m : Text) → HasPath before (Meta g m meta_kind.Manifest)
      → fin.get (applied p.changes c) (manifest before g m) ≡ fin.get c (manifest before g m)
  pub key : p.file.key ≡ k
  pub file : IsFileOf before f n p.file

-- what looking at the records again does
pub record IsGoodCheck (before : Text) (R : Text → Text → Type 0) (c : Content) (f n : Text)
    (rs : List FileRecord) (x : Checked) : Type 0 where
  pub fits : FitsAll before c R x.changes
  pub stored : All (StoredByPath before (applied x.changes c)) x.files
  pub keeps : (q : FileRecord) → IsFileOf before f n q → All (λ r. r.key ≢ q.key) rs
      → StoredByPath before c q → StoredByPath before (applied x.changes c) q
  pub manifests : (g m : Text) → HasPath before (Meta g m meta_kind.Manifest)
      → fin.get (applied x.changes c) (manifest before g m) ≡ fin.get c (manifest before g m)

module _ (before : Text) where
  pub claim_quiet : (f n : Text) → NameByKind before f n → (d : Bool) (schema ring : Text) (t : ℕ
      → ℕ) → (t 0 < 2 ^ 64) → AreQuiet before (changes_of_claim before f n d schema ring t)
  claim_quiet f n has true schema ring t fit = (
    quiet_at before (Meta f n meta_kind.Schema) (has.meta meta_kind.Schema) tt,
    (
      quiet_at before (Meta f n meta_kind.Differential) (has.meta meta_kind.Differential) tt,
      (
        quiet_at before (Meta f n meta_kind.Tokenmap) (has.meta meta_kind.Tokenmap) tt,
        (
          quiet_at before (Entry f n index_kind.Tokenmap) (has.entry index_kind.Tokenmap tt) tt,
          (
            quiet_at before (Entry f n (index_kind.Started (t 0)))
                (has.entry (index_kind.Started (t 0)) fit) tt,
            (
              quiet_at before (Entry f n index_kind.Differential)
                  (has.entry index_kind.Differential tt) tt,
              tt,
            ),
          ),
        ),
      ),
    ),
  )
  claim_quiet f n has false schema ring t fit = (
    quiet_at before (Meta f n meta_kind.Schema) (has.meta meta_kind.Schema) tt,
    (
      quiet_at before (Meta f n meta_kind.Tokenmap) (has.meta meta_kind.Tokenmap) tt,
      (
        quiet_at before (Entry f n index_kind.Tokenmap) (has.entry index_kind.Tokenmap tt) tt,
        (
          quiet_at before (Entry f n (index_kind.Started (t 0)))
              (has.entry (index_kind.Started (t 0)) fit) tt,
          tt,
        ),
      ),
    ),
  )

  needed_stored : (c : Content) (p : Text) → IsNeeded before c p → fin.get c p ≡ None → ⊥
  needed_stored c p h none =
      let (o, e, is) = All-contains (StoredByPath before c) h.list h.file h.whole.stored h.among in
      let there : fin.get c p ≡ Some o = ap (fin.get c) (sym h.here) ∙ e in
      cc

  pub shared_kind : (f n g : Text) (k : FileKey) (r : FileRecord) → IsFileOf before f n r
      → kind_of before r.path ≡ Shared g k → f ≡ g
  shared_kind f n g k r (inl e) is = cc
  shared_kind f n g k r (inr e) is = cc

  pub own_kind : (f n g m : Text) (k : FileKey) (r : FileRecord) → IsFileOf before g m r
      → kind_of before r.path ≡ Own f n k → (g ≡ f) × (m ≡ n) × (r.key ≡ k)
  own_kind f n g m k r (inl e) is = absurd (cc)
  own_kind f n g m k r (inr e) is = (cc, cc, cc)

  pub own_unneeded : (c : Content) (f n p : Text) (k : FileKey) → kind_of before p ≡ Own f n k
      → ¬ (FinishedByKind before c f n) → ¬ (IsNeeded before c p)
  own_unneeded c f n p k is idle h =
      let (a, b, _) = own_kind f n h.node h.name k h.file (file_needed before c _ h)
      (ap (kind_of before) h.here ∙ is) in
      idle (
        h.object,
        subst (λ g. StandsByKind before c (Meta g n meta_kind.Manifest) h.object) a
            (subst (λ m. StandsByKind before c (Meta h.node m meta_kind.Manifest) h.object) b
            h.whole.stands),
      )

  not_manifest : (k : Kind) (g m : Text) → HasPath before k → (k ≢ Meta g m meta_kind.Manifest)
      → (kind_of before (at before k) ≢ Meta g m meta_kind.Manifest)
  not_manifest k g m has apart e = apart (sym has ∙ e)

  elsewhere : (k : Kind) (g m : Text) → HasPath before k → (k ≢ Meta g m meta_kind.Manifest)
      → HasPath before (Meta g m meta_kind.Manifest) → (manifest before g m ≢ at before k)
  elsewhere k g m has apart there e = apart (sym has ∙ ap (kind_of before) (sym e) ∙ there)

  stored_after : (c : Content) (p b : Text) (s : ℕ) (q : FileRecord) → (q.path ≢ p)
      → StoredByPath before c q → StoredByPath before (made (Stores p b s) c) q
  stored_after c p b s q apart (o, e, is) = (o, get_put_other c p b s q.path apart ∙ e, is)

  module _ (R : Text → Text → Type 0) (c : Content) (f n : Text) (k : FileKey)
      (keyed : KeyByKind before f n k) (b : Text) (t : ℕ) where
    good_reuse : (o : Object) → fin.get c (at before (Shared f k)) ≡ Some o
        → is_same_print (fingerprint_of o.bytes) (fingerprint_of b) ≡ true → IsGood before R c f n k
        (reused before f k b)
    good_reuse o stands is = record {
      fits = tt;
      stored = (o, stands, same_print _ _ is);
      keeps = λ q file apart h. h;
      manifests = λ g m has. refl;
      key = refl;
      file = inl keyed.shared;
    }

    good_shared : fin.get c (at before (Shared f k)) ≡ None → IsGood before R c f n k
        (stored_shared before f k b t)
    good_shared none = record {
      fits = (
        record {
          unneeded = λ h. needed_stored c _ h none;
          new = λ g m e. absurd
              (not_manifest (Shared f k) g m keyed.shared (λ is. cc) e);
          index = silent_index before c _
              b (subst IsSilent (sym keyed.shared) tt);
        },
        tt,
      );
      stored = (record { bytes = b; second = t }, get_put_same c _ b t, refl);
      keeps = λ q file apart (o, e, is). stored_after c _ b t q (λ here. let gone : fin.get c q.path
          ≡ None = ap (fin.get c) here ∙ none in cc) (o, e, is);
      manifests = λ g m has. get_put_other c _ b t _ (elsewhere (Shared f k) g m keyed.shared
          (λ is. cc) has);
      key = refl;
      file = inl keyed.shared;
    }

    good_own : ¬ (FinishedByKind before c f n) → IsGood before R c f n k
        (stored_own before f n k b t)
    good_own idle = record {
      fits = (
        record {
          unneeded = own_unneeded c f n _ k keyed.own idle;
          new = λ g m e. absurd
              (not_manifest (Own f n k) g m keyed.own (λ is. cc) e);
          index = silent_index before c _ b
              (subst IsSilent (sym keyed.own) tt);
        },
        tt,
      );
      stored = (record { bytes = b; second = t }, get_put_same c _ b t, refl);
      keeps = λ q file apart h. stored_after c _ b t q (λ here. apart (own_kind f n f n k q file
          (ap (kind_of before) here ∙ keyed.own)).2) h;
      manifests = λ g m has. get_put_other c _ b t _ (elsewhere (Own f n k) g m keyed.own
          (λ is. cc) has);
      key = refl;
      file = inr keyed.own;
    }

    good_over : ¬ (FinishedByKind before c f n) → (o : Option Object)
        → fin.get c (at before (Shared f k)) ≡ o → IsGood before R c f n k
        (placing_over before f n k b t o)
    good_over idle None e = good_shared e
    good_over idle (Some o) e = go (is_same_print (fingerprint_of o.bytes) (fingerprint_of b)) refl
      where
        go : (x : Bool) → is_same_print (fingerprint_of o.bytes) (fingerprint_of b) ≡ x
            → IsGood before R c f n k (cond x (reused before f k b) (stored_own before f n k b t))
        go true is = good_reuse o e is
        go false is = good_own idle

    pub good_placing : (d : Bool) → ¬ (FinishedByKind before c f n) → IsGood before R c f n k
        (placing before f n d k b t c)
    good_placing true idle = good_over idle _ refl
    good_placing false idle = good_own idle

  holds_stored : (c : Content) (r : FileRecord) (o : Option Object) → fin.get c r.path ≡ o
      → is_stored_as r.fingerprint o ≡ true → StoredByPath before c r
  holds_stored c r None e h = absurd (cc)
  holds_stored c r (Some o) e h = (o, e, same_print _ _ h)

  good_keep : (R : Text → Text → Type 0) (c : Content) (f n : Text) (r : FileRecord)
      (rs : List FileRecord) (x : Checked) → IsFileOf before f n r → All (λ q. q.key ≢ r.key) rs
      → StoredByPath before c r → IsGoodCheck before R c f n rs x → IsGoodCheck before R c f n (r
      ∷ rs) (with_record r x)
  good_keep R c f n r rs x file apart h good = record {
    fits = good.fits;
    stored = All-cons (StoredByPath before (applied x.changes c)) r x.files
        (good.keeps r file apart h) good.stored;
    keeps = λ q of away there. good.keeps q of (All-tail (λ a. a.key ≢ q.key) r rs away) there;
    manifests = good.manifests;
  }

  good_place : (R : Text → Text → Type 0) (c : Content) (f n : Text) (r : FileRecord)
      (rs : List FileRecord) (p : Placing) (x : Checked) → All (λ q. q.key ≢ r.key) rs
      → IsGood before R c f n r.key p → IsGoodCheck before R (applied p.changes c) f n rs x
      → IsGoodCheck before R c f n (r ∷ rs) (with_placing p x)
  good_place R c f n r rs p x apart one rest =
      let same_end : applied (p.changes ++ x.changes) c ≡ applied x.changes (applied p.changes c) =
      applied_append p.changes x.changes c in
      let apart' : All (λ q. q.key ≢ p.file.key) rs = subst (λ k. All (λ q. q.key ≢ k) rs)
      (sym one.key) apart in
      record {
        fits = fits_join before R p.changes x.changes c one.fits rest.fits;
        stored = subst (λ e. All (StoredByPath before e) (p.file ∷ x.files)) (sym same_end)
            (All-cons (StoredByPath before _) p.file x.files (rest.keeps p.file one.file apart'
            one.stored) rest.stored);
        keeps = λ q of away there. subst (λ e. StoredByPath before e q) (sym same_end)
            (rest.keeps q of (All-tail (λ a. a.key ≢ q.key) r rs away)
            (one.keeps q of (λ e. All-head (λ a. a.key ≢ q.key) r rs away (sym e)) there));
        manifests = λ g m has. ap (λ e. fin.get e (manifest before g m)) same_end
            ∙ rest.manifests g m has ∙ one.manifests g m has;
      }

  pub good_check : (R : Text → Text → Type 0) (f n : Text) (d : Bool) (x : Fresh)
      (rs : List FileRecord) (c : Content) → ¬ (FinishedByKind before c f n) → AreApart rs
      → All (λ q. KeyByKind before f n q.key) rs → All (IsFileOf before f n) rs
      → IsGoodCheck before R c f n rs (checked before f n d x c rs)
  good_check R f n d x [] c idle apart keyed files = record {
    fits = tt;
    stored = All-nil
        (StoredByPath before c);
    keeps = λ q of away h. h;
    manifests = λ g m has. refl;
  }
  good_check R f n d x (r ∷ rs) c idle apart keyed files = go (λ e still. good_check R f n d x rs e
      still apart.1 (All-tail (λ q. KeyByKind before f n q.key) r rs keyed)
      (All-tail (IsFileOf before f n) r rs files)) (is_stored_as r.fingerprint (fin.get c r.path))
      refl
    where
      go : ((e : Content) → ¬ (FinishedByKind before e f n) → IsGoodCheck before R e f n rs
          (checked before f n d x e rs)) → (y : Bool) → is_stored_as r.fingerprint
          (fin.get c r.path) ≡ y
          → IsGoodCheck before R c f n (r ∷ rs)
          (cond y (with_record r (checked before f n d x c rs))
          (with_placing (placing before f n d r.key (x.bytes r.key) (x.second r.key) c)
          (checked before f n d x (applied (placing before f n d r.key (x.bytes r.key)
          (x.second r.key) c).changes c) rs)))
      go more true e = good_keep R c f n r rs _ (All-head (IsFileOf before f n) r rs files) apart.0
          (holds_stored c r _ refl e) (more c idle)
      go more false e =
          let one = good_placing R c f n r.key (All-head (λ q. KeyByKind before f n q.key) r rs
          keyed) (x.bytes r.key) (x.second r.key) d idle in
          good_place R c f n r rs _ _ apart.0 one
          (more _ (λ (o, (has, is)). idle (o, (has, sym (one.manifests f n has) ∙ is))))

  pub finish_fits : (R : Text → Text → Type 0) (c : Content) (f n b : Text) → NameByKind before f n
      → (rs : List FileRecord) (x : Checked) (t : ℕ → ℕ) → (t 0 < 2 ^ 64) → (latest : List Effect)
      → ¬ (FinishedByKind before c f n) → ¬ (R f n) → IsGoodCheck before R c f n rs x
      → Reads before f n b x.files → FitsAll before (applied (manifest_puts before f n b t)
      (applied x.changes c)) R latest → FitsAll before c R (finish_with before f n x b t latest)
  finish_fits R c f n b has rs x t fit latest idle closed good reads mends =
      let e : Content = applied x.changes c in
      let a : Content = made (Stores (manifest before f n) b (t 0)) e in
      let d : Content = made (Stores (at before (Entry f n index_kind.Manifest)) b (t 1)) a in
      let o : Object = record { bytes = b; second = t 0 } in
      let stands : StandsByKind before a (Meta f n meta_kind.Manifest) o =
      (has.meta meta_kind.Manifest, get_put_same e _ b (t 0)) in
      let still : StandsByKind before d (Meta f n meta_kind.Manifest) o = (
        has.meta meta_kind.Manifest,
        get_put_other a _ b (t 1) _
            (elsewhere (Entry f n index_kind.Manifest) f n (has.entry index_kind.Manifest tt)
            (λ is. cc) (has.meta meta_kind.Manifest)) ∙ stands.1,
      ) in
      let puts : FitsAll before e R (manifest_puts before f n b t) = (
        record {
          unneeded = λ h. file_not_manifest before h.node h.name h.file (file_needed before e _ h) f
              n (ap (kind_of before) h.here ∙ has.meta meta_kind.Manifest);
          new = λ g m is. let same_kind : Meta f n meta_kind.Manifest
              ≡ Meta g m meta_kind.Manifest = sym (has.meta meta_kind.Manifest) ∙ is in
              let i : f ≡ g = cc in
              let z : n ≡ m = cc in
              subst (λ h. IsNew before e R h m b) i (subst (λ h. IsNew before e R f h b) z (record {
                unfinished = λ (y, (there, at)). idle (
                  y,
                  (
                    there,
                    sym (good.manifests f n there)
                        ∙ at,
                  ),
                );
                closed = closed;
                list = x.files;
                reads = reads;
                stored = good.stored;
              }));
          index = silent_index before e _ b (subst IsSilent (sym (has.meta meta_kind.Manifest)) tt);
        },
        (
          entry_put before a R f n b o (has.entry index_kind.Manifest tt) stands refl,
          (
            finished_put before d R f n [] (t 0) o (has.entry (index_kind.Finished (t 0)) fit)
                still refl,
            tt,
          ),
        ),
      ) in
      fits_join before R x.changes (manifest_puts before f n b t ++ latest) c good.fits
      (fits_join before R (manifest_puts before f n b t) latest e puts mends)
