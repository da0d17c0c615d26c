-- A change that fits keeps a safe content safe.
use Rattle.std.proofs.Common.{◌≡◌, ◌≢◌, ◌⊎◌, ℕ, List, Some, None, refl, sym, ◌∙◌, ap, subst, inl, inr, All, Contains, get_or, ⊎_elim}
use Rattle.std.proofs.lemmas.List.Elements.{Contains-get_or}
use Rattle.std.specs.FinMap as fin
use Rattle.med_base.specs.declared.layout.MetaKind.TheVariants as meta_kind
use Rattle.med_base.specs.declared.kinds.IndexKind.TheVariants as index_kind
use Rattle.med_base.specs.declared.kinds.LatestKind.TheVariants as latest_kind
use Rattle.med_base.proofs.Bools.{same_bytes}
use Rattle.med_base.specs.Classify.{kind_of}
use Rattle.med_base.specs.Content.{Content, Object}
use Rattle.med_base.specs.Effects.{Effect, Removes, Stores, made}
use Rattle.med_base.specs.Kinds.{Entry, Kind, Latest, Meta}
use Rattle.med_core.proofs.SafeByKind.{SafeByKind}
use Rattle.med_core.specs.Safe.{kept_after}
use Rattle.med_manifest.proofs.ByKind.{FinishedByKind, IsFileOf, IsWholeBy, Reads, SoundByKind, StandsByKind, StoredByPath, Text, WholeByKind, at, files, manifest, manifest_path}
use Rattle.med_manifest.proofs.Gets.{get_delete_other, get_delete_same, get_put_other, get_put_same, same_path}
use Rattle.med_manifest.specs.declared.manifest.FileRecord.{FileRecord}

-- the manifest of a whole backup names the path
pub record IsNeeded (before : Text) (c : Content) (p : Text) : Type 0 where
  pub node : Text
  pub name : Text
  pub object : Object
  pub list : List FileRecord
  pub whole : IsWholeBy before c node name object list
  pub file : FileRecord
  pub among : Contains list file
  pub here : file.path ≡ p

-- these bytes may become the manifest of (f, n)
pub record IsNew (before : Text) (c : Content) (R : Text → Text → Type 0) (f n b : Text) : Type 0
  where
    pub unfinished : ¬ (FinishedByKind before c f n)
    pub closed : ¬ (R f n)
    pub list : List FileRecord
    pub reads : Reads before f n b list
    pub stored : All (StoredByPath before c) list

-- the put leaves the index sound
pub record IsIndexPut (before : Text) (c : Content) (p b : Text) : Type 0 where
  pub entry : (f n : Text) → kind_of before p ≡ Entry f n index_kind.Manifest → (x : Object)
      × StandsByKind before c (Meta f n meta_kind.Manifest) x × (x.bytes ≡ b)
  pub finished : (f n : Text) (t : ℕ) → kind_of before p ≡ Entry f n (index_kind.Finished t)
      → (x : Object) × StandsByKind before c (Meta f n meta_kind.Manifest) x × (x.second ≡ t)
  pub latest : (f : Text) → kind_of before p ≡ Latest f latest_kind.Name
      → FinishedByKind before c f b

pub record MayPut (before : Text) (c : Content) (R : Text → Text → Type 0) (p b : Text) : Type 0
  where
    pub unneeded : ¬ (IsNeeded before c p)
    pub new : (f n : Text) → kind_of before p ≡ Meta f n meta_kind.Manifest → IsNew before c R f n b
    pub index : IsIndexPut before c p b

-- nothing in the index speaks of the manifest of (f, n)
pub record IsUnlisted (before : Text) (c : Content) (f n : Text) : Type 0 where
  pub entry : (o : Object) → ¬ (StandsByKind before c (Entry f n index_kind.Manifest) o)
  pub finished : (t : ℕ) (o : Object) → ¬ (StandsByKind before c (Entry f n (index_kind.Finished t))
      o)
  pub latest : (o : Object) → StandsByKind before c (Latest f latest_kind.Name) o → (o.bytes ≢ n)

pub record MayDelete (before : Text) (c : Content) (p : Text) : Type 0 where
  pub unneeded : ¬ (IsNeeded before c p)
  pub unlisted : (f n : Text) → kind_of before p ≡ Meta f n meta_kind.Manifest
      → IsUnlisted before c f n

abbrev pub Fits : Text → Content → (Text → Text → Type 0) → Effect → Type 0
Fits before c R (Stores p b s) = MayPut before c R p b
Fits before c R (Removes p) = MayDelete before c p

keep_stored : (before : Text) (c d : Content) (r : FileRecord) → fin.get d r.path ≡ fin.get c r.path
    → StoredByPath before c r → StoredByPath before d r
keep_stored before c d r e (o, is, q) = (o, e ∙ is, q)

module _ (before : Text) where
  pub file_not_manifest : (f n : Text) (r : FileRecord) → IsFileOf before f n r → (g m : Text)
      → (kind_of before r.path ≢ Meta g m meta_kind.Manifest)
  file_not_manifest f n r (inl e) g m is = cc
  file_not_manifest f n r (inr e) g m is = cc

  -- a whole backup stays whole where its manifest and its files stay
  pub still_whole : (c d : Content) (f n : Text) (o : Object) (L : List FileRecord)
      → IsWholeBy before c f n o L
      → fin.get d (manifest before f n) ≡ fin.get c (manifest before f n)
      → ((r : FileRecord) → Contains L r → fin.get d r.path ≡ fin.get c r.path)
      → IsWholeBy before d f n o L
  still_whole c d f n o L by stays files = record {
    stands = (by.stands.0, stays ∙ by.stands.1);
    reads = by.reads;
    stored = λ k e lt. keep_stored before c d (get_or L k e) (files (get_or L k e)
        (Contains-get_or L k e lt)) (by.stored k e lt);
  }

  module _ (S : Type 0) (c : Content) (R W : Text → Text → Type 0) (safe : SafeByKind before S c R
      W) where
    needs : (f n : Text) (o : Object) (L : List FileRecord) → IsWholeBy before c f n o L
        → (r : FileRecord) → Contains L r → (p : Text) → r.path ≡ p → IsNeeded before c p
    needs f n o L by r among p here = record {
      node = f;
      name = n;
      object = o;
      list = L;
      whole = by;
      file = r;
      among = among;
      here = here;
    }

    put_whole : (p b : Text) (s : ℕ) → MayPut before c R p b → (f n : Text) → W f n
        ⊎ (kind_of before p ≡ Meta f n meta_kind.Manifest) → WholeByKind before
        (made (Stores p b s) c) f n
    put_whole p b s may f n (inl h) =
        let (o, L, by) = safe.whole f n h in
        let ne : manifest before f n ≢ p = λ e. (may.new f n (ap (kind_of before) (sym e)
        ∙ by.stands.0)).unfinished (o, by.stands) in (
          o,
          L,
          still_whole c (made (Stores p b s) c) f n o L by (get_put_other c p b s _ ne)
              (λ r among. get_put_other c p b s _ (λ here. may.unneeded
              (needs f n o L by r among p here))),
        )
    put_whole p b s may f n (inr e) =
        let new = may.new f n e in
        let here : p ≡ manifest before f n = manifest_path before p f n e in (
          record { bytes = b; second = s },
          new.list,
          record {
            stands = (
              ap (kind_of before) (sym here) ∙ e,
              ap (fin.get (made (Stores p b s) c))
                  (sym here) ∙ get_put_same c p b s,
            );
            reads = new.reads;
            stored = λ k d lt. keep_stored before c (made (Stores p b s) c) (get_or new.list k d)
                (get_put_other c p b s _ (λ is. file_not_manifest f n (get_or new.list k d)
                (files before f n b new.list new.reads k d lt) f n (ap (kind_of before) is
                ∙ e))) (new.stored k d lt);
          },
        )

    delete_whole : (p : Text) → MayDelete before c p → (f n : Text) → W f n → (kind_of before p
        ≢ Meta f n meta_kind.Manifest) → WholeByKind before (made (Removes p) c) f n
    delete_whole p may f n h ne =
        let (o, L, by) = safe.whole f n h in (
          o,
          L,
          still_whole c (made (Removes p) c) f n o L by (get_delete_other c p _
              (λ e. ne (ap (kind_of before) (sym e) ∙ by.stands.0)))
              (λ r among. get_delete_other c p _
              (λ here. may.unneeded (needs f n o L by r among p here))),
        )

    put_open : (p b : Text) (s : ℕ) → MayPut before c R p b → (f n : Text) → R f n
        → ¬ (FinishedByKind before (made (Stores p b s) c) f n)
    put_open p b s may f n h (o, (hp, e)) = go (same_path (manifest before f n) p)
      where
        go : (manifest before f n ≡ p) ⊎ (manifest before f n ≢ p) → ⊥
        go (inl is) = (may.new f n (ap (kind_of before) (sym is) ∙ hp)).closed h
        go (inr apart) = safe.unfinished f n h (o, (hp, sym (get_put_other c p b s _ apart) ∙ e))

    delete_open : (p : Text) → (f n : Text) → R f n
        → ¬ (FinishedByKind before (made (Removes p) c) f n)
    delete_open p f n h (o, (hp, e)) = go (same_path (manifest before f n) p)
      where
        go : (manifest before f n ≡ p) ⊎ (manifest before f n ≢ p) → ⊥
        go (inl is) = let gone : fin.get (made (Removes p) c) (manifest before f n)
            ≡ None = ap (fin.get (made (Removes p) c)) is ∙ get_delete_same c p in cc
        go (inr apart) = safe.unfinished f n h (o, (hp, sym (get_delete_other c p _ apart) ∙ e))

    -- a manifest that stands is not put again
    put_stays : (p b : Text) (s : ℕ) → MayPut before c R p b → (f n : Text) (x : Object)
        → StandsByKind before c (Meta f n meta_kind.Manifest) x → StandsByKind before
        (made (Stores p b s) c) (Meta f n meta_kind.Manifest) x
    put_stays p b s may f n x (hp, e) = (
      hp,
      get_put_other c p b s _ (λ is. (may.new f n (ap (kind_of before) (sym is)
          ∙ hp)).unfinished (x, (hp, e))) ∙ e,
    )

    -- at the path of this kind stands what was put there, or what stood before
    put_stood : (p b : Text) (s : ℕ) (k : Kind) (o : Object) → StandsByKind before
        (made (Stores p b s) c) k o → ((kind_of before p ≡ k) × (o.bytes ≡ b))
        ⊎ StandsByKind before c k o
    put_stood p b s k o (hp, e) = go (same_path (at before k) p)
      where
        go : (at before k ≡ p) ⊎ (at before k ≢ p) → ((kind_of before p ≡ k) × (o.bytes ≡ b))
            ⊎ StandsByKind before c k o
        go (inl is) = let there : fin.get (made (Stores p b s) c) (at before k)
            ≡ Some (record { bytes = b; second = s }) = ap (fin.get (made (Stores p b s) c)) is
            ∙ get_put_same c p b s in
            let same_object : o ≡ record { bytes = b; second = s } = cc in
            inl (ap (kind_of before) (sym is) ∙ hp, ap (λ y. y.bytes) same_object)
        go (inr apart) = inr (hp, sym (get_put_other c p b s _ apart) ∙ e)

    delete_stood : (p : Text) (k : Kind) (o : Object) → StandsByKind before (made (Removes p) c) k o
        → StandsByKind before c k o
    delete_stood p k o (hp, e) = go (same_path (at before k) p)
      where
        go : (at before k ≡ p) ⊎ (at before k ≢ p) → StandsByKind before c k o
        go (inl is) = let gone : fin.get (made (Removes p) c) (at before k)
            ≡ None = ap (fin.get (made (Removes p) c)) is ∙ get_delete_same c p in absurd (cc)
        go (inr apart) = (hp, sym (get_delete_other c p _ apart) ∙ e)

    delete_stays : (p : Text) (f n : Text) (x : Object) → (kind_of before p
        ≢ Meta f n meta_kind.Manifest) → StandsByKind before c (Meta f n meta_kind.Manifest) x
        → StandsByKind before (made (Removes p) c) (Meta f n meta_kind.Manifest) x
    delete_stays p f n x apart (hp, e) =
        (hp, get_delete_other c p _ (λ is. apart (ap (kind_of before) (sym is) ∙ hp)) ∙ e)

    put_sound : (p b : Text) (s : ℕ) → MayPut before c R p b → (f : Text) → SoundByKind before c f
        → SoundByKind before (made (Stores p b s) c) f
    put_sound p b s may f sound = record {
      entry = λ n o h. ⊎_elim (λ (e, is). let (x, stands, same_bytes) = may.index.entry f n e in
          (x, put_stays p b s may f n x stands, same_bytes ∙ sym is))
          (λ before. let (x, stands, same_bytes) = sound.entry n o before in
          (x, put_stays p b s may f n x stands, same_bytes))
          (put_stood p b s (Entry f n index_kind.Manifest) o h);
      finished = λ n t o h. ⊎_elim (λ (e, is). let (x, stands, same_second) = may.index.finished f n
          t e in (x, put_stays p b s may f n x stands, same_second))
          (λ before. let (x, stands, same_second) = sound.finished n t o before in
          (x, put_stays p b s may f n x stands, same_second))
          (put_stood p b s (Entry f n (index_kind.Finished t)) o h);
      latest = λ o h. ⊎_elim (λ (e, is). let (x, stands) = subst (FinishedByKind before c f)
          (sym is) (may.index.latest f e) in (x, put_stays p b s may f o.bytes x stands))
          (λ before. let (x, stands) = sound.latest o before in
          (x, put_stays p b s may f o.bytes x stands))
          (put_stood p b s (Latest f latest_kind.Name) o h);
    }

    delete_sound : (p : Text) → MayDelete before c p → (f : Text) → SoundByKind before c f
        → SoundByKind before (made (Removes p) c) f
    delete_sound p may f sound = record {
      entry = λ n o h. let before = delete_stood p (Entry f n index_kind.Manifest) o h in
          let (x, stands, same_bytes) = sound.entry n o before in (
            x,
            delete_stays p f n x (λ e. (may.unlisted f n e).entry o before) stands,
            same_bytes,
          );
      finished = λ n t o h. let before = delete_stood p (Entry f n (index_kind.Finished t)) o h in
          let (x, stands, same_second) = sound.finished n t o before in (
            x,
            delete_stays p f n x (λ e. (may.unlisted f n e).finished t o before) stands,
            same_second,
          );
      latest = λ o h. let before = delete_stood p (Latest f latest_kind.Name) o h in
          let (x, stands) = sound.latest o before in (
            x,
            delete_stays p f o.bytes x (λ e. (may.unlisted f o.bytes e).latest o before refl)
                stands,
          );
    }

    pub step_safe : (x : Effect) → Fits before c R x → SafeByKind before S (made x c) R
        (kept_after before W x)
    step_safe (Stores p b s) may = record {
      whole = put_whole p b s may;
      unfinished = put_open p b s
          may;
      sound = λ begun f. put_sound p b s may f (safe.sound begun f);
    }
    step_safe (Removes p) may = record {
      whole = λ f n (h, ne). delete_whole p may f n h ne;
      unfinished = delete_open p;
      sound = λ begun f. delete_sound p may f (safe.sound begun f);
    }
