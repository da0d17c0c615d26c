-- Each change of a call is at a path that the call may change.
use Rattle.std.proofs.Common.{◌≡◌, ℕ, Bool, true, false, cond, ◌&&◌, not, List, [], ◌∷◌, Some, None, Option, refl, sym, ◌∙◌, ap, subst, inl, inr, All, Contains, bytes_eq}
use Rattle.std.specs.List.{AllByRecursion, list_any}
use Rattle.std.proofs.lemmas.List.Elements.{All-head, All-tail}
use Rattle.std.specs.FinMap as fin
use Rattle.med_base.specs.declared.layout.MetaKind.TheVariants as meta_kind
use Rattle.med_base.specs.declared.kinds.IndexKind.TheVariants as index_kind
use Rattle.med_base.specs.Classify.{kind_of}
use Rattle.med_base.specs.Content.{Content, Object}
use Rattle.med_base.specs.Effects.{Effect, Removes, Stores, applied}
use Rattle.med_base.specs.Fingerprint.{fingerprint_of}
use Rattle.med_base.specs.Kinds.{Entry, Kind, Latest, Meta, Own, Shared, Stray}
use Rattle.med_base.specs.declared.key.FileKey.{FileKey}
use Rattle.med_core.proofs.Afters.{all_go}
use Rattle.med_core.proofs.Kept.{claim_has, claim_is, claim_spots, finish_spots}
use Rattle.med_core.proofs.Removals.{mend_all}
use Rattle.med_core.proofs.Sections.{AreOwned, FrontByKind, ListByKind, LookByKind, is_owned}
use Rattle.med_core.specs.After.{is_removed}
use Rattle.med_core.specs.Finish.{Checked, Fresh, checked, is_stored_as, manifest_puts, with_placing, with_record}
use Rattle.med_core.specs.Place.{Placing, is_same_print, placing, placing_over, reused, stored_own}
use Rattle.med_core.specs.Reach.{AreWithin, MayChange, MayRemove, MayStore}
use Rattle.med_core.specs.Removal.{paths_of_removal}
use Rattle.med_core.specs.Section.{Abandon, Call, Claim, Finish, Place, Rebuild, Remove, Running}
use Rattle.med_manifest.proofs.ByKind.{HasPath, KeyByKind, NodeByKind, Text, at, files}
use Rattle.med_manifest.proofs.Exacts.{AreSpots}
use Rattle.med_manifest.proofs.Gets.{from_same, same_itself, target}
use Rattle.med_manifest.proofs.IndexByKind.{InIndex, InMeta, Spot, pair_on, pairs, put_given, puts_at, spot}
use Rattle.med_manifest.proofs.Members.{IsListed, all_filtered, all_listed, append_all, same_any}
use Rattle.med_manifest.proofs.Newest.{and_first, and_second}
use Rattle.med_manifest.proofs.Rebuilds.{entry_is}
use Rattle.med_manifest.specs.Index.{Entries, IsGiven, given}
use Rattle.med_manifest.specs.Listed.{removes}
use Rattle.med_manifest.specs.Mend.{changes_of_mend, has_bytes, put_unless}
use Rattle.med_manifest.specs.Named.{named}
use Rattle.med_manifest.specs.Rebuild.{is_entry_of_node, not_given}
use Rattle.med_manifest.specs.declared.manifest.FileRecord.{FileRecord}

entry_deleted : (f : Text) (call : Call) (k : Kind) → is_entry_of_node f k ≡ true
    → MayRemove f call k
entry_deleted f call (Entry g n e) h = from_same g f h
entry_deleted f call _ h = absurd (cc)

entry_putable : (f : Text) (k : Kind) → is_entry_of_node f k ≡ true → MayStore f k
entry_putable f (Entry g n e) h = from_same g f h
entry_putable f _ h = absurd (cc)

module _ (before : Text) (f : Text) (call : Call) where
  abbrev pub P : Effect → Type 0
  P = MayChange before f call

  put_at : (k : Kind) (b : Text) (s : ℕ) → HasPath before k → MayStore f k
      → P (Stores (at before k) b s)
  put_at k b s has h = subst (MayStore f) (sym has) h

  spot_put : (n : Text) (s : Spot) → MayStore f (spot f n s)
  spot_put n (InMeta e) = refl
  spot_put n (InIndex e) = refl

  spots_total : (n : Text) (xs : List (Spot × Object)) → AreSpots before f n xs
      → AreWithin before f call (puts_at before f n xs)
  spots_total n [] h = tt
  spots_total n (x ∷ xs) h = (
    put_at (spot f n x.0) x.1.bytes x.1.second h.0 (spot_put n x.0),
    spots_total n xs h.1,
  )

  placing_total : (n : Text) (d : Bool) (k : FileKey) → KeyByKind before f n k → (b : Text) (t : ℕ)
      (c : Content) → AreWithin before f call (placing before f n d k b t c).changes
  placing_total n false k key b t c = (put_at (Own f n k) b t key.own refl, tt)
  placing_total n true k key b t c = go (fin.get c (at before (Shared f k)))
    where
      by : (x : Bool) → AreWithin before f call (cond {A = Placing} x (reused before f k b)
          (stored_own before f n k b t)).changes
      by true = tt
      by false = (put_at (Own f n k) b t key.own refl, tt)

      go : (o : Option Object) → AreWithin before f call (placing_over before f n k b t o).changes
      go None = (put_at (Shared f k) b t key.shared refl, tt)
      go (Some o) = by (is_same_print (fingerprint_of o.bytes) (fingerprint_of b))

  checked_total : (n : Text) (d : Bool) (x : Fresh) (rs : List FileRecord) (c : Content)
      → All (λ q. KeyByKind before f n q.key) rs → AreWithin before f call
      (checked before f n d x c rs).changes
  checked_total n d x [] c h = tt
  checked_total n d x (r ∷ rs) c h = go (is_stored_as r.fingerprint (fin.get c r.path))
      (λ e. checked_total n d x rs e (All-tail (λ q. KeyByKind before f n q.key) r rs h))
    where
      go : (b : Bool) → ((e : Content) → AreWithin before f call
          (checked before f n d x e rs).changes)
          → AreWithin before f call (cond {A = Checked} b
          (with_record r (checked before f n d x c rs))
          (with_placing (placing before f n d r.key (x.bytes r.key) (x.second r.key) c)
          (checked before f n d x (applied (placing before f n d r.key (x.bytes r.key)
          (x.second r.key) c).changes c) rs))).changes
      go true more = more c
      go false more = append_all P (placing before f n d r.key (x.bytes r.key) (x.second r.key)
          c).changes _ (placing_total n d r.key (All-head (λ q. KeyByKind before f n q.key) r rs h)
          (x.bytes r.key) (x.second r.key) c) (more _)

  deletes_total : (ps : List Text) → AllByRecursion (λ p. MayRemove f call (kind_of before p)) ps
      → AreWithin before f call (removes ps)
  deletes_total [] h = tt
  deletes_total (p ∷ ps) h = (h.0, deletes_total ps h.1)

  mend_total : NodeByKind before f → (c : Content) (names : List Text) (t : ℕ → ℕ)
      → AreWithin before f call (changes_of_mend before c f names t)
  mend_total node c names t = mend_all P before c f names t (λ e b s. put_at (Latest f e) b s
      (node.latest e) refl) (λ e. subst (MayRemove f call) (sym (node.latest e)) refl)

  given_total : (c : Content) (G : Entries) → IsGiven before c f G → (u : Text → ℕ) (ps : List Text)
      → AreWithin before f call (put_given c (pairs G ps) u)
  given_total c G given u [] = tt
  given_total c G given u (p ∷ ps) = go (fin.get G p) refl (given_total c G given u ps)
    where
      unless : (b : Text) → MayStore f (kind_of before p) → AreWithin before f call
          (put_unless c p b (u p))
      unless b h = by (has_bytes (fin.get c p) b)
        where
          by : (x : Bool) → AreWithin before f call (cond x [] (Stores p b (u p) ∷ []))
          by true = tt
          by false = (h, tt)

      go : (o : Option Text) → fin.get G p ≡ o → AreWithin before f call
          (put_given c (pairs G ps) u) → AreWithin before f call
          (put_given c (pair_on p o (pairs G ps)) u)
      go None e more = more
      go (Some b) e more = append_all P (put_unless c p b (u p)) _
          (unless b (entry_putable f (kind_of before p) (entry_is before c f p b (kind_of before p)
          (sym (given p) ∙ e)))) more

gone_deleted : (c : Content) (f : Text) (names named : List Text) (grace now : ℕ) (p : Text)
    (k : Kind) → is_removed c f names named grace now p k ≡ true
    → MayRemove f (Remove names grace now) k
gone_deleted c f names named grace now p k h = by k h
  where
    two : (g n : Text) → (bytes_eq g f && list_any (bytes_eq n) names) ≡ true → (g ≡ f)
        × Contains names n
    two g n e = (
      from_same g f (and_first (bytes_eq g f) (list_any (bytes_eq n) names) e),
      same_any n names (and_second (bytes_eq g f) (list_any (bytes_eq n) names) e),
    )

    by : (j : Kind) → is_removed c f names named grace now p j ≡ true
        → MayRemove f (Remove names grace now) j
    by (Own g n x) e = two g n e
    by (Meta g n x) e = two g n e
    by (Entry g n x) e = (two g n e).0
    by (Stray g (Some n)) e = two g n e
    by (Shared g x) e = from_same g f (and_first (bytes_eq g f) _ e)
    by _ e = absurd (cc)

all_weaker : {X : Type 0} (P Q : X → Type 0) → ((x : X) → P x → Q x) → (xs : List X)
    → AllByRecursion P xs → AllByRecursion Q xs
all_weaker P Q so [] h = tt
all_weaker P Q so (x ∷ xs) h = (so x h.0, all_weaker P Q so xs h.1)

module _ (before : Text) (c : Content) (r : Running) (f : Text) (node : NodeByKind before f) where
  pub list_total : (call : Call) (xs : List Effect) → ListByKind before c r f call xs
      → AreWithin before f call xs
  list_total (Claim n d schema ring) xs (named, free_name, free, (t, small, is)) =
      subst (AreWithin before f (Claim n d schema ring))
      (sym (is ∙ claim_is before f n d schema ring t)) (spots_total before f
      (Claim n d schema ring) n (claim_spots d schema ring t)
      (claim_has before f node n d schema ring t named small))
  list_total (Place n d k b) xs (key, among, (t, is)) = subst (AreWithin before f (Place n d k b))
      (sym is) (placing_total before f (Place n d k b) n d k key b t c)
  list_total (Finish n d records) xs (
    at_node,
    named,
    among,
    apart,
    keys,
    files,
    (x, b, t, u, small, reads, is),
  ) =
      let call : Call = Finish n d records in
      let c₁ : Content = applied (checked before f n d x c records).changes c in
      subst (AreWithin before f call) (sym is) (append_all (MayChange before f call)
      (checked before f n d x c records).changes _ (checked_total before f call n d x records c
      keys)
      (append_all (MayChange before f call) (manifest_puts before f n b t) _
      (spots_total before f call n (finish_spots b t) (
        named.meta meta_kind.Manifest,
        (
          named.entry index_kind.Manifest tt,
          (
            named.entry (index_kind.Finished (t 0)) small,
            tt,
          ),
        ),
      ))
      (mend_total before f call node (applied (manifest_puts before f n b t) c₁) [] u)))
  list_total (Abandon n) xs is = subst (AreWithin before f (Abandon n)) (sym is) tt
  list_total (Remove names grace now) xs (at_node, are, free, (named, t, has, is)) =
      let call : Call = Remove names grace now in
      subst (AreWithin before f call) (sym is) (append_all (MayChange before f call)
      (changes_of_mend before c f names t) _ (mend_total before f call node c names t)
      (deletes_total before f call (paths_of_removal before c f names named grace now)
      (all_weaker _ _ (λ p h. gone_deleted c f names named grace now p (kind_of before p) h) _
      (all_go before c f names named grace now are))))
  list_total Rebuild xs (at_node, (G, t, u, given, is)) =
      subst (AreWithin before f Rebuild) (sym is) (append_all (MayChange before f Rebuild)
      (changes_of_mend before c f [] t) _ (mend_total before f Rebuild node c [] t)
      (append_all (MayChange before f Rebuild) (removes (not_given before c f G)) _
      (deletes_total before f Rebuild (not_given before c f G)
      (all_filtered (IsListed before c (is_entry_of_node f)) (λ p. MayRemove f Rebuild
      (kind_of before p)) (λ q. not (fin.contains_key G q)) (λ q e k. entry_deleted f Rebuild
      (kind_of before q) k.0) _ (all_listed before c (is_entry_of_node f))))
      (given_total before f Rebuild c G given u (fin.keys G))))

  look_total : (call : Call) (xs : List Effect) → LookByKind before c r f call xs
      → AreWithin before f call xs
  look_total (Finish n d records) xs (among, apart, keys, files, (x, is)) =
      subst (AreWithin before f (Finish n d records)) (sym is)
      (checked_total before f (Finish n d records) n d x records c keys)
  look_total (Claim n d schema ring) xs h = absurd h
  look_total (Place n d k b) xs h = absurd h
  look_total (Abandon n) xs h = absurd h
  look_total (Remove names grace now) xs h = absurd h
  look_total Rebuild xs h = absurd h

  pub front_total : (call : Call) (xs : List Effect) → FrontByKind before c r f call xs
      → AreWithin before f call xs
  front_total call xs (inl h) = list_total call xs h
  front_total call xs (inr h) = look_total call xs h

owned_kind : (f g : Text) → g ≡ f → bytes_eq g f ≡ true
owned_kind f g e = ap (λ x. bytes_eq x f) e ∙ same_itself f

put_owned : (f : Text) (k : Kind) → MayStore f k → is_owned f k ≡ true
put_owned f (Shared g k) h = owned_kind f g h
put_owned f (Own g n k) h = owned_kind f g h
put_owned f (Meta g n e) h = owned_kind f g h
put_owned f (Entry g n e) h = owned_kind f g h
put_owned f (Latest g e) h = owned_kind f g h
put_owned f _ h = absurd h

deleted_owned : (f : Text) (call : Call) (k : Kind) → MayRemove f call k → is_owned f k ≡ true
deleted_owned f call (Shared g k) h = owned_kind f g h
deleted_owned f call (Own g n k) h = owned_kind f g h.0
deleted_owned f call (Meta g n e) h = owned_kind f g h.0
deleted_owned f call (Entry g n e) h = owned_kind f g h
deleted_owned f call (Latest g e) h = owned_kind f g h
deleted_owned f call (Stray g (Some n)) h = owned_kind f g h.0
deleted_owned f call _ h = absurd h

pub total_owned : (before : Text) (f : Text) (call : Call) (xs : List Effect)
    → AreWithin before f call xs → AreOwned before f xs
total_owned before f call xs h = all_weaker (MayChange before f call)
    (λ x. is_owned f (kind_of before (target x)) ≡ true) owned xs h
  where
    owned : (x : Effect) → MayChange before f call x → is_owned f (kind_of before (target x)) ≡ true
    owned (Stores p b s) k = put_owned f (kind_of before p) k
    owned (Removes p) k = deleted_owned f call (kind_of before p) k
