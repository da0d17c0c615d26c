-- The changes of a remove fit.
use Rattle.std.proofs.Common.{◌≡◌, ◌≢◌, ◌⊎◌, ℕ, Bool, true, false, cond, not, ◌&&◌, List, [], ◌∷◌, ◌++◌, Some, None, Option, refl, sym, ◌∙◌, ap, subst, inl, inr, arith, All, Contains, is_some, ⊎_elim, bytes_eq}
use Rattle.std.specs.List.{AllByRecursion, flat_map, list_any}
use Rattle.std.proofs.lemmas.List.Elements.{All-contains, All-head, All-tail, All-contains_itself, All-from_recursion}
use Rattle.std.specs.FinMap as fin
use Rattle.med_base.specs.declared.layout.MetaKind.TheVariants as meta_kind
use Rattle.med_base.specs.declared.kinds.IndexKind.TheVariants as index_kind
use Rattle.med_base.specs.declared.kinds.LatestKind.TheVariants as latest_kind
use Rattle.med_base.specs.Classify.{kind_of}
use Rattle.med_base.specs.Content.{Content, Object}
use Rattle.med_base.specs.Effects.{Effect, Removes, Stores, applied, made}
use Rattle.med_base.specs.Kinds.{Entry, Kind, Latest, Meta, Own, Shared, Stray}
use Rattle.med_base.specs.declared.kinds.IndexKind.{IndexKind}
use Rattle.med_core.proofs.Lists.{FitsAll, IsQuiet, IsSpare, all_quiet_fit, file_needed, fits_deletes, fits_join, quiet_deletes}
use Rattle.med_core.proofs.Mends.{mend_fits, mended}
use Rattle.med_core.proofs.Places.{own_unneeded, shared_kind}
use Rattle.med_core.proofs.Sections.{HasNamed}
use Rattle.med_core.proofs.Steps.{IsNeeded, IsUnlisted, file_not_manifest}
use Rattle.med_core.specs.Removal.{changes_of_removal, is_content_of, is_old, is_shared_of, old_unnamed, paths_of_backup}
use Rattle.med_manifest.proofs.ByKind.{HasPath, IsFileOf, IsWholeBy, NameByKind, NodeByKind, StandsByKind, Text, at, manifest}
use Rattle.med_manifest.proofs.Elsewhere.{get_elsewhere}
use Rattle.med_manifest.proofs.Gets.{from_same, get_delete_other, get_delete_same, same_itself, same_path}
use Rattle.med_manifest.proofs.Members.{IsListed, all_filtered, all_listed, all_so, any_same, append_all, contains_first, is_listed}
use Rattle.med_manifest.proofs.Newest.{and_first, and_second, mend_elsewhere}
use Rattle.med_manifest.specs.Listed.{if_stands, paths_of, removes}
use Rattle.med_manifest.specs.Mend.{changes_of_mend}
use Rattle.med_manifest.specs.Named.{named}
use Rattle.med_manifest.specs.declared.manifest.FileRecord.{FileRecord}
use Rattle.med_manifest.specs.Rebuild.{is_entry_of}

-- only deletes
abbrev pub AreDeletes : List Effect → Type 0
AreDeletes [] = Unit {0}
AreDeletes (Stores p b s ∷ xs) = ⊥
AreDeletes (Removes p ∷ xs) = AreDeletes xs

pub delete_all_deletes : (ps : List Text) → AreDeletes (removes ps)
delete_all_deletes [] = tt
delete_all_deletes (p ∷ ps) = delete_all_deletes ps

-- what stands at the path stood there before
abbrev pub IsLess : Content → Content → Text → Type 0
IsLess c d q = (fin.get d q ≡ fin.get c q) ⊎ (fin.get d q ≡ None)

pub less_trans : (b c d : Content) (q : Text) → IsLess b c q → IsLess c d q → IsLess b d q
less_trans b c d q (inl e) (inl is) = inl (is ∙ e)
less_trans b c d q (inr e) (inl is) = inr (is ∙ e)
less_trans b c d q _ (inr is) = inr is

less_delete : (c : Content) (p q : Text) → IsLess c (made (Removes p) c) q
less_delete c p q = go (same_path q p)
  where
    go : (q ≡ p) ⊎ (q ≢ p) → IsLess c (made (Removes p) c) q
    go (inl e) = inr (ap (fin.get (made (Removes p) c)) e ∙ get_delete_same c p)
    go (inr apart) = inl (get_delete_other c p q apart)

pub less_deletes : (q : Text) (xs : List Effect) (c : Content) → AreDeletes xs
    → IsLess c (applied xs c) q
less_deletes q [] c h = inl refl
less_deletes q (Stores p b s ∷ xs) c h = absurd h
less_deletes q (Removes p ∷ xs) c h = less_trans c (made (Removes p) c) _ q (less_delete c p q)
    (less_deletes q xs (made (Removes p) c) h)

pub less_all : (q : Text) (ps : List Text) (c : Content) → IsLess c (applied (removes ps) c) q
less_all q ps c = less_deletes q (removes ps) c (delete_all_deletes ps)

applied_paths : (xs ys : List Text) (d : Content) → applied (removes (xs ++ ys)) d
    ≡ applied (removes ys) (applied (removes xs) d)
applied_paths [] ys d = refl
applied_paths (x ∷ xs) ys d = applied_paths xs ys (made (Removes x) d)

fits_paths : (before : Text) (R : Text → Text → Type 0) (xs ys : List Text) (d : Content)
    → FitsAll before d R (removes xs) → FitsAll before (applied (removes xs) d) R (removes ys)
    → FitsAll before d R (removes (xs ++ ys))
fits_paths before R [] ys d h k = k
fits_paths before R (x ∷ xs) ys d h k = (h.0, fits_paths before R xs ys (made (Removes x) d) h.1 k)

gone_stays : (c d : Content) (q : Text) → IsLess c d q → fin.get c q ≡ None → fin.get d q ≡ None
gone_stays c d q (inl e) none = e ∙ none
gone_stays c d q (inr e) none = e

pub deleted_gone : (q : Text) (ps : List Text) (d : Content) → Contains ps q
    → fin.get (applied (removes ps) d) q ≡ None
deleted_gone q [] d (k, lt, e) = absurd (omega arith)
deleted_gone q (p ∷ ps) d h = go (contains_first p q ps h) (deleted_gone q ps (made (Removes p) d))
  where
    go : (p ≡ q) ⊎ Contains ps q
        → (Contains ps q → fin.get (applied (removes ps) (made (Removes p) d)) q ≡ None)
        → fin.get (applied (removes ps) (made (Removes p) d)) q ≡ None
    go (inl e) more = gone_stays (made (Removes p) d) _ q (less_deletes q (removes ps)
        (made (Removes p) d) (delete_all_deletes ps)) (subst (λ x. fin.get (made (Removes p) d) x
        ≡ None) e (get_delete_same d p))
    go (inr k) more = more k

abbrev pub IsNotLatest : Kind → Type 0
IsNotLatest (Latest f e) = ⊥
IsNotLatest _ = Unit {0}

-- nothing stands but what stood, latest entries aside
abbrev pub IsLessAt : Text → Content → Content → Type 0
IsLessAt before c d = (k : Kind) → HasPath before k → IsNotLatest k → IsLess c d (at before k)

-- no latest entry has one of these names
abbrev pub IsClear : Text → Content → Text → List Text → Type 0
IsClear before d f names = (o : Object) → StandsByKind before d (Latest f latest_kind.Name) o
    → ¬ (Contains names o.bytes)

module _ (before : Text) where
  entry_quiet : (f n : Text) (k : Kind) → is_entry_of f n k ≡ true → IsQuiet k
  entry_quiet f n (Entry g m e) h = tt
  entry_quiet f n _ h = absurd (cc)

  stray_unneeded : (c : Content) (p g : Text) (ms : Option Text) → kind_of before p ≡ Stray g ms
      → ¬ (IsNeeded before c p)
  stray_unneeded c p g ms e need = go (file_needed before c p need)
    where
      go : IsFileOf before need.node need.name need.file → ⊥
      go (inl is) = let here : kind_of before need.file.path ≡ kind_of before p = ap
          (kind_of before) need.here in cc
      go (inr is) = let here : kind_of before need.file.path ≡ kind_of before p = ap
          (kind_of before) need.here in cc

  spare_file : (c : Content) (f n p : Text) → fin.get c (manifest before f n) ≡ None → (k : Kind)
      → kind_of before p ≡ k → is_content_of f n k ≡ true → IsSpare before c p
  spare_file c f n p none (Own g m key) e h =
      let a : g ≡ f = from_same g f (and_first (bytes_eq g f) (bytes_eq m n) h) in
      let b : m ≡ n = from_same m n (and_second (bytes_eq g f) (bytes_eq m n) h) in
      record {
        unneeded = own_unneeded before c g m p key e (λ (o, (has, there)). let gone : fin.get c
            (manifest before g m) ≡ None = rw (a, b) none in cc);
        apart = λ x y is. cc;
      }
  spare_file c f n p none (Stray g (Some m)) e h = record {
    unneeded = stray_unneeded c p g
        (Some m) e;
    apart = λ x y is. cc;
  }
  spare_file c f n p none _ e h = absurd (cc)

  if_quiet : (c : Content) (k : Kind) → HasPath before k → IsQuiet k
      → AllByRecursion (λ p. IsQuiet (kind_of before p)) (if_stands c (at before k))
  if_quiet c k proper q = go (fin.contains_key c (at before k))
    where
      go : (b : Bool) → AllByRecursion (λ p. IsQuiet (kind_of before p))
          (cond b (at before k ∷ []) [])
      go true = (subst IsQuiet (sym proper) q, tt)
      go false = tt

  manifest_fits : (c d : Content) (R : Text → Text → Type 0) (f n : Text) → NameByKind before f n
      → IsUnlisted before d f n → FitsAll before d R (removes (if_stands c (manifest before f n)))
  manifest_fits c d R f n has out = go (fin.contains_key c (manifest before f n))
    where
      go : (b : Bool) → FitsAll before d R (removes (cond b (manifest before f n ∷ []) []))
      go true = (
        record {
          unneeded = λ need. file_not_manifest before need.node need.name need.file
              (file_needed before d _ need) f n (ap (kind_of before) need.here
              ∙ has.meta meta_kind.Manifest);
          unlisted = λ g m e. let same_kind : Meta f n meta_kind.Manifest
              ≡ Meta g m meta_kind.Manifest = sym (has.meta meta_kind.Manifest) ∙ e in
              let a : f ≡ g = cc in
              let z : n ≡ m = cc in
              subst (λ h. IsUnlisted before d h m) a (subst (λ h. IsUnlisted before d f h) z out);
        },
        tt,
      )
      go false = tt

  -- once its entries are deleted the index doesn't speak of (f, n)
  entry_gone : (c d : Content) (f n : Text) → IsLessAt before c d → (e : IndexKind)
      → HasPath before (Entry f n e)
      → fin.get (applied (removes (paths_of before c (is_entry_of f n))) d)
      (at before (Entry f n e)) ≡ None
  entry_gone c d f n less e here_at = go (fin.get c (at before (Entry f n e))) refl
    where
      ps : List Text
      ps = paths_of before c (is_entry_of f n)

      test : is_entry_of f n (kind_of before (at before (Entry f n e))) ≡ true
      test = ap (is_entry_of f n) here_at ∙ rw (same_itself f, same_itself n)

      go : (o : Option Object) → fin.get c (at before (Entry f n e)) ≡ o
          → fin.get (applied (removes (paths_of before c (is_entry_of f n))) d)
          (at before (Entry f n e)) ≡ None
      go None is = gone_stays d _ (at before (Entry f n e)) (less_all (at before (Entry f n e))
          (paths_of before c (is_entry_of f n)) d)
          (gone_stays c d (at before (Entry f n e)) (less (Entry f n e) here_at tt) is)
      go (Some o) is = deleted_gone (at before (Entry f n e)) (paths_of before c (is_entry_of f n))
          d (is_listed before c (is_entry_of f n) (at before (Entry f n e)) o test is)

  -- deletes leave no new name in the latest entry
  clear_stays : (d e : Content) (f : Text) (names : List Text)
      → IsLess d e (at before (Latest f latest_kind.Name)) → IsClear before d f names
      → IsClear before e f names
  clear_stays d e f names (inl is) clear o (has, there) = clear o (has, sym is ∙ there)
  clear_stays d e f names (inr none) clear o (has, there) = absurd (cc)

  unlisted_after : (c d : Content) (f n : Text) (names : List Text) → NameByKind before f n
      → Contains names n → IsLessAt before c d → IsClear before d f names → IsUnlisted before
      (applied (removes (paths_of before c (is_entry_of f n))) d) f n
  unlisted_after c d f n names has among less clear =
      let e : Content = applied (removes (paths_of before c (is_entry_of f n))) d in
      record {
        entry = λ o (here_at, there). let none = entry_gone c d f n less index_kind.Manifest
            here_at in cc (none, there);
        finished = λ t o (here_at, there). let none = entry_gone c d f n less
            (index_kind.Finished t) here_at in cc (none, there);
        latest = λ o stands is. clear_stays d e f names
            (less_all (at before (Latest f latest_kind.Name)) (paths_of before c (is_entry_of f n))
            d) clear o stands (subst (Contains names) (sym is) among);
      }

  manifest_gone : (c d : Content) (q : Text) → IsLess c d q
      → fin.get (applied (removes (if_stands c q)) d) q ≡ None
  manifest_gone c d q less = go (fin.get c q) refl
    where
      go : (o : Option Object) → fin.get c q ≡ o
          → fin.get (applied (removes (cond (is_some o) (q ∷ []) [])) d) q ≡ None
      go None e = gone_stays c d q less e
      go (Some o) e = get_delete_same d q

  -- the changes for one name, over what is left of the content
  pub one_fits : (c d : Content) (R : Text → Text → Type 0) (f n : Text) (names : List Text)
      → NameByKind before f n → Contains names n → IsLessAt before c d → IsClear before d f names
      → FitsAll before d R (removes (paths_of_backup before c f n))
  one_fits c d R f n names has among lesser clear =
      let entries : List Text = paths_of before c (is_entry_of f n) in
      let Q : Text → Type 0 = λ p. IsQuiet (kind_of before p) in
      let d₁ : Content = applied (removes entries) d in
      let less₁ : IsLess c d₁ (manifest before f n) = less_trans c d d₁ (manifest before f n)
      (lesser (Meta f n meta_kind.Manifest) (has.meta meta_kind.Manifest) tt)
      (less_all (manifest before f n) entries d) in
      let d₂ : Content = applied (removes (if_stands c (manifest before f n))) d₁ in
      let none : fin.get d₂ (manifest before f n) ≡ None = manifest_gone c d₁ (manifest before f n)
      less₁ in
      fits_paths before R entries _ d (all_quiet_fit before d R (removes entries)
      (quiet_deletes before entries (
      all_so (IsListed before c (is_entry_of f n)) Q (λ p h. entry_quiet f n (kind_of before p) h.0)
      _ (all_listed before c (is_entry_of f n))))) (
      fits_paths before R (if_stands c (manifest before f n)) _ d₁ (manifest_fits c d₁ R f n has
      (unlisted_after c d f n names has among lesser clear)) (
      fits_paths before R (paths_of before c (is_content_of f n)) _ d₂ (fits_deletes before R
      (paths_of before c (is_content_of f n)) d₂ (
      all_so (IsListed before c (is_content_of f n)) (IsSpare before d₂)
      (λ p h. spare_file d₂ f n p none (kind_of before p) refl h.0) _ (all_listed before c
      (is_content_of f n)))) (
      all_quiet_fit before _ R (removes (if_stands c (at before (Meta f n meta_kind.Differential))
      ++ (if_stands c (at before (Meta f n meta_kind.Tokenmap))
      ++ if_stands c (at before (Meta f n meta_kind.Schema))))) (quiet_deletes before _ (
      append_all Q (if_stands c (at before (Meta f n meta_kind.Differential))) _
      (if_quiet c (Meta f n meta_kind.Differential) (has.meta meta_kind.Differential) tt) (
      append_all Q (if_stands c (at before (Meta f n meta_kind.Tokenmap))) _
      (if_quiet c (Meta f n meta_kind.Tokenmap) (has.meta meta_kind.Tokenmap) tt)
      (if_quiet c (Meta f n meta_kind.Schema) (has.meta meta_kind.Schema) tt)))))))

  -- afterwards its manifest is gone
  pub one_gone : (c d : Content) (f n : Text) → IsLess c d (manifest before f n)
      → fin.get (applied (removes (paths_of_backup before c f n)) d) (manifest before f n) ≡ None
  one_gone c d f n less =
      let entries : List Text = paths_of before c (is_entry_of f n) in
      let rest : List Text = paths_of before c (is_content_of f n)
      ++ (if_stands c (at before (Meta f n meta_kind.Differential))
      ++ (if_stands c (at before (Meta f n meta_kind.Tokenmap))
      ++ if_stands c (at before (Meta f n meta_kind.Schema)))) in
      let d₁ : Content = applied (removes entries) d in
      let less₁ : IsLess c d₁ (manifest before f n) = less_trans c d d₁ (manifest before f n) less
      (less_all (manifest before f n) entries d) in
      let d₂ : Content = applied (removes (if_stands c (manifest before f n))) d₁ in
      let e : applied (removes (paths_of_backup before c f n)) d ≡ applied (removes rest) d₂ =
      applied_paths entries (if_stands c (manifest before f n) ++ rest) d
      ∙ applied_paths (if_stands c (manifest before f n)) rest d₁ in
      ap (λ x. fin.get x (manifest before f n)) e ∙ gone_stays d₂ (applied (removes rest) d₂)
      (manifest before f n) (less_all (manifest before f n) rest d₂) (manifest_gone c d₁
      (manifest before f n) less₁)

  -- all names, one after another
  less_more : (c d : Content) (ps : List Text) → IsLessAt before c d → IsLessAt before c
      (applied (removes ps) d)
  less_more c d ps less k has apart = less_trans c d _ (at before k) (less k has apart)
      (less_all (at before k) ps d)

  pub names_fit : (R : Text → Text → Type 0) (c : Content) (f : Text) (names : List Text)
      (rest : List Text) (d : Content) → All (NameByKind before f) rest → All (Contains names) rest
      → IsLessAt before c d → IsClear before d f names
      → FitsAll before d R (removes (flat_map (paths_of_backup before c f) rest))
  names_fit R c f names [] d has among less clear = tt
  names_fit R c f names (n ∷ rest) d has among less clear =
      let xs : List Text = paths_of_backup before c f n in
      fits_paths before R xs (flat_map (paths_of_backup before c f) rest) d
      (one_fits c d R f n names (All-head (NameByKind before f) n rest has)
      (All-head (Contains names) n rest among) less clear)
      (names_fit R c f names rest (applied (removes xs) d) (All-tail (NameByKind before f) n rest
      has) (All-tail (Contains names) n rest among) (less_more c d xs less)
      (clear_stays d (applied (removes xs) d) f names
      (less_all (at before (Latest f latest_kind.Name)) xs d) clear))

  pub names_gone : (c : Content) (f : Text) (names : List Text) (d : Content)
      → All (NameByKind before f) names → IsLessAt before c d
      → AllByRecursion
      (λ n. fin.get (applied (removes (flat_map (paths_of_backup before c f) names)) d)
      (manifest before f n) ≡ None) names
  names_gone c f [] d has less = tt
  names_gone c f (n ∷ names) d has less =
      let d₁ : Content = applied (removes (paths_of_backup before c f n)) d in
      let more : List Text = flat_map (paths_of_backup before c f) names in
      let e : applied (removes (flat_map (paths_of_backup before c f) (n ∷ names))) d
      ≡ applied (removes more) d₁ = applied_paths (paths_of_backup before c f n) more d in
      let rest = names_gone c f names d₁ (All-tail (NameByKind before f) n names has)
      (less_more c d (paths_of_backup before c f n) less) in (
        ap (λ x. fin.get x (manifest before f n)) e ∙ gone_stays d₁ _ (manifest before f n)
            (less_all (manifest before f n) more d₁)
            (one_gone c d f n (less (Meta f n meta_kind.Manifest)
            ((All-head (NameByKind before f) n names has).meta meta_kind.Manifest) tt)),
        subst (λ x. AllByRecursion (λ m. fin.get x (manifest before f m) ≡ None) names)
            (sym e) rest,
      )

  file_unneeded : (c d : Content) (f : Text) (names named : List Text)
      → HasNamed before c f names named
      → IsLessAt before c d → ((m : Text) → Contains names m → fin.get d (manifest before f m)
      ≡ None)
      → (p : Text) → list_any (bytes_eq p) named ≡ false → (m : Text) (o : Object)
      (L : List FileRecord) → IsWholeBy before d f m o L → (r : FileRecord) → Contains L r
      → r.path ≡ p → ⊥
  file_unneeded c d f names named has less gone p unlisted m o L whole r among here = go
      (less (Meta f m meta_kind.Manifest) whole.stands.0 tt)
    where
      go : IsLess c d (manifest before f m) → ⊥
      go (inr none) = let there : fin.get d (manifest before f m) ≡ Some o = whole.stands.1 in cc
      go (inl e) =
          let listed : Contains named r.path = has.all m o (whole.stands.0, sym e ∙ whole.stands.1)
          (λ out. let none : fin.get d (manifest before f m) ≡ None = gone m out in
          let there : fin.get d (manifest before f m) ≡ Some o = whole.stands.1 in
          cc) L whole.reads r among in
          let yes : list_any (bytes_eq p) named ≡ true = any_same p named
          (subst (Contains named) here listed) in
          cc

  dropped_unneeded : (c d : Content) (f : Text) (names named : List Text)
      → HasNamed before c f names named
      → IsLessAt before c d → ((m : Text) → Contains names m → fin.get d (manifest before f m)
      ≡ None)
      → (p : Text) → list_any (bytes_eq p) named ≡ false → (k : Kind) → kind_of before p ≡ k
      → is_shared_of f k ≡ true → IsSpare before d p
  dropped_unneeded c d f names named has less gone p unlisted (Shared g k) e h = record {
    unneeded = λ need.
        let here_at : need.node ≡ f = shared_kind before need.node need.name g k need.file
        (file_needed before d p need) (ap (kind_of before) need.here ∙ e) ∙ from_same g f h in
        file_unneeded c d f names named has less gone p unlisted need.name need.object need.list
        (subst (λ x. IsWholeBy before d x need.name need.object need.list) here_at need.whole)
        need.file need.among need.here;
    apart = λ x y is. cc;
  }
  dropped_unneeded c d f names named has less gone p unlisted _ e h = absurd (cc)

  test_of : (c : Content) (named : List Text) (grace now : ℕ) (p : Text)
      → (not (list_any (bytes_eq p) named) && is_old (fin.get c p) grace now) ≡ true
      → list_any (bytes_eq p) named ≡ false
  test_of c named grace now p h = go (list_any (bytes_eq p) named)
      (and_first (not (list_any (bytes_eq p) named)) (is_old (fin.get c p) grace now) h)
    where
      go : (b : Bool) → not b ≡ true → b ≡ false
      go true e = absurd (cc)
      go false e = refl

  dropped_all : (c d : Content) (f : Text) (names named : List Text) (grace now : ℕ)
      → HasNamed before c f names named
      → IsLessAt before c d → ((m : Text) → Contains names m → fin.get d (manifest before f m)
      ≡ None)
      → AllByRecursion (IsSpare before d) (old_unnamed before c f named grace now)
  dropped_all c d f names named grace now has less gone = all_filtered
      (IsListed before c (is_shared_of f)) (IsSpare before d)
      (λ p. not (list_any (bytes_eq p) named) && is_old (fin.get c p) grace now)
      (λ p e h. dropped_unneeded c d f names named has less gone p (test_of c named grace now p e)
      (kind_of before p) refl h.0) (paths_of before c (is_shared_of f)) (all_listed before c
      (is_shared_of f))

  pub remove_fits : (R : Text → Text → Type 0) (c : Content) (f : Text) → NodeByKind before f
      → (names named : List Text) (grace now : ℕ) (t : ℕ → ℕ) → All (NameByKind before f) names
      → HasNamed before c f names named
      → FitsAll before c R (changes_of_removal before c f names named grace now t)
  remove_fits R c f node names named grace now t are has =
      let latest : List Effect = changes_of_mend before c f names t in
      let d : Content = applied latest c in
      let less : IsLessAt before c d = λ k here_at apart. inl (get_elsewhere (at before k) latest c
      (mend_elsewhere before f node c names t (at before k) (λ e there is same_path.
      let one : k ≡ e = sym here_at ∙ ap (kind_of before) same_path ∙ there in
      ⊎_elim (λ a. subst IsNotLatest (one ∙ a) apart) (λ a. subst IsNotLatest (one ∙ a) apart)
      is))) in
      let clear : IsClear before d f names = λ o (_, there). mended before f node c names t o
      there in
      let names_list : List Text = flat_map (paths_of_backup before c f) names in
      let e : Content = applied (removes names_list) d in
      let less' : IsLessAt before c e = less_more c d names_list less in
      let gone : (m : Text) → Contains names m → fin.get e (manifest before f m)
      ≡ None = λ m. All-contains (λ n. fin.get e (manifest before f n) ≡ None) names m
      (All-from_recursion (λ n. fin.get e (manifest before f n) ≡ None) names
      (names_gone c f names d are less)) in
      fits_join before R latest (removes (names_list ++ old_unnamed before c f named grace now)) c
      (mend_fits before f node R c names t)
      (fits_paths before R names_list (old_unnamed before c f named grace now) d
      (names_fit R c f names names d are (All-contains_itself names) less clear)
      (fits_deletes before R _ e (dropped_all c e f names named grace now has less' gone)))
