-- A removal whose whole list was made leaves `after`.
use Rattle.std.proofs.Common.{◌≡◌, ℕ, Bool, true, false, cond, not, ◌&&◌, List, [], ◌∷◌, Some, None, Option, refl, sym, ◌∙◌, ap, subst, All, Contains, is_some, ⊎_elim, bytes_eq}
use Rattle.std.specs.List.{AllByRecursion, flat_map, list_any}
use Rattle.std.proofs.lemmas.List.Elements.{All-contains, All-head, All-tail, All-from_recursion, All-contains_itself, Contains-append_left, Contains-append_right}
use Rattle.std.specs.Cmp.{both_ways}
use Rattle.std.specs.Cmp.Lexicographic.{nat_list_cmp_total}
use Rattle.std.specs.FinMap as fin
use Rattle.med_base.specs.declared.layout.MetaKind.TheVariants as meta_kind
use Rattle.med_base.specs.Classify.{kind_of}
use Rattle.med_base.specs.Content.{Content, Object}
use Rattle.med_base.specs.Effects.{Effect, applied}
use Rattle.med_base.specs.Kinds.{Entry, Kind, Latest, Meta, Own, Shared, Stray}
use Rattle.med_base.specs.declared.kinds.LatestKind.{LatestKind}
use Rattle.med_base.specs.declared.layout.MetaKind.{MetaKind}
use Rattle.med_core.specs.After.{content_after, is_removed}
use Rattle.med_core.specs.Removal.{changes_of_removal, is_content_of, is_old, is_shared_of, paths_of_backup, paths_of_removal}
use Rattle.med_manifest.proofs.ByKind.{HasPath, IsProper, NameByKind, NodeByKind, Text, at, only}
use Rattle.med_manifest.proofs.Elsewhere.{applied_append, deletes_get, get_elsewhere}
use Rattle.med_manifest.proofs.Gets.{from_same, same_itself}
use Rattle.med_manifest.proofs.Members.{IsListed, all_filtered, all_listed, all_so, any_same, append_all, contains_head, flat_map_contains, get_kept, is_listed, passes_filter, same_any}
use Rattle.med_manifest.proofs.Newest.{and_first, and_second, mend_elsewhere}
use Rattle.med_manifest.specs.Listed.{if_stands, paths_of, removes}
use Rattle.med_manifest.specs.Mend.{changes_of_mend}
use Rattle.med_manifest.specs.Rebuild.{is_entry_of}

flat_map_all : {X Y : Type 0} (P : Y → Type 0) (g : X → List Y) (xs : List X)
    → AllByRecursion (λ x. AllByRecursion P (g x)) xs → AllByRecursion P (flat_map g xs)
flat_map_all P g [] h = tt
flat_map_all P g (x ∷ xs) h = append_all P (g x) (flat_map g xs) h.0 (flat_map_all P g xs h.1)

and_both : (a b : Bool) → a ≡ true → b ≡ true → (a && b) ≡ true
and_both true b h k = k
and_both false b h k = h

neither : (a b : Bool) → ◌≡◌ {A = Option Object} (cond a None None) (cond b None None)
neither true true = refl
neither true false = refl
neither false true = refl
neither false false = refl

pub flipped : {A : Type 0} (b : Bool) (x y : A) → cond b x y ≡ cond (not b) y x
flipped true x y = refl
flipped false x y = refl

module _ (before : Text) (c : Content) (f : Text) (names named : List Text) (grace now : ℕ) where
  abbrev gone : Text → Bool
  gone p = is_removed c f names named grace now p (kind_of before p)

  among : (n : Text) → Contains names n → list_any (bytes_eq n) names ≡ true
  among n h = any_same n names h

  -- what is deleted is to go
  entry_goes : (n p : Text) (k : Kind) → Contains names n → is_entry_of f n k ≡ true
      → is_removed c f names named grace now p k ≡ true
  entry_goes n p (Entry g m e) h is = and_both (bytes_eq g f) (list_any (bytes_eq m) names)
      (and_first (bytes_eq g f) (bytes_eq m n) is)
      (among m (subst (Contains names)
      (sym (from_same m n (and_second (bytes_eq g f) (bytes_eq m n) is))) h))
  entry_goes n p _ h is = absurd (cc)

  file_goes : (n p : Text) (k : Kind) → Contains names n → is_content_of f n k ≡ true
      → is_removed c f names named grace now p k ≡ true
  file_goes n p (Own g m e) h is = and_both (bytes_eq g f) (list_any (bytes_eq m) names)
      (and_first (bytes_eq g f) (bytes_eq m n) is)
      (among m (subst (Contains names)
      (sym (from_same m n (and_second (bytes_eq g f) (bytes_eq m n) is))) h))
  file_goes n p (Stray g (Some m)) h is = and_both (bytes_eq g f) (list_any (bytes_eq m) names)
      (and_first (bytes_eq g f) (bytes_eq m n) is)
      (among m (subst (Contains names)
      (sym (from_same m n (and_second (bytes_eq g f) (bytes_eq m n) is))) h))
  file_goes n p _ h is = absurd (cc)

  shared_goes : (p : Text) (k : Kind) → is_shared_of f k ≡ true → (not (list_any (bytes_eq p) named)
      && is_old (fin.get c p) grace now) ≡ true → is_removed c f names named grace now p k ≡ true
  shared_goes p (Shared g k) is old = and_both (bytes_eq g f) (not (list_any (bytes_eq p) named)
      && is_old (fin.get c p) grace now) is old
  shared_goes p _ is old = absurd (cc)

  standing_goes : (n : Text) (e : MetaKind) → Contains names n → HasPath before (Meta f n e)
      → AllByRecursion (λ p. gone p ≡ true) (if_stands c (at before (Meta f n e)))
  standing_goes n e h has = go (fin.contains_key c (at before (Meta f n e)))
    where
      goes : is_removed c f names named grace now (at before (Meta f n e))
          (kind_of before (at before (Meta f n e))) ≡ true
      goes = ap (is_removed c f names named grace now (at before (Meta f n e))) has
          ∙ and_both (bytes_eq f f) (list_any (bytes_eq n) names) (same_itself f) (among n h)

      go : (b : Bool) → AllByRecursion (λ p. is_removed c f names named grace now p
          (kind_of before p) ≡ true) (cond b (at before (Meta f n e) ∷ []) [])
      go true = (goes, tt)
      go false = tt

  one_goes : (n : Text) → Contains names n → NameByKind before f n → AllByRecursion (λ p. gone p
      ≡ true) (paths_of_backup before c f n)
  one_goes n h has =
      let P : Text → Type 0 = λ p. gone p ≡ true in
      append_all P (paths_of before c (is_entry_of f n)) _
      (all_so (IsListed before c (is_entry_of f n)) P (λ p k. entry_goes n p (kind_of before p)
      h k.0) _ (all_listed before c (is_entry_of f n))) (
      append_all P (if_stands c (at before (Meta f n meta_kind.Manifest))) _
      (standing_goes n meta_kind.Manifest h (has.meta meta_kind.Manifest)) (
      append_all P (paths_of before c (is_content_of f n)) _
      (all_so (IsListed before c (is_content_of f n)) P (λ p k. file_goes n p (kind_of before p)
      h k.0) _ (all_listed before c (is_content_of f n))) (
      append_all P (if_stands c (at before (Meta f n meta_kind.Differential))) _
      (standing_goes n meta_kind.Differential h (has.meta meta_kind.Differential)) (
      append_all P (if_stands c (at before (Meta f n meta_kind.Tokenmap))) _
      (standing_goes n meta_kind.Tokenmap h (has.meta meta_kind.Tokenmap))
      (standing_goes n meta_kind.Schema h (has.meta meta_kind.Schema))))))

  names_go : (rest : List Text) → All (Contains names) rest → All (NameByKind before f) rest
      → AllByRecursion (λ n. AllByRecursion (λ p. gone p ≡ true) (paths_of_backup before c f n))
      rest
  names_go [] h k = tt
  names_go (n ∷ rest) h k = (
    one_goes n (All-head (Contains names) n rest h)
        (All-head (NameByKind before f) n rest k),
    names_go rest (All-tail (Contains names) n rest h)
        (All-tail (NameByKind before f) n rest k),
  )

  pub all_go : All (NameByKind before f) names → AllByRecursion (λ p. gone p ≡ true)
      (paths_of_removal before c f names named grace now)
  all_go are =
      let P : Text → Type 0 = λ p. gone p ≡ true in
      append_all P (flat_map (paths_of_backup before c f) names) _
      (flat_map_all P (paths_of_backup before c f) names
      (names_go names (All-contains_itself names) are))
      (all_filtered (IsListed before c (is_shared_of f)) P (λ p. not (list_any (bytes_eq p) named)
      && is_old (fin.get c p) grace now) (λ p e h. shared_goes p (kind_of before p) h.0 e) _
      (all_listed before c (is_shared_of f)))

  -- and what is to go is deleted where it stands
  stands_there : (q : Text) (o : Object) → fin.get c q ≡ Some o → Contains (if_stands c q) q
  stands_there q o e = go (fin.contains_key c q) (ap is_some e)
    where
      go : (b : Bool) → b ≡ true → Contains (cond b (q ∷ []) []) q
      go true h = contains_head q []
      go false h = absurd (cc)

  in_meta : (n q : Text) (e : MetaKind) (o : Object) → q ≡ at before (Meta f n e) → fin.get c q
      ≡ Some o → Contains (paths_of_backup before c f n) q
  in_meta n q e o here_at stands = by e (subst (λ p. Contains (if_stands c p) q) here_at
      (stands_there q o stands))
    where
      a : List Text
      a = paths_of before c (is_entry_of f n)

      b : List Text
      b = paths_of before c (is_content_of f n)

      by : (d : MetaKind) → Contains (if_stands c (at before (Meta f n d))) q
          → Contains (paths_of_backup before c f n) q
      by meta_kind.Manifest h = Contains-append_right (paths_of before c (is_entry_of f n)) _ q
          (Contains-append_left (if_stands c (at before (Meta f n meta_kind.Manifest))) _ q h)
      by meta_kind.Differential h = Contains-append_right (paths_of before c (is_entry_of f n)) _ q
          (Contains-append_right (if_stands c (at before (Meta f n meta_kind.Manifest))) _ q
          (Contains-append_right (paths_of before c (is_content_of f n)) _ q (Contains-append_left
          (if_stands c (at before (Meta f n meta_kind.Differential))) _ q h)))
      by meta_kind.Tokenmap h = Contains-append_right (paths_of before c (is_entry_of f n)) _ q
          (Contains-append_right (if_stands c (at before (Meta f n meta_kind.Manifest))) _ q
          (Contains-append_right (paths_of before c (is_content_of f n)) _ q (Contains-append_right
          (if_stands c (at before (Meta f n meta_kind.Differential))) _ q (Contains-append_left
          (if_stands c (at before (Meta f n meta_kind.Tokenmap))) _ q h))))
      by meta_kind.Schema h = Contains-append_right (paths_of before c (is_entry_of f n)) _ q
          (Contains-append_right (if_stands c (at before (Meta f n meta_kind.Manifest))) _ q
          (Contains-append_right (paths_of before c (is_content_of f n)) _ q (Contains-append_right
          (if_stands c (at before (Meta f n meta_kind.Differential))) _ q (Contains-append_right
          (if_stands c (at before (Meta f n meta_kind.Tokenmap))) _ q h))))

  of_name : (g n q : Text) → (bytes_eq g f && list_any (bytes_eq n) names) ≡ true → (g ≡ f)
      × Contains names n
  of_name g n q h = (
    from_same g f (and_first (bytes_eq g f) (list_any (bytes_eq n) names) h),
    same_any n names (and_second (bytes_eq g f) (list_any (bytes_eq n) names) h),
  )

  in_names : (n q : Text) → Contains names n → Contains (paths_of_backup before c f n) q
      → Contains (paths_of_removal before c f names named grace now) q
  in_names n q h k = Contains-append_left (flat_map (paths_of_backup before c f) names) _ q
      (flat_map_contains (paths_of_backup before c f) names n q h k)

  in_files : (n q : Text) (o : Object) → is_content_of f n (kind_of before q) ≡ true → fin.get c q
      ≡ Some o → Contains (paths_of_backup before c f n) q
  in_files n q o is stands = Contains-append_right (paths_of before c (is_entry_of f n)) _ q
      (Contains-append_right (if_stands c (at before (Meta f n meta_kind.Manifest))) _ q
      (Contains-append_left (paths_of before c (is_content_of f n)) _ q (is_listed before c
      (is_content_of f n) q o is stands)))

  of_both : (g m n : Text) → g ≡ f → m ≡ n → (bytes_eq g f && bytes_eq m n) ≡ true
  of_both g m n a b = and_both (bytes_eq g f) (bytes_eq m n) (rw a (same_itself f))
      (rw b (same_itself n))

  all_there : (q : Text) (o : Object) (k : Kind) → kind_of before q ≡ k
      → is_removed c f names named grace now q k ≡ true → fin.get c q ≡ Some o
      → Contains (paths_of_removal before c f names named grace now) q
  all_there q o (Own g n key) e h stands =
      let (here_at, h₁) = of_name g n q h in
      in_names n q h₁ (in_files n q o (ap (is_content_of f n) e ∙ of_both g n n here_at refl)
      stands)
  all_there q o (Stray g (Some n)) e h stands =
      let (here_at, h₁) = of_name g n q h in
      in_names n q h₁ (in_files n q o (ap (is_content_of f n) e ∙ of_both g n n here_at refl)
      stands)
  all_there q o (Entry g n x) e h stands =
      let (here_at, h₁) = of_name g n q h in
      in_names n q h₁ (Contains-append_left (paths_of before c (is_entry_of f n)) _ q
      (is_listed before c (is_entry_of f n) q o (ap (is_entry_of f n) e
      ∙ of_both g n n here_at refl) stands))
  all_there q o (Meta g n x) e h stands =
      let (here_at, h₁) = of_name g n q h in
      in_names n q h₁ (in_meta n q x o (only before q (subst IsProper (sym e) tt) ∙ ap (at before) e
      ∙ ap (λ y. at before (Meta y n x)) here_at) stands)
  all_there q o (Shared g key) e h stands =
      Contains-append_right (flat_map (paths_of_backup before c f) names) _ q
      (passes_filter (λ p. not (list_any (bytes_eq p) named) && is_old (fin.get c p) grace now)
      q (paths_of before c (is_shared_of f))
      (and_second (bytes_eq g f) (not (list_any (bytes_eq q) named) && is_old (fin.get c q) grace
      now) h)
      (is_listed before c (is_shared_of f) q o (ap (is_shared_of f) e ∙ and_first (bytes_eq g f)
      (not (list_any (bytes_eq q) named) && is_old (fin.get c q) grace now) h) stands))
  all_there q o _ e h stands = absurd (cc)

  module _ (node : NodeByKind before f) (are : All (NameByKind before f) names) (t : ℕ → ℕ) where
    pub not_latest : (q : Text) (k : Kind) → kind_of before q ≡ k → is_removed c f names named grace
        now q k ≡ true → fin.get (applied (changes_of_mend before c f names t) c) q ≡ fin.get c q
    not_latest q (Latest g e) is h = absurd (cc)
    not_latest q k is h = get_elsewhere q (changes_of_mend before c f names t) c
        (mend_elsewhere before f node c names t q (λ x has which e.
        let one : k ≡ x = sym is ∙ ap (kind_of before) e ∙ has in ⊎_elim (λ a. latest_stays x a one)
        (λ a. latest_stays x a one) which))
      where
        latest_stays : (x : Kind) {l : LatestKind} → x ≡ Latest f l → k ≡ x → ⊥
        latest_stays x a b = let none : false ≡ true = subst (λ y. is_removed c f names named grace
            now q y ≡ true) (b ∙ a) h in cc

    agree : (q : Text) (o : Object) → fin.get (applied (changes_of_mend before c f names t) c) q
        ≡ Some o → list_any (bytes_eq q) (paths_of_removal before c f names named grace now)
        ≡ gone q
    agree q o e = both_ways (list_any (bytes_eq q) (paths_of_removal before c f names named grace
        now)) (gone q)
        (λ h. All-contains (λ p. gone p ≡ true) (paths_of_removal before c f names named grace now)
        q (All-from_recursion (λ p. gone p ≡ true) (paths_of_removal before c f names named
        grace now) (all_go are)) (same_any q (paths_of_removal before c f names named grace now)
        h))
        (λ h. any_same q (paths_of_removal before c f names named grace now)
        (all_there q o (kind_of before q) refl h (sym (not_latest q (kind_of before q) refl h)
        ∙ e)))

    tests_agree : (q : Text) (o : Option Object)
        → fin.get (applied (changes_of_mend before c f names t) c) q ≡ o
        → cond (list_any (bytes_eq q) (paths_of_removal before c f names named grace now)) None o
        ≡ cond (not (gone q)) o None
    tests_agree q None e = neither (list_any (bytes_eq q) (paths_of_removal before c f names named
        grace now)) (not (gone q))
    tests_agree q (Some o) e = ap (λ b. cond b None (Some o)) (agree q o e) ∙ flipped (gone q) None
        (Some o)

    pub leaves_after : applied (changes_of_removal before c f names named grace now t) c
        ≡ content_after before c f names named grace now t
    leaves_after =
        let latest : List Effect = changes_of_mend before c f names t in
        let ps : List Text = paths_of_removal before c f names named grace now in
        let d : Content = applied latest c in
        let e : applied (changes_of_removal before c f names named grace now t) c
        ≡ applied (removes ps) d = applied_append latest (removes ps) c in
        fin.same_map nat_list_cmp_total (fin.slice_cmp-IsAntisymmetric fin.nat_cmp-IsAntisymmetric)
        (applied (changes_of_removal before c f names named grace now t) c)
        (content_after before c f names named grace now t)
        (λ q. ap (λ x. fin.get x q) e ∙ deletes_get ps d q ∙ tests_agree q (fin.get d q) refl
        ∙ sym (get_kept d (λ p. not (gone p)) q))
