-- There is a map of all entries that the backups give; when a backup began.
use Rattle.std.proofs.Common.{◌≡◌, ◌⊎◌, ◌==◌, ℕ, Bool, true, false, cond, ◌||◌, List, [], ◌∷◌, ◌++◌, Some, None, Option, refl, sym, ◌∙◌, ap, subst, inl, inr, arith, nat_cmp, Contains, bytes_eq}
use Rattle.std.specs.List.{flat_map, list_any}
use Rattle.std.proofs.lemmas.List.Elements.{Contains-append_left, Contains-append_right}
use Rattle.std.specs.Cmp.Lexicographic.{slice_cmp, nat_list_cmp_total}
use Rattle.std.specs.FinMap as fin
use Rattle.med_base.specs.declared.layout.MetaKind.TheVariants as meta_kind
use Rattle.med_base.specs.declared.kinds.IndexKind.TheVariants as index_kind
use Rattle.med_base.specs.Classify.{kind_of}
use Rattle.med_base.specs.Content.{Content, Object}
use Rattle.med_base.specs.Kinds.{Entry, Kind, Meta}
use Rattle.med_base.specs.declared.kinds.IndexKind.{IndexKind}
use Rattle.med_base.specs.declared.layout.MetaKind.{MetaKind}
use Rattle.med_manifest.proofs.ByKind.{HasPath, IsProper, Text, at, only, under}
use Rattle.med_manifest.proofs.Gets.{cmp_is, from_same, same_itself}
use Rattle.med_manifest.proofs.IndexByKind.{pair_on}
use Rattle.med_manifest.proofs.Members.{any_same, contains_head, contains_more, flat_map_contains, is_listed}
use Rattle.med_manifest.specs.Index.{Entries, IsGiven, bytes_in, empty_at, empty_where, given, given_to, meta_in, second_in, started, started_by}
use Rattle.med_manifest.specs.Listed.{paths_of}

-- a map by a function on texts, at these texts
abbrev mapped : (Text → Option Text) → List Text → List (Text × Text)
mapped g [] = []
mapped g (p ∷ ps) = pair_on p (g p) (mapped g ps)

find_mapped : (g : Text → Option Text) (ps : List Text) (q : Text) → fin.find (slice_cmp nat_cmp) q
    (mapped g ps) ≡ cond (list_any (bytes_eq q) ps) (g q) None
find_mapped g [] q = refl
find_mapped g (p ∷ ps) q = go (g p) refl (bytes_eq q p) refl (find_mapped g ps q)
  where
    either : (b : Bool) → ◌≡◌ {A = Option Text} (cond b None None) None
    either true = refl
    either false = refl

    go : (o : Option Text) → g p ≡ o → (b : Bool) → bytes_eq q p ≡ b → fin.find (slice_cmp nat_cmp)
        q (mapped g ps) ≡ cond (list_any (bytes_eq q) ps) (g q) None
        → fin.find (slice_cmp nat_cmp) q (pair_on p o (mapped g ps)) ≡ cond (bytes_eq q p
        || list_any (bytes_eq q) ps) (g q) None
    go None e true is more =
        let none : g q ≡ None = ap g (from_same q p is) ∙ e in
        more ∙ ap (λ o. cond (list_any (bytes_eq q) ps) o None) none
        ∙ either (list_any (bytes_eq q) ps) ∙ sym none
        ∙ ap (λ b. cond (b || list_any (bytes_eq q) ps) (g q) None) (sym is)
    go None e false is more = more ∙ ap (λ b. cond (b || list_any (bytes_eq q) ps) (g q) None)
        (sym is)
    go (Some x) e true is more = ap (λ b. cond b (Some x) (fin.find (slice_cmp nat_cmp) q
        (mapped g ps))) (cmp_is q p ∙ is) ∙ sym (ap g (from_same q p is) ∙ e)
        ∙ ap (λ b. cond (b || list_any (bytes_eq q) ps) (g q) None) (sym is)
    go (Some x) e false is more = ap (λ b. cond b (Some x) (fin.find (slice_cmp nat_cmp) q
        (mapped g ps))) (cmp_is q p ∙ is) ∙ more ∙ ap (λ b. cond (b || list_any (bytes_eq q) ps)
        (g q) None) (sym is)

module _ (before : Text) (f : Text) (c : Content) where
  abbrev is_meta_of : Kind → Bool
  is_meta_of (Meta g n e) = bytes_eq g f
  is_meta_of _ = false

  abbrev at_second : Option ℕ → (ℕ → Text) → List Text
  at_second None g = []
  at_second (Some t) g = g t ∷ []

  abbrev timed_of : Text → List Text
  timed_of n = at_second (started before c f n) (λ t. at before (Entry f n (index_kind.Started t)))
      ++ at_second (second_in (meta_in before c f n meta_kind.Manifest))
      (λ t. at before (Entry f n (index_kind.Finished t)))

  abbrev entries_of : Text → List Text
  entries_of n = at before (Entry f n index_kind.Tokenmap)
      ∷ at before (Entry f n index_kind.Manifest) ∷ at before (Entry f n index_kind.Differential)
      ∷ at_second (started before c f n) (λ t. at before (Entry f n (index_kind.Started t)))
      ++ at_second (second_in (meta_in before c f n meta_kind.Manifest))
      (λ t. at before (Entry f n (index_kind.Finished t)))

  abbrev entries_at : Kind → List Text
  entries_at (Meta g n e) = entries_of n
  entries_at _ = []

  abbrev candidates : List Text
  candidates = flat_map (λ p. entries_at (kind_of before p)) (paths_of before c is_meta_of)

  abbrev given_text : Text → Option Text
  given_text p = given_to before c f (kind_of before p)

  abbrev pub given_entries : Entries
  given_entries = fin.from_entries (mapped given_text candidates)

  -- what stands of the backup brings in all its entries
  by_meta : (n : Text) (k : MetaKind) (o : Object) (q : Text) → HasPath before (Meta f n k)
      → meta_in before c f n k ≡ Some o → Contains (entries_of n) q → Contains candidates q
  by_meta n k o q has e among = flat_map_contains (λ p. entries_at (kind_of before p))
      (paths_of before c is_meta_of) (at before (Meta f n k)) q (is_listed before c is_meta_of
      (at before (Meta f n k)) o (ap is_meta_of has ∙ same_itself f) e)
      (subst (λ x. Contains (entries_at x) q) (sym has) among)

  bytes_some : (o : Option Object) (b : Text) → bytes_in o ≡ Some b → (x : Object) × (o ≡ Some x)
  bytes_some None b e = absurd (cc)
  bytes_some (Some x) b e = (x, refl)

  where_some : (o : Option Object) (b : Text) → empty_where o ≡ Some b → (x : Object) × (o ≡ Some x)
  where_some None b e = absurd (cc)
  where_some (Some x) b e = (x, refl)

  second_some : (o : Option ℕ) (t : ℕ) (b : Text) → empty_at o t ≡ Some b → o ≡ Some t
  second_some None t b e = absurd (cc)
  second_some (Some s) t b e = go (t == s) refl e
    where
      go : (x : Bool) → (t == s) ≡ x → cond x (Some []) None ≡ Some b → Some s ≡ Some t
      go true h k = ap (λ y. Some y) (grind (arith, h))
      go false h k = absurd (cc)

  second_object : (o : Option Object) (t : ℕ) → second_in o ≡ Some t → (x : Object) × (o ≡ Some x)
  second_object None t e = absurd (cc)
  second_object (Some x) t e = (x, refl)

  -- a backup that began has one of the four
  pub began_of : (s d r m : Option Object) (t : ℕ) → started_by s d r m ≡ Some t
      → ((x : Object) × (s ≡ Some x)) ⊎ ((x : Object) × (d ≡ Some x))
      ⊎ ((x : Object) × (r ≡ Some x)) ⊎ ((x : Object) × (m ≡ Some x))
  began_of (Some s) d r m t e = inl (s, refl)
  began_of None (Some d) r m t e = inr (inl (d, refl))
  began_of None None (Some r) m t e = inr (inr (inl (r, refl)))
  began_of None None None (Some m) t e = inr (inr (inr (m, refl)))
  began_of None None None None t e = absurd (cc)

  in_second : (o : Option ℕ) (t : ℕ) (g : ℕ → Text) → o ≡ Some t → Contains (at_second o g) (g t)
  in_second None t g e = absurd (cc)
  in_second (Some s) t g e = let is : s ≡ t = cc in subst (λ x. Contains (g s ∷ []) (g x)) is
      (contains_head (g s) [])

  later : (n q : Text) (xs : List Text) → Contains xs q
      → Contains (at before (Entry f n index_kind.Tokenmap)
      ∷ at before (Entry f n index_kind.Manifest) ∷ at before (Entry f n index_kind.Differential)
      ∷ xs) q
  later n q xs h = contains_more (at before (Entry f n index_kind.Tokenmap)) q
      (at before (Entry f n index_kind.Manifest) ∷ at before (Entry f n index_kind.Differential)
      ∷ xs) (contains_more (at before (Entry f n index_kind.Manifest)) q
      (at before (Entry f n index_kind.Differential) ∷ xs)
      (contains_more (at before (Entry f n index_kind.Differential)) q xs h))

  is_candidate_path : (n b : Text) (e : IndexKind) → HasPath before (Entry f n e)
      → given before c f n e ≡ Some b → Contains candidates (at before (Entry f n e))
  is_candidate_path n b index_kind.Tokenmap has h =
      let (o, is) = bytes_some (meta_in before c f n meta_kind.Tokenmap) b h in
      by_meta n meta_kind.Tokenmap o (at before (Entry f n index_kind.Tokenmap))
      (under before f n index_kind.Tokenmap meta_kind.Tokenmap has) is
      (contains_head (at before (Entry f n index_kind.Tokenmap))
      (at before (Entry f n index_kind.Manifest) ∷ at before (Entry f n index_kind.Differential)
      ∷ timed_of n))
  is_candidate_path n b index_kind.Manifest has h =
      let (o, is) = bytes_some (meta_in before c f n meta_kind.Manifest) b h in
      by_meta n meta_kind.Manifest o (at before (Entry f n index_kind.Manifest))
      (under before f n index_kind.Manifest meta_kind.Manifest has) is
      (contains_more (at before (Entry f n index_kind.Tokenmap))
      (at before (Entry f n index_kind.Manifest)) (at before (Entry f n index_kind.Manifest)
      ∷ at before (Entry f n index_kind.Differential) ∷ timed_of n)
      (contains_head (at before (Entry f n index_kind.Manifest))
      (at before (Entry f n index_kind.Differential) ∷ timed_of n)))
  is_candidate_path n b index_kind.Differential has h =
      let (o, is) = where_some (meta_in before c f n meta_kind.Differential) b h in
      by_meta n meta_kind.Differential o (at before (Entry f n index_kind.Differential))
      (under before f n index_kind.Differential meta_kind.Differential has) is
      (contains_more (at before (Entry f n index_kind.Tokenmap))
      (at before (Entry f n index_kind.Differential)) (at before (Entry f n index_kind.Manifest)
      ∷ at before (Entry f n index_kind.Differential) ∷ timed_of n)
      (contains_more (at before (Entry f n index_kind.Manifest))
      (at before (Entry f n index_kind.Differential))
      (at before (Entry f n index_kind.Differential) ∷ timed_of n)
      (contains_head (at before (Entry f n index_kind.Differential)) (timed_of n))))
  is_candidate_path n b (index_kind.Finished t) has h =
      let is : second_in (meta_in before c f n meta_kind.Manifest) ≡ Some t = second_some
      (second_in (meta_in before c f n meta_kind.Manifest)) t b h in
      let (o, stands) = second_object (meta_in before c f n meta_kind.Manifest) t is in
      by_meta n meta_kind.Manifest o (at before (Entry f n (index_kind.Finished t)))
      (under before f n (index_kind.Finished t) meta_kind.Manifest has) stands
      (later n (at before (Entry f n (index_kind.Finished t))) (timed_of n)
      (Contains-append_right (at_second (started before c f n)
      (λ t. at before (Entry f n (index_kind.Started t))))
      (at_second (second_in (meta_in before c f n meta_kind.Manifest))
      (λ t. at before (Entry f n (index_kind.Finished t))))
      (at before (Entry f n (index_kind.Finished t)))
      (in_second (second_in (meta_in before c f n meta_kind.Manifest)) t
      (λ t. at before (Entry f n (index_kind.Finished t))) is)))
  is_candidate_path n b (index_kind.Started t) has h = go
      (began_of (meta_in before c f n meta_kind.Schema)
      (meta_in before c f n meta_kind.Differential) (meta_in before c f n meta_kind.Tokenmap)
      (meta_in before c f n meta_kind.Manifest) t is)
    where
      is : started before c f n ≡ Some t
      is = second_some (started before c f n) t b h

      among : Contains (entries_of n) (at before (Entry f n (index_kind.Started t)))
      among = later n (at before (Entry f n (index_kind.Started t))) (timed_of n)
          (Contains-append_left (at_second (started before c f n)
          (λ t. at before (Entry f n (index_kind.Started t))))
          (at_second (second_in (meta_in before c f n meta_kind.Manifest))
          (λ t. at before (Entry f n (index_kind.Finished t))))
          (at before (Entry f n (index_kind.Started t))) (in_second (started before c f n) t
          (λ t. at before (Entry f n (index_kind.Started t))) is))

      go : ((x : Object) × (meta_in before c f n meta_kind.Schema ≡ Some x))
          ⊎ ((x : Object) × (meta_in before c f n meta_kind.Differential ≡ Some x))
          ⊎ ((x : Object) × (meta_in before c f n meta_kind.Tokenmap ≡ Some x))
          ⊎ ((x : Object) × (meta_in before c f n meta_kind.Manifest ≡ Some x))
          → Contains candidates (at before (Entry f n (index_kind.Started t)))
      go (inl (o, e)) = by_meta n meta_kind.Schema o (at before (Entry f n (index_kind.Started t)))
          (under before f n (index_kind.Started t) meta_kind.Schema has) e among
      go (inr (inl (o, e))) = by_meta n meta_kind.Differential o
          (at before (Entry f n (index_kind.Started t))) (under before f n (index_kind.Started t)
          meta_kind.Differential has) e among
      go (inr (inr (inl (o, e)))) = by_meta n meta_kind.Tokenmap o
          (at before (Entry f n (index_kind.Started t))) (under before f n (index_kind.Started t)
          meta_kind.Tokenmap has) e among
      go (inr (inr (inr (o, e)))) = by_meta n meta_kind.Manifest o
          (at before (Entry f n (index_kind.Started t))) (under before f n (index_kind.Started t)
          meta_kind.Manifest has) e among

  in_candidates : (q b : Text) (k : Kind) → kind_of before q ≡ k → given_to before c f k ≡ Some b
      → Contains candidates q
  in_candidates q b (Entry g n e) is h = go (bytes_eq g f) refl h
    where
      go : (x : Bool) → bytes_eq g f ≡ x → cond x (given before c f n e) None ≡ Some b
          → Contains candidates q
      go true a k =
          let there : kind_of before q ≡ Entry f n e = is ∙ ap (λ x. Entry x n e)
          (from_same g f a) in
          let here : q ≡ at before (Entry f n e) = only before q (subst IsProper (sym there) tt)
          ∙ ap (at before) there in
          subst (Contains candidates) (sym here) (is_candidate_path n b e (ap (kind_of before)
          (sym here) ∙ there) k)
      go false a k = absurd (cc)
  in_candidates q b _ is h = absurd (cc)

  pub entries_given : IsGiven before c f given_entries
  entries_given q = fin.get-from_entries nat_list_cmp_total (mapped given_text candidates) q
      ∙ find_mapped given_text candidates q ∙ go (given_text q) refl
    where
      either : (b : Bool) → ◌≡◌ {A = Option Text} (cond b None None) None
      either true = refl
      either false = refl

      go : (o : Option Text) → given_text q ≡ o → cond (list_any (bytes_eq q) candidates)
          (given_text q) None ≡ given_text q
      go None e = ap (λ o. cond (list_any (bytes_eq q) candidates) o None) e
          ∙ either (list_any (bytes_eq q) candidates) ∙ sym e
      go (Some b) e = ap (λ x. cond x (given_text q) None) (any_same q candidates
          (in_candidates q b (kind_of before q) refl e))

-- one map at most
pub given_one : (before : Text) (c : Content) (f : Text) (G H : Entries) → IsGiven before c f G
    → IsGiven before c f H → G ≡ H
given_one before c f G H g h = fin.same_map nat_list_cmp_total
    (fin.slice_cmp-IsAntisymmetric fin.nat_cmp-IsAntisymmetric) G H (λ p. g p ∙ sym (h p))
