-- An index that is exact stays so.
use Rattle.std.proofs.Common.{◌≡◌, ◌≢◌, ◌==◌, ℕ, Bool, true, false, cond, List, [], ◌∷◌, ◌++◌, map, Some, None, Option, refl, sym, ◌∙◌, ap, subst, arith, Contains, is_some, ⊎_elim, bytes_eq, not}
use Rattle.std.specs.List.{AllByRecursion, list_any}
use Rattle.std.specs.Cmp.{both_ways}
use Rattle.std.specs.Cmp.Lexicographic.{nat_list_cmp_total}
use Rattle.std.specs.FinMap as fin
use Rattle.med_base.specs.declared.layout.MetaKind.TheVariants as meta_kind
use Rattle.med_base.specs.declared.kinds.IndexKind.TheVariants as index_kind
use Rattle.med_base.specs.declared.kinds.LatestKind.TheVariants as latest_kind
use Rattle.med_base.specs.Classify.{kind_of}
use Rattle.med_base.specs.Content.{Content, Object}
use Rattle.med_base.specs.Effects.{Effect, Removes, Stores, applied, made}
use Rattle.med_base.specs.Kinds.{Kind, Latest, Meta}
use Rattle.med_base.specs.declared.kinds.IndexKind.{IndexKind}
use Rattle.med_base.specs.declared.kinds.LatestKind.{LatestKind}
use Rattle.med_base.specs.declared.layout.MetaKind.{MetaKind}
use Rattle.med_manifest.proofs.ByKind.{FinishedByKind, HasPath, NodeByKind, Text, at, folder, manifest, manifest_path}
use Rattle.med_manifest.proofs.Elsewhere.{AreElsewhere, applied_append, get_elsewhere}
use Rattle.med_manifest.proofs.Gets.{cmp_itself, cmp_same, from_cmp, from_same, get_delete_same, get_put_same, same_itself}
use Rattle.med_manifest.proofs.IndexByKind.{InIndex, InMeta, Spot, puts_at, spot}
use Rattle.med_manifest.proofs.Members.{IsListed, all_listed, all_so, get_kept}
use Rattle.med_manifest.proofs.Newest.{IsAllOf, IsOutside, and_first, mend_elsewhere, newest_outside}
use Rattle.med_manifest.specs.Index.{bytes_in, given, given_by, meta_in}
use Rattle.med_manifest.specs.Listed.{paths_of, remove_if_stands}
use Rattle.med_manifest.specs.Mend.{changes_of_mend, finished_at, has_bytes, is_manifest_outside, latest_of, mend_to, mend_tokenmap, name_in, newest, put_unless, second_or_zero}

abbrev same_meta : MetaKind → MetaKind → Bool
same_meta meta_kind.Schema meta_kind.Schema = true
same_meta meta_kind.Differential meta_kind.Differential = true
same_meta meta_kind.Tokenmap meta_kind.Tokenmap = true
same_meta meta_kind.Manifest meta_kind.Manifest = true
same_meta _ _ = false

abbrev same_entry : IndexKind → IndexKind → Bool
same_entry index_kind.Tokenmap index_kind.Tokenmap = true
same_entry index_kind.Manifest index_kind.Manifest = true
same_entry (index_kind.Started s) (index_kind.Started t) = s == t
same_entry (index_kind.Finished s) (index_kind.Finished t) = s == t
same_entry index_kind.Differential index_kind.Differential = true
same_entry _ _ = false

abbrev pub same_spot : Spot → Spot → Bool
same_spot (InMeta d) (InMeta e) = same_meta d e
same_spot (InIndex d) (InIndex e) = same_entry d e
same_spot _ _ = false

same_meta_is : (d e : MetaKind) → same_meta d e ≡ true → d ≡ e
same_meta_is meta_kind.Schema meta_kind.Schema h = refl
same_meta_is meta_kind.Differential meta_kind.Differential h = refl
same_meta_is meta_kind.Tokenmap meta_kind.Tokenmap h = refl
same_meta_is meta_kind.Manifest meta_kind.Manifest h = refl
same_meta_is _ _ h = absurd (cc)

same_entry_is : (d e : IndexKind) → same_entry d e ≡ true → d ≡ e
same_entry_is index_kind.Tokenmap index_kind.Tokenmap h = refl
same_entry_is index_kind.Manifest index_kind.Manifest h = refl
same_entry_is (index_kind.Started s) (index_kind.Started t) h = ap (λ x. index_kind.Started x)
    (grind (arith, h))
same_entry_is (index_kind.Finished s) (index_kind.Finished t) h = ap (λ x. index_kind.Finished x)
    (grind (arith, h))
same_entry_is index_kind.Differential index_kind.Differential h = refl
same_entry_is _ _ h = absurd (cc)

same_spot_is : (a b : Spot) → same_spot a b ≡ true → a ≡ b
same_spot_is (InMeta d) (InMeta e) h = ap (λ x. InMeta x) (same_meta_is d e h)
same_spot_is (InIndex d) (InIndex e) h = ap (λ x. InIndex x) (same_entry_is d e h)
same_spot_is _ _ h = absurd (cc)

same_spot_itself : (a : Spot) → same_spot a a ≡ true
same_spot_itself (InMeta meta_kind.Schema) = refl
same_spot_itself (InMeta meta_kind.Differential) = refl
same_spot_itself (InMeta meta_kind.Tokenmap) = refl
same_spot_itself (InMeta meta_kind.Manifest) = refl
same_spot_itself (InIndex index_kind.Tokenmap) = refl
same_spot_itself (InIndex index_kind.Manifest) = refl
same_spot_itself (InIndex (index_kind.Started t)) = grind arith
same_spot_itself (InIndex (index_kind.Finished t)) = grind arith
same_spot_itself (InIndex index_kind.Differential) = refl

spot_is : (f n : Text) (a b : Spot) → spot f n a ≡ spot f n b → a ≡ b
spot_is f n (InMeta d) (InMeta e) h = let x : d ≡ e = cc in ap (λ x. InMeta x) x
spot_is f n (InIndex d) (InIndex e) h = let x : d ≡ e = cc in ap (λ x. InIndex x) x
spot_is f n _ _ h = absurd (cc)

-- what stands at a spot after these puts
abbrev pub look : List (Spot × Object) → Spot → Option Object → Option Object
look [] s o = o
look (x ∷ xs) s o = look xs s (cond (same_spot s x.0) (Some x.1) o)

abbrev pub AreSpots : Text → Text → Text → List (Spot × Object) → Type 0
AreSpots before f n [] = Unit {0}
AreSpots before f n (x ∷ xs) = HasPath before (spot f n x.0) × AreSpots before f n xs

spots_apart : (before : Text) (f n : Text) (a b : Spot) → HasPath before (spot f n a)
    → HasPath before (spot f n b) → cmp_same (at before (spot f n a)) (at before (spot f n b))
    ≡ same_spot a b
spots_apart before f n a b h k = both_ways (cmp_same (at before (spot f n a))
    (at before (spot f n b))) (same_spot a b)
    (λ e. let is : a ≡ b = spot_is f n a b (sym h ∙ ap (kind_of before) (from_cmp _ _ e) ∙ k) in
    subst (λ x. same_spot a x ≡ true) is (same_spot_itself a))
    (λ e. let is : a ≡ b = same_spot_is a b e in
    subst (λ x. cmp_same (at before (spot f n a)) (at before (spot f n x)) ≡ true) is
    (cmp_itself (at before (spot f n a))))

pub look_get : (before : Text) (f n : Text) (xs : List (Spot × Object)) (c : Content) (s : Spot)
    → HasPath before (spot f n s) → AreSpots before f n xs
    → fin.get (applied (puts_at before f n xs) c) (at before (spot f n s))
    ≡ look xs s (fin.get c (at before (spot f n s)))
look_get before f n [] c s has h = refl
look_get before f n (x ∷ xs) c s has h = look_get before f n xs
    (made (Stores (at before (spot f n x.0)) x.1.bytes x.1.second) c) s has h.1
    ∙ ap (look xs s) (fin.get-insert nat_list_cmp_total c (at before (spot f n x.0)) _
    (at before (spot f n s)) ∙ ap (λ b. cond b (Some x.1) (fin.get c (at before (spot f n s))))
    (spots_apart before f n s x.0 has h.0))

pub spots_elsewhere : (before : Text) (f n : Text) (xs : List (Spot × Object)) (q : Text)
    → AreSpots before f n xs → ((s : Spot) → HasPath before (spot f n s)
    → (q ≢ at before (spot f n s))) → AreElsewhere q (puts_at before f n xs)
spots_elsewhere before f n [] q h apart = tt
spots_elsewhere before f n (x ∷ xs) q h apart = (
  apart x.0 h.0,
  spots_elsewhere before f n xs q h.1
      apart,
)

-- a put that isn't needed, a delete that isn't needed
pub put_done : (d : Content) (p b : Text) (t : ℕ) → bytes_in (fin.get d p) ≡ Some b
    → put_unless d p b t ≡ []
put_done d p b t e = go (fin.get d p) e
  where
    go : (o : Option Object) → bytes_in o ≡ Some b → cond (has_bytes o b) [] (Stores p b t ∷ [])
        ≡ []
    go None h = absurd (cc)
    go (Some o) h = let is : o.bytes ≡ b = cc in ap (λ x. cond x [] (Stores p b t ∷ []))
        (ap (bytes_eq o.bytes) (sym is) ∙ same_itself o.bytes)

delete_done : (d : Content) (p : Text) → fin.get d p ≡ None → remove_if_stands d p ≡ []
delete_done d p e = ap (λ o. cond (is_some o) (Removes p ∷ []) []) e

after_put : (c d : Content) (p b : Text) (t : ℕ) → fin.get d p ≡ fin.get c p
    → bytes_in (fin.get (applied (put_unless c p b t) d) p) ≡ Some b
after_put c d p b t e = go (fin.get c p) refl
  where
    by : (x : Object) (y : Bool) → fin.get c p ≡ Some x → bytes_eq x.bytes b ≡ y
        → bytes_in (fin.get (applied (cond y [] (Stores p b t ∷ [])) d) p) ≡ Some b
    by x true is h = ap bytes_in (e ∙ is) ∙ ap (λ z. Some z) (from_same x.bytes b h)
    by x false is h = ap bytes_in (get_put_same d p b t)

    go : (o : Option Object) → fin.get c p ≡ o
        → bytes_in (fin.get (applied (cond (has_bytes o b) [] (Stores p b t ∷ [])) d) p) ≡ Some b
    go None is = ap bytes_in (get_put_same d p b t)
    go (Some x) is = by x (bytes_eq x.bytes b) is refl

after_delete : (c d : Content) (p : Text) → fin.get d p ≡ fin.get c p
    → fin.get (applied (remove_if_stands c p) d) p ≡ None
after_delete c d p e = go (fin.get c p) refl
  where
    go : (o : Option Object) → fin.get c p ≡ o
        → fin.get (applied (cond (is_some o) (Removes p ∷ []) []) d) p ≡ None
    go None is = e ∙ is
    go (Some x) is = get_delete_same d p

if_elsewhere : (c : Content) (p q : Text) → (q ≢ p) → AreElsewhere q (remove_if_stands c p)
if_elsewhere c p q apart = go (fin.contains_key c p)
  where
    go : (b : Bool) → AreElsewhere q (cond b (Removes p ∷ []) [])
    go true = (apart, tt)
    go false = tt

unless_elsewhere : (c : Content) (p b q : Text) (t : ℕ) → (q ≢ p)
    → AreElsewhere q (put_unless c p b t)
unless_elsewhere c p b q t apart = go (has_bytes (fin.get c p) b)
  where
    go : (x : Bool) → AreElsewhere q (cond x [] (Stores p b t ∷ []))
    go true = tt
    go false = (apart, tt)

map_so : {X Y : Type 0} (g h : X → Y) (xs : List X) → AllByRecursion (λ x. g x ≡ h x) xs → map g xs
    ≡ map h xs
map_so g h [] k = refl
map_so g h (x ∷ xs) k = λ i. k.0 i ∷ map_so g h xs k.1 i

same_text : (c d : Content) → ((q : Text) → fin.get c q ≡ fin.get d q) → c ≡ d
same_text c d h = fin.same_map nat_list_cmp_total
    (fin.slice_cmp-IsAntisymmetric fin.nat_cmp-IsAntisymmetric) c d h

module _ (before : Text) (f : Text) where
  -- the newest, by the map of the manifests that count
  abbrev counted : Content → List Text → Content
  counted c names = fin.retain_keys c (λ p. is_manifest_outside f names (kind_of before p))

  abbrev newest_of : Content → Option (ℕ × Text)
  newest_of m = latest_of (map (finished_at before m) (fin.keys m))

  newest_by : (c : Content) (names : List Text) → newest before c f names
      ≡ newest_of (counted c names)
  newest_by c names = ap latest_of (map_so (finished_at before c) (finished_at before
      (counted c names)) (paths_of before c (is_manifest_outside f names))
      (all_so (IsListed before c (is_manifest_outside f names)) (λ p. finished_at before c p
      ≡ finished_at before (counted c names) p)
      (λ p k. ap (λ o. (second_or_zero o, name_in (kind_of before p)))
      (sym (get_kept c (λ q. is_manifest_outside f names (kind_of before q)) p
      ∙ ap (λ b. cond b (fin.get c p) None) k.0))) _ (all_listed before c
      (is_manifest_outside f names))))

  pub newest_same : (c d : Content) (names others : List Text)
      → ((q : Text) → cond (is_manifest_outside f names (kind_of before q)) (fin.get c q) None
      ≡ cond (is_manifest_outside f others (kind_of before q)) (fin.get d q) None)
      → newest before c f names ≡ newest before d f others
  newest_same c d names others h = newest_by c names ∙ ap newest_of (same_text (counted c names)
      (counted d others)
      (λ q. get_kept c (λ p. is_manifest_outside f names (kind_of before p)) q ∙ h q
      ∙ sym (get_kept d (λ p. is_manifest_outside f others (kind_of before p)) q)))
      ∙ sym (newest_by d others)

  module _ (node : NodeByKind before f) where
    abbrev name_at : Text
    name_at = at before (Latest f latest_kind.Name)

    abbrev ring_at : Text
    ring_at = at before (Latest f latest_kind.Tokenmap)

    ring_not_name : ring_at ≢ name_at
    ring_not_name e = let x : Latest f latest_kind.Tokenmap ≡ Latest f latest_kind.Name = sym
        (node.latest latest_kind.Tokenmap) ∙ ap (kind_of before) e ∙ node.latest latest_kind.Name in
        cc

    -- a mend is by the manifests that count, the rings of these backups and the latest entries
    ring_same : (c d : Content) (o : Option Object) (t : ℕ) → fin.get c ring_at ≡ fin.get d ring_at
        → mend_tokenmap before c f o t ≡ mend_tokenmap before d f o t
    ring_same c d None t e = ap (λ x. cond (is_some x) (Removes ring_at ∷ []) []) e
    ring_same c d (Some o) t e = ap (λ x. cond (has_bytes x o.bytes) [] (Stores ring_at o.bytes t
        ∷ [])) e

    pub mend_same : (c d : Content) (names others : List Text) (t : ℕ → ℕ)
        → ((q : Text) → cond (is_manifest_outside f names (kind_of before q)) (fin.get c q) None
        ≡ cond (is_manifest_outside f others (kind_of before q)) (fin.get d q) None)
        → ((e : LatestKind) → fin.get c (at before (Latest f e))
        ≡ fin.get d (at before (Latest f e)))
        → ((n : Text) → FinishedByKind before c f n → ¬ (Contains names n)
        → fin.get c (at before (Meta f n meta_kind.Tokenmap))
        ≡ fin.get d (at before (Meta f n meta_kind.Tokenmap)))
        → changes_of_mend before c f names t ≡ changes_of_mend before d f others t
    mend_same c d names others t man lat ring = to (newest before c f names)
        (newest_outside before c f names) ∙ ap (λ a. mend_to before d f a t)
        (newest_same c d names others man)
      where
        to : (a : Option (ℕ × Text)) → IsAllOf (IsOutside before c f names) a
            → mend_to before c f a t ≡ mend_to before d f a t
        to None h = λ i. cond (is_some (lat latest_kind.Name i)) (Removes name_at ∷ []) []
            ++ cond (is_some (lat latest_kind.Tokenmap i)) (Removes ring_at ∷ []) []
        to (Some a) h =
            let rings : mend_tokenmap before c f
            (fin.get c (at before (Meta f a.1 meta_kind.Tokenmap))) (t 1)
            ≡ mend_tokenmap before d f (fin.get d (at before (Meta f a.1 meta_kind.Tokenmap)))
            (t 1) =
            ring_same c d (fin.get c (at before (Meta f a.1 meta_kind.Tokenmap))) (t 1)
            (lat latest_kind.Tokenmap) ∙ ap (λ o. mend_tokenmap before d f o (t 1))
            (ring a.1 h.0 h.1) in
            λ i. cond (has_bytes (lat latest_kind.Name i) a.1) [] (Stores name_at a.1 (t 0) ∷ [])
            ++ rings i

    -- at a path that isn't of a latest entry of f
    pub mend_other : (c : Content) (names : List Text) (t : ℕ → ℕ) (q : Text) → ((e : LatestKind)
        → (kind_of before q ≢ Latest f e)) → fin.get (applied (changes_of_mend before c f names t)
        c) q ≡ fin.get c q
    mend_other c names t q apart = get_elsewhere q (changes_of_mend before c f names t) c
        (mend_elsewhere before f node c names t q (λ k has is e. let here : kind_of before q
        ≡ k = ap (kind_of before) e ∙ has in
        ⊎_elim (λ x. apart latest_kind.Name (here ∙ x)) (λ x. apart latest_kind.Tokenmap (here ∙ x))
        is))

    pub mend_at : (c : Content) (names : List Text) (t : ℕ → ℕ) (k : Kind) → HasPath before k
        → ((e : LatestKind) → (k ≢ Latest f e))
        → fin.get (applied (changes_of_mend before c f names t) c) (at before k)
        ≡ fin.get c (at before k)
    mend_at c names t k has apart = mend_other c names t (at before k) (λ e is. apart e (sym has
        ∙ is))

    -- after a mend there is nothing to mend
    done_to : (c : Content) (a : Option (ℕ × Text)) (u t : ℕ → ℕ) → ((b : ℕ × Text) → a ≡ Some b
        → fin.get (applied (mend_to before c f a u) c) (at before (Meta f b.1 meta_kind.Tokenmap))
        ≡ fin.get c (at before (Meta f b.1 meta_kind.Tokenmap)))
        → mend_to before (applied (mend_to before c f a u) c) f a t ≡ []
    done_to c None u t ring =
        let first : List Effect = remove_if_stands c name_at in
        let second : List Effect = remove_if_stands c ring_at in
        let e : Content = applied (first ++ second) c in
        let d : Content = applied first c in
        let is : e ≡ applied second d = applied_append first second c in
        let name : fin.get e name_at ≡ None = ap (λ x. fin.get x name_at) is
        ∙ get_elsewhere name_at second d (if_elsewhere c ring_at name_at (λ x. ring_not_name
        (sym x))) ∙ after_delete c c name_at refl in
        let ring : fin.get e ring_at ≡ None = ap (λ x. fin.get x ring_at) is
        ∙ after_delete c d ring_at (get_elsewhere ring_at first c
        (if_elsewhere c name_at ring_at ring_not_name)) in
        λ i. delete_done e name_at name i ++ delete_done e ring_at ring i
    done_to c (Some a) u t ring =
        let first : List Effect = put_unless c name_at a.1 (u 0) in
        let second : List Effect = mend_tokenmap before c f
        (fin.get c (at before (Meta f a.1 meta_kind.Tokenmap))) (u 1) in
        let e : Content = applied (first ++ second) c in
        let d : Content = applied first c in
        let is : e ≡ applied second d = applied_append first second c in
        let name : bytes_in (fin.get e name_at) ≡ Some a.1 = ap (λ x. bytes_in (fin.get x name_at))
        is ∙ ap bytes_in (get_elsewhere name_at second d
        (ring_else (fin.get c (at before (Meta f a.1 meta_kind.Tokenmap)))))
        ∙ after_put c c name_at a.1 (u 0) refl in
        let same_ring : fin.get d ring_at ≡ fin.get c ring_at = get_elsewhere ring_at first c
        (unless_elsewhere c name_at a.1 ring_at (u 0) ring_not_name) in
        let rings : mend_tokenmap before e f (fin.get e (at before (Meta f a.1 meta_kind.Tokenmap)))
        (t 1) ≡ [] =
        ap (λ o. mend_tokenmap before e f o (t 1)) (ring a refl)
        ∙ ap (λ x. mend_tokenmap before x f
        (fin.get c (at before (Meta f a.1 meta_kind.Tokenmap))) (t 1)) is
        ∙ ring_done d (fin.get c (at before (Meta f a.1 meta_kind.Tokenmap))) same_ring in
        λ i. put_done e name_at a.1 (t 0) name i ++ rings i
      where
        ring_else : (o : Option Object) → AreElsewhere name_at (mend_tokenmap before c f o (u 1))
        ring_else None = if_elsewhere c ring_at name_at (λ x. ring_not_name (sym x))
        ring_else (Some o) = unless_elsewhere c ring_at o.bytes name_at (u 1) (λ x. ring_not_name
            (sym x))

        ring_done : (d : Content) (o : Option Object) → fin.get d ring_at ≡ fin.get c ring_at
            → mend_tokenmap before (applied (mend_tokenmap before c f o (u 1)) d) f o (t 1) ≡ []
        ring_done d None h = delete_done _ ring_at (after_delete c d ring_at h)
        ring_done d (Some o) h = put_done _ ring_at o.bytes (t 1) (after_put c d ring_at o.bytes
            (u 1) h)

    pub mend_done : (c : Content) (names : List Text) (u t : ℕ → ℕ) → changes_of_mend before
        (applied (changes_of_mend before c f names u) c) f names t ≡ []
    mend_done c names u t =
        let e : Content = applied (changes_of_mend before c f names u) c in
        ap (λ a. mend_to before e f a t) (newest_same e c names names
        (λ q. by q (is_manifest_outside f names (kind_of before q)) refl))
        ∙ done_to c (newest before c f names) u t
        (λ b is. ring b (all_at (IsOutside before c f names) (newest before c f names) b
        (newest_outside before c f names) is))
      where
        all_at : (P : ℕ × Text → Type 0) (o : Option (ℕ × Text)) (b : ℕ × Text) → IsAllOf P o → o
            ≡ Some b → P b
        all_at P None b h e = absurd (cc)
        all_at P (Some a) b h e = let is : a ≡ b = cc in subst P is h

        not_latest : (k : Kind) (e : LatestKind) → is_manifest_outside f names k ≡ true
            → (k ≢ Latest f e)
        not_latest k e h is = let x : is_manifest_outside f names (Latest f e)
            ≡ true = subst (λ z. is_manifest_outside f names z ≡ true) is h in cc

        by : (q : Text) (b : Bool) → is_manifest_outside f names (kind_of before q) ≡ b
            → cond b (fin.get (applied (changes_of_mend before c f names u) c) q) None
            ≡ cond b (fin.get c q) None
        by q true h = mend_other c names u q (λ e. not_latest (kind_of before q) e h)
        by q false h = refl

        ring : (b : ℕ × Text) → IsOutside before c f names b
            → fin.get (applied (changes_of_mend before c f names u) c)
            (at before (Meta f b.1 meta_kind.Tokenmap))
            ≡ fin.get c (at before (Meta f b.1 meta_kind.Tokenmap))
        ring b h = let (o, stands) = h.0 in mend_at c names u (Meta f b.1 meta_kind.Tokenmap)
            (folder before f b.1 meta_kind.Manifest meta_kind.Tokenmap stands.0) (λ e is. cc)

module _ (before : Text) (f : Text) (node : NodeByKind before f) where
  -- manifests by path and by name
  pub manifests_by_name : (c d : Content) (names : List Text)
      → ((n : Text) → HasPath before (Meta f n meta_kind.Manifest) → fin.get c (manifest before f n)
      ≡ fin.get d (manifest before f n))
      → (q : Text) → cond (is_manifest_outside f names (kind_of before q)) (fin.get c q) None
      ≡ cond (is_manifest_outside f names (kind_of before q)) (fin.get d q) None
  manifests_by_name c d names h q = by (kind_of before q) refl
    where
      at_is : (g n : Text) → kind_of before q ≡ Meta g n meta_kind.Manifest → (b : Bool)
          → is_manifest_outside f names (Meta g n meta_kind.Manifest) ≡ b
          → cond b (fin.get c q) None ≡ cond b (fin.get d q) None
      at_is g n e true is =
          let a : g ≡ f = from_same g f (and_first (bytes_eq g f)
          (not (list_any (bytes_eq n) names)) is) in
          let there : kind_of before q ≡ Meta f n meta_kind.Manifest = e
          ∙ ap (λ x. Meta x n meta_kind.Manifest) a in
          let here : q ≡ manifest before f n = manifest_path before q f n there in
          subst (λ x. fin.get c x ≡ fin.get d x) (sym here) (h n (ap (kind_of before) (sym here)
          ∙ there))
      at_is g n e false is = refl

      by : (k : Kind) → kind_of before q ≡ k → cond (is_manifest_outside f names k) (fin.get c q)
          None ≡ cond (is_manifest_outside f names k) (fin.get d q) None
      by (Meta g n meta_kind.Manifest) e = at_is g n e (is_manifest_outside f names
          (Meta g n meta_kind.Manifest)) refl
      by _ e = refl

  pub given_same : (c d : Content) (n : Text) (e : IndexKind)
      → ((k : MetaKind) → meta_in before c f n k ≡ meta_in before d f n k) → given before c f n e
      ≡ given before d f n e
  given_same c d n e h = λ i. given_by (h meta_kind.Schema i) (h meta_kind.Differential i)
      (h meta_kind.Tokenmap i) (h meta_kind.Manifest i) e
