-- The changes of a mend and of a rebuild fit.
use Rattle.std.proofs.Common.{◌≡◌, ◌≢◌, ℕ, Bool, true, false, cond, not, List, [], ◌∷◌, ◌++◌, filter, Some, None, Option, refl, sym, ◌∙◌, ap, subst, All, Contains, is_some, ⊎_elim, bytes_eq}
use Rattle.std.specs.List.{AllByRecursion, list_any}
use Rattle.std.proofs.lemmas.List.Elements.{All-head, All-tail}
use Rattle.std.specs.FinMap as fin
use Rattle.med_base.specs.declared.layout.MetaKind.TheVariants as meta_kind
use Rattle.med_base.specs.declared.kinds.IndexKind.TheVariants as index_kind
use Rattle.med_base.specs.declared.kinds.LatestKind.TheVariants as latest_kind
use Rattle.med_base.specs.Classify.{kind_of}
use Rattle.med_base.specs.Content.{Content, Object}
use Rattle.med_base.specs.Effects.{Effect, Removes, Stores, applied, made}
use Rattle.med_base.specs.Kinds.{Entry, Kind, Latest, Meta}
use Rattle.med_core.proofs.Lists.{AreQuiet, FitsAll, IsPlain, IsQuiet, all_quiet_fit, entry_put, finished_put, fits_join, latest_put, quiet_at, quiet_deletes, quiet_elsewhere, quiet_fits}
use Rattle.med_core.proofs.Steps.{Fits, MayPut}
use Rattle.med_manifest.proofs.ByKind.{FinishedByKind, HasPath, IsProper, NodeByKind, StandsByKind, Text, at, manifest, only}
use Rattle.med_manifest.proofs.Elsewhere.{AreElsewhere, applied_append, get_elsewhere}
use Rattle.med_manifest.proofs.Gets.{from_same, get_delete_same, get_put_other, get_put_same}
use Rattle.med_manifest.proofs.IndexByKind.{IsGivenAs, put_given, rebuild_list}
use Rattle.med_manifest.proofs.Members.{IsListed, all_filtered, all_listed}
use Rattle.med_manifest.proofs.Newest.{IsAllOf, IsOutside, latest_elsewhere, mend_elsewhere, newest_outside}
use Rattle.med_manifest.specs.Index.{given}
use Rattle.med_manifest.specs.Listed.{paths_of, remove_if_stands, removes}
use Rattle.med_manifest.specs.Mend.{changes_of_mend, has_bytes, mend_to, mend_tokenmap, newest, put_unless}
use Rattle.med_manifest.specs.Rebuild.{is_entry_of_node}

module _ (before : Text) where
  module _ (f : Text) (node : NodeByKind before f) where
    ring_quiet : (c : Content) (o : Option Object) (t : ℕ) → AreQuiet before
        (mend_tokenmap before c f o t)
    ring_quiet c None t = go (fin.contains_key c (at before (Latest f latest_kind.Tokenmap)))
      where
        go : (b : Bool) → AreQuiet before
            (cond b (Removes (at before (Latest f latest_kind.Tokenmap)) ∷ []) [])
        go true = (subst IsQuiet (sym (node.latest latest_kind.Tokenmap)) tt, tt)
        go false = tt
    ring_quiet c (Some o) t = go (has_bytes (fin.get c (at before (Latest f latest_kind.Tokenmap)))
        o.bytes)
      where
        go : (b : Bool) → AreQuiet before
            (cond b [] (Stores (at before (Latest f latest_kind.Tokenmap)) o.bytes t ∷ []))
        go true = tt
        go false = (
          quiet_at before (Latest f latest_kind.Tokenmap)
              (node.latest latest_kind.Tokenmap) tt,
          tt,
        )

    ring_elsewhere : (c : Content) (o : Option Object) (t : ℕ)
        → AreElsewhere (at before (Latest f latest_kind.Name)) (mend_tokenmap before c f o t)
    ring_elsewhere c None t = go (fin.contains_key c (at before (Latest f latest_kind.Tokenmap)))
      where
        go : (b : Bool) → AreElsewhere (at before (Latest f latest_kind.Name))
            (cond b (Removes (at before (Latest f latest_kind.Tokenmap)) ∷ []) [])
        go true = (
          latest_elsewhere before f (Latest f latest_kind.Tokenmap)
              (node.latest latest_kind.Name) (node.latest latest_kind.Tokenmap) (λ e. cc),
          tt,
        )
        go false = tt
    ring_elsewhere c (Some o) t = go
        (has_bytes (fin.get c (at before (Latest f latest_kind.Tokenmap))) o.bytes)
      where
        go : (b : Bool) → AreElsewhere (at before (Latest f latest_kind.Name))
            (cond b [] (Stores (at before (Latest f latest_kind.Tokenmap)) o.bytes t ∷ []))
        go true = tt
        go false = (
          latest_elsewhere before f (Latest f latest_kind.Tokenmap)
              (node.latest latest_kind.Name) (node.latest latest_kind.Tokenmap) (λ e. cc),
          tt,
        )

    name_fits : (R : Text → Text → Type 0) (c : Content) (n : Text) (t : ℕ)
        → FinishedByKind before c f n → FitsAll before c R
        (put_unless c (at before (Latest f latest_kind.Name)) n t)
    name_fits R c n t done = go (has_bytes (fin.get c (at before (Latest f latest_kind.Name))) n)
      where
        go : (b : Bool) → FitsAll before c R
            (cond b [] (Stores (at before (Latest f latest_kind.Name)) n t ∷ []))
        go true = tt
        go false = (latest_put before c R f n (node.latest latest_kind.Name) done, tt)

    to_fits : (R : Text → Text → Type 0) (c : Content) (names : List Text) (a : Option (ℕ × Text))
        (t : ℕ → ℕ) → IsAllOf (IsOutside before c f names) a → FitsAll before c R
        (mend_to before c f a t)
    to_fits R c names None t h = all_quiet_fit before c R _
        (go (fin.contains_key c (at before (Latest f latest_kind.Name))))
      where
        go : (b : Bool) → AreQuiet before (cond b (Removes (at before (Latest f latest_kind.Name))
            ∷ []) [] ++ remove_if_stands c (at before (Latest f latest_kind.Tokenmap)))
        go true = (subst IsQuiet (sym (node.latest latest_kind.Name)) tt, ring_quiet c None 0)
        go false = ring_quiet c None 0
    to_fits R c names (Some a) t h = fits_join before R
        (put_unless c (at before (Latest f latest_kind.Name)) a.1 (t 0)) _ c
        (name_fits R c a.1 (t 0) h.0) (all_quiet_fit before _ R _
        (ring_quiet c (fin.get c (at before (Meta f a.1 meta_kind.Tokenmap))) (t 1)))

    pub mend_fits : (R : Text → Text → Type 0) (c : Content) (names : List Text) (t : ℕ → ℕ)
        → FitsAll before c R (changes_of_mend before c f names t)
    mend_fits R c names t = to_fits R c names (newest before c f names) t
        (newest_outside before c f names)

    -- the name that stands afterwards
    name_put : (c : Content) (n : Text) (t : ℕ) (o : Object)
        → fin.get (applied (put_unless c (at before (Latest f latest_kind.Name)) n t) c)
        (at before (Latest f latest_kind.Name)) ≡ Some o → o.bytes ≡ n
    name_put c n t o e = go (fin.get c (at before (Latest f latest_kind.Name))) refl e
      where
        by : (x : Object) (b : Bool) → fin.get c (at before (Latest f latest_kind.Name)) ≡ Some x
            → bytes_eq x.bytes n ≡ b
            → fin.get (applied (cond b [] (Stores (at before (Latest f latest_kind.Name)) n t ∷ []))
            c) (at before (Latest f latest_kind.Name)) ≡ Some o → o.bytes ≡ n
        by x true is holds there = let one : x ≡ o = cc in ap (λ y. y.bytes) (sym one)
            ∙ from_same x.bytes n holds
        by x false is fails there = let one : o ≡ record { bytes = n; second = t } = cc
            (there, get_put_same c (at before (Latest f latest_kind.Name)) n t) in
            ap (λ y. y.bytes) one

        go : (x : Option Object) → fin.get c (at before (Latest f latest_kind.Name)) ≡ x
            → fin.get
            (applied (cond (has_bytes x n) [] (Stores (at before (Latest f latest_kind.Name)) n t
            ∷ [])) c) (at before (Latest f latest_kind.Name)) ≡ Some o → o.bytes ≡ n
        go None is there = let one : o ≡ record { bytes = n; second = t } = cc
            (there, get_put_same c (at before (Latest f latest_kind.Name)) n t) in
            ap (λ y. y.bytes) one
        go (Some x) is there = by x (bytes_eq x.bytes n) is refl there

    gone_if : (c : Content) (q : Text) → fin.get (applied (remove_if_stands c q) c) q ≡ None
    gone_if c q = go (fin.get c q) refl
      where
        go : (o : Option Object) → fin.get c q ≡ o
            → fin.get (applied (cond (is_some o) (Removes q ∷ []) []) c) q ≡ None
        go None e = e
        go (Some o) e = get_delete_same c q

    mended_to : (c : Content) (names : List Text) (a : Option (ℕ × Text)) (t : ℕ → ℕ)
        → IsAllOf (IsOutside before c f names) a → (o : Object)
        → fin.get (applied (mend_to before c f a t) c) (at before (Latest f latest_kind.Name))
        ≡ Some o → ¬ (Contains names o.bytes)
    mended_to c names None t h o e =
        let first : List Effect = remove_if_stands c (at before (Latest f latest_kind.Name)) in
        let none : fin.get
        (applied (first ++ remove_if_stands c (at before (Latest f latest_kind.Tokenmap))) c)
        (at before (Latest f latest_kind.Name)) ≡ None =
        ap (λ x. fin.get x (at before (Latest f latest_kind.Name))) (applied_append first
        (remove_if_stands c (at before (Latest f latest_kind.Tokenmap))) c)
        ∙ get_elsewhere (at before (Latest f latest_kind.Name)) (remove_if_stands c
        (at before (Latest f latest_kind.Tokenmap))) (applied first c) (ring_elsewhere c None 0)
        ∙ gone_if c (at before (Latest f latest_kind.Name)) in
        absurd (cc)
    mended_to c names (Some a) t h o e =
        let first : List Effect = put_unless c (at before (Latest f latest_kind.Name)) a.1 (t 0) in
        let rest : List Effect = mend_tokenmap before c f
        (fin.get c (at before (Meta f a.1 meta_kind.Tokenmap))) (t 1) in
        let there : fin.get (applied first c) (at before (Latest f latest_kind.Name)) ≡ Some o =
        sym (ap (λ x. fin.get x (at before (Latest f latest_kind.Name)))
        (applied_append first rest c) ∙ get_elsewhere (at before (Latest f latest_kind.Name))
        rest (applied first c) (ring_elsewhere c _ (t 1))) ∙ e in
        subst (λ n. ¬ (Contains names n)) (sym (name_put c a.1 (t 0) o there)) h.1

    pub mended : (c : Content) (names : List Text) (t : ℕ → ℕ) (o : Object)
        → fin.get (applied (changes_of_mend before c f names t) c)
        (at before (Latest f latest_kind.Name)) ≡ Some o → ¬ (Contains names o.bytes)
    mended c names t = mended_to c names (newest before c f names) t
        (newest_outside before c f names)

    -- rebuild
    given_put : (R : Text → Text → Type 0) (c d : Content) (p b : Text) (k : Kind)
        → kind_of before p ≡ k → IsGivenAs before c f b k
        → ((n : Text) → HasPath before (Meta f n meta_kind.Manifest)
        → fin.get d (manifest before f n) ≡ fin.get c (manifest before f n)) → (s : ℕ)
        → Fits before d R (Stores p b s)
    given_put R c d p b (Entry g n index_kind.Manifest) e (here_at, (o, (has, there), is)) stays s =
        let here : p ≡ at before (Entry g n index_kind.Manifest) = only before p
        (subst IsProper (sym e) tt) ∙ ap (at before) e in
        subst (λ q. MayPut before d R q b) (sym here) (entry_put before d R g n b o
        (ap (kind_of before) (sym here) ∙ e)
        (subst (λ h. StandsByKind before d (Meta h n meta_kind.Manifest) o) (sym here_at)
        (has, stays n has ∙ there)) is)
    given_put R c d p b (Entry g n (index_kind.Finished t)) e (here_at, (o, (has, there), is)) stays
        s =
        let here : p ≡ at before (Entry g n (index_kind.Finished t)) = only before p
        (subst IsProper (sym e) tt) ∙ ap (at before) e in
        subst (λ q. MayPut before d R q b) (sym here) (finished_put before d R g n b t o
        (ap (kind_of before) (sym here) ∙ e)
        (subst (λ h. StandsByKind before d (Meta h n meta_kind.Manifest) o) (sym here_at)
        (has, stays n has ∙ there)) is)
    given_put R c d p b (Entry g n x) e h stays s = quiet_fits before d R (Stores p b s)
        (subst IsPlain (sym e) tt)
    given_put R c d p b _ e h stays s = absurd h

    given_apart : (c : Content) (p b : Text) (k : Kind) → kind_of before p ≡ k
        → IsGivenAs before c f b k → (n : Text) → HasPath before (Meta f n meta_kind.Manifest)
        → (manifest before f n ≢ p)
    given_apart c p b (Entry g m x) e h n has is = let both : Entry g m x
        ≡ Meta f n meta_kind.Manifest = sym e ∙ ap (kind_of before) (sym is) ∙ has in cc
    given_apart c p b _ e h n has is = absurd h

    puts_fit : (R : Text → Text → Type 0) (c : Content) (u : Text → ℕ) (given : List (Text × Text))
        (d : Content) → All (λ e. IsGivenAs before c f e.1 (kind_of before e.0)) given
        → ((n : Text) → HasPath before (Meta f n meta_kind.Manifest)
        → fin.get d (manifest before f n) ≡ fin.get c (manifest before f n))
        → FitsAll before d R (put_given c given u)
    puts_fit R c u [] d h stays = tt
    puts_fit R c u (e ∷ rest) d h stays = go (has_bytes (fin.get c e.0) e.1)
        (λ x. puts_fit R c u rest x (All-tail (λ a. IsGivenAs before c f a.1 (kind_of before a.0)) e
        rest h))
      where
        first : IsGivenAs before c f e.1 (kind_of before e.0)
        first = All-head (λ a. IsGivenAs before c f a.1 (kind_of before a.0)) e rest h

        go : (b : Bool)
            → ((x : Content) → ((n : Text) → HasPath before (Meta f n meta_kind.Manifest)
            → fin.get x (manifest before f n) ≡ fin.get c (manifest before f n))
            → FitsAll before x R (put_given c rest u))
            → FitsAll before d R (cond b [] (Stores e.0 e.1 (u e.0) ∷ []) ++ put_given c rest u)
        go true more = more d stays
        go false more = (
          given_put R c d e.0 e.1 (kind_of before e.0) refl first stays (u e.0),
          more (made (Stores e.0 e.1 (u e.0)) d) (λ n has. get_put_other d e.0 e.1 (u e.0)
              (manifest before f n) (given_apart c e.0 e.1 (kind_of before e.0) refl first n has)
              ∙ stays n has),
        )

    entries_quiet : (test : Text → Bool) (c : Content)
        → AllByRecursion (λ p. IsQuiet (kind_of before p))
        (filter test (paths_of before c (is_entry_of_node f)))
    entries_quiet test c = all_filtered (IsListed before c (is_entry_of_node f))
        (λ p. IsQuiet (kind_of before p)) test (λ p e h. quiet (kind_of before p) h.0)
        (paths_of before c (is_entry_of_node f)) (all_listed before c (is_entry_of_node f))
      where
        quiet : (k : Kind) → is_entry_of_node f k ≡ true → IsQuiet k
        quiet (Entry g n x) e = tt
        quiet _ e = absurd (cc)

    pub rebuild_fits : (R : Text → Text → Type 0) (c : Content) (given : List (Text × Text)) (t : ℕ
        → ℕ) (u : Text → ℕ) → All (λ e. IsGivenAs before c f e.1 (kind_of before e.0)) given
        → FitsAll before c R (rebuild_list before c f given t u)
    rebuild_fits R c given t u h =
        let first : List Effect = changes_of_mend before c f [] t in
        let test : Text → Bool = λ p. not (list_any (λ (e : Text × Text). bytes_eq p e.0) given) in
        let second : List Effect = removes (filter test (paths_of before c (is_entry_of_node f))) in
        let quiet : AreQuiet before second = quiet_deletes before _ (entries_quiet test c) in
        let d : Content = applied first c in
        fits_join before R first (second ++ put_given c given u) c (mend_fits R c [] t)
        (fits_join before R second (put_given c given u) d (all_quiet_fit before d R second
        quiet)
        (puts_fit R c u given (applied second d) h (λ n has. get_elsewhere (manifest before f n)
        second d (quiet_elsewhere before f n has second quiet)
        ∙ get_elsewhere (manifest before f n) first c (mend_elsewhere before f node c [] t
        (manifest before f n) (λ k there is e. let both : k ≡ Meta f n meta_kind.Manifest =
        sym there ∙ ap (kind_of before) (sym e) ∙ has in
        ⊎_elim (λ a. cc (a, both)) (λ a. cc (a, both)) is)))))
