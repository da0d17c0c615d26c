-- What stands for a root, a node and a tag once one more was added.
use Rattle.std.proofs.Common.{◌≡◌, ◌∙◌, ◌&&◌, Bool, true, false, cond, ℕ, List, [], ◌∷◌, ◌++◌, Option, Some, None, IfSome, refl, sym, ap}
use Rattle.std.specs.Option.{option_or}
use Rattle.std.proofs.lemmas.Slice.Eq.{bytes_eq-Decides}
use Rattle.med_outside.specs.Snapshot.{Snapshot}
use Rattle.med_mem.specs.Snaps.{Given, is_for, first_for, snapshot_with}

all_true : (a b c : Bool) → a ≡ true → b ≡ true → c ≡ true → ((a && b) && c) ≡ true
all_true a b c p q r = cc

each_true : (a b c : Bool) → ((a && b) && c) ≡ true → (a ≡ true) × (b ≡ true) × (c ≡ true)
each_true true true c e = (refl, refl, e)
each_true true false c e = absurd (cc)
each_true false b c e = absurd (cc)

stood_before : (b : Bool) (s : Snapshot) (o p : Option Snapshot)
    → cond b (Some s) (option_or o p) ≡ option_or (cond b (Some s) o) p
stood_before true s o p = refl
stood_before false s o p = refl

nothing_more : (o : Option Snapshot) → option_or o None ≡ o
nothing_more None = refl
nothing_more (Some s) = refl

module _ (root node tag : List ℕ) where
  abbrev IsOwn : Given → Type 0
  IsOwn g = (g.of.root ≡ root) × (g.of.node ≡ node) × (g.of.tag ≡ tag)

  is_for_own : (g : Given) → IsOwn g → is_for root node tag g ≡ true
  is_for_own g (r, n, t) =
      all_true _ _ _
      ((bytes_eq-Decides g.of.root root).1 r)
      ((bytes_eq-Decides g.of.node node).1 n)
      ((bytes_eq-Decides g.of.tag tag).1 t)

  own_parts : (g : Given) → is_for root node tag g ≡ true → IsOwn g
  own_parts g is =
      let parts = each_true _ _ _ is in (
        (bytes_eq-Decides g.of.root root).0 parts.0,
        (bytes_eq-Decides g.of.node node).0 parts.1,
        (bytes_eq-Decides g.of.tag tag).0 parts.2,
      )

  abbrev first : List Given → Option Snapshot
  first = first_for root node tag

  abbrev held : Given → Snapshot
  held g = snapshot_with g.parts

  abbrev own : Given → Option Snapshot
  own g = cond (is_for root node tag g) (Some (held g)) None

  first_more : (gs : List Given) (g : Given) → first (gs ++ g ∷ []) ≡ option_or (first gs) (own g)
  first_more [] g = refl
  first_more (h ∷ gs) g =
      ap (λ o. cond (is_for root node tag h) (Some (held h)) o) (first_more gs g)
      ∙ stood_before (is_for root node tag h) (held h) (first gs) (own g)

  -- where nothing was added before
  pub added_here : (gs : List Given) (g : Given) → IsOwn g
      → first gs ≡ None → first (gs ++ g ∷ []) ≡ Some (held g)
  added_here gs g is none =
      first_more gs g
      ∙ ap (λ o. option_or o (own g)) none
      ∙ ap (λ b. cond b (Some (held g)) None) (is_for_own g is)

  -- the first that was added counts
  pub added_before : (gs : List Given) (g : Given)
      → IfSome (first gs) (λ s. first (gs ++ g ∷ []) ≡ Some s)
  added_before gs g = go (first gs) (first_more gs g)
    where
      go : (o : Option Snapshot) → first (gs ++ g ∷ []) ≡ option_or o (own g)
          → IfSome o (λ s. first (gs ++ g ∷ []) ≡ Some s)
      go None e = tt
      go (Some s) e = e

  -- one that was added for others
  pub added_elsewhere : (gs : List Given) (g : Given)
      → ¬ ((root ≡ g.of.root) × (node ≡ g.of.node) × (tag ≡ g.of.tag))
      → first (gs ++ g ∷ []) ≡ first gs
  added_elsewhere gs g other = go (is_for root node tag g) refl
    where
      go : (b : Bool) → is_for root node tag g ≡ b → first (gs ++ g ∷ []) ≡ first gs
      go true is =
          let parts = own_parts g is in
          absurd (other (sym parts.0, sym parts.1, sym parts.2))
      go false is =
          first_more gs g
          ∙ ap (λ b. option_or (first gs) (cond b (Some (held g)) None)) is
          ∙ nothing_more (first gs)
