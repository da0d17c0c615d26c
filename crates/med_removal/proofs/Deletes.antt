-- Deletes that are made one after another.
use Rattle.std.proofs.Common.{◌≡◌, ◌≤◌, ◌∙◌, ◌++◌, ◌∷◌, [], ℕ, List, Option, Some, None, length, sym, ap, subst, arith}
use Rattle.std.proofs.lemmas.List.{map-append}
use Rattle.std.proofs.lemmas.Option.{same_Some}
use Rattle.med_base.specs.Effects.{Effect, Removes}
use Rattle.med_manifest.specs.Listed.{removes}
use Rattle.med_outside.specs.declared.trace.Trace.{Trace}
use Rattle.med_outside.specs.Makes.{Makes}
use Rattle.med_outside.specs.State.{FallsByOne, History, State}
use Rattle.med_outside.proofs.Making.{cut_short, in_turn, told_as}

module _ (fine fault : Type 0) (done : List (List ℕ)) (p : List ℕ) (s0 s1 s2 : State)
    (p0 p1 p2 : History) (t0 t1 t2 : Trace)
    (before : Makes (Unit {0}) ⊥ (removes done) s0 s1 p0 p1 t0 t1)
    (one : Makes fine fault (Removes p ∷ []) s1 s2 p1 p2 t1 t2) where
  -- one more was made
  pub removed_more : fine → (fault → ⊥)
      → Makes (Unit {0}) ⊥ (removes (done ++ p ∷ [])) s0 s2 p0 p2 t0 t2
  removed_more is never =
      subst (λ (xs : List Effect). Makes (Unit {0}) ⊥ xs s0 s2 p0 p2 t0 t2)
      (sym (map-append (λ (q : List ℕ). Removes q) done (p ∷ [])))
      (in_turn (Unit {0}) ⊥ (Unit {0}) ⊥ (removes done) (Removes p ∷ []) s0 s1 s2 p0 p1 p2 t0 t1 t2
      tt before
      (told_as fine fault (Unit {0}) ⊥ (Removes p ∷ []) s1 s2 p1 p2 t1 t2 (λ u. is) never one))

  -- one wasn't, and the rest neither
  pub removed_cut : (fine' fault' : Type 0) (all rest : List (List ℕ)) → all ≡ done ++ p ∷ rest
      → (fine' → ⊥) → (fault → fault') → Makes fine' fault' (removes all) s0 s2 p0 p2 t0 t2
  removed_cut fine' fault' all rest whole not_fine blames =
      subst (λ (xs : List Effect). Makes fine' fault' xs s0 s2 p0 p2 t0 t2)
      (sym (map-append (λ (q : List ℕ). Removes q) done (p ∷ rest)) ∙ ap removes (sym whole))
      (in_turn (Unit {0}) ⊥ fine' fault' (removes done) (Removes p ∷ removes rest) s0 s1 s2 p0 p1 p2
      t0 t1 t2 tt before
      (cut_short fine fault fine' fault' (Removes p ∷ []) (removes rest) s1 s2 p1 p2 t1 t2 not_fine
      blames one))

-- ---- the room of the storage

-- so much room is left, for these paths
abbrev HasRoom : Option ℕ → List (List ℕ) → Type 0
HasRoom room ps = (left : ℕ) × (room ≡ Some left) × (length ps ≤ left)

pub room_falls : (room now : Option ℕ) (ps : List (List ℕ)) (p : List ℕ) (rest : List (List ℕ))
    → ps ≡ p ∷ rest → FallsByOne room now → HasRoom room ps → HasRoom now rest
room_falls None now ps p rest is falls (left, none, fits) = absurd (cc none)
room_falls (Some before) now ps p rest is (n, now_is, less, more) (left, same, fits) =
    let size = ap length is in
    let level = same_Some before left same in
    (n, now_is, omega (arith, size, level, fits, more))

pub no_room : (room : Option ℕ) (ps : List (List ℕ)) (p : List ℕ) (rest : List (List ℕ))
    → ps ≡ p ∷ rest → ((size : ℕ) → room ≡ Some size → size ≡ 0) → HasRoom room ps → ⊥
no_room room ps p rest is none (left, same, fits) =
    let size = ap length is in
    let zero = none left same in
    omega (arith, size, zero, fits)
