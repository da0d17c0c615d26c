-- What a list of changes that is being made says of each moment: a first part of it was made.
use Rattle.std.proofs.Common.{◌≡◌, ◌⊎◌, inl, inr, ◌≤◌, ◌+◌, ℕ, Bool, true, false, List, [], ◌∷◌, ◌++◌, Option, Some, None, refl, sym, ap, ◌∙◌, arith, append_assoc, append-nil, subst}
use Rattle.med_base.specs.Content.{Content}
use Rattle.med_base.specs.Effects.{Effect, made, applied, after_all, IsMoment}
use Rattle.med_outside.specs.State.{State, History}
use Rattle.med_outside.specs.Makes.{Last, Sure, Unsure, tried, took, Makes}
use Rattle.med_outside.specs.declared.trace.Trace.{Trace}

-- it holds at each moment of the list
abbrev pub Along : (Content → Type 0) → Content → List Effect → Type 0
Along P c [] = P c
Along P c (x ∷ xs) = P c × Along P (made x c) xs

along_at : (P : Content → Type 0) (xs ys : List Effect) (c : Content) → Along P c (xs ++ ys)
    → P (applied xs c)
along_at P [] [] c all = all
along_at P [] (y ∷ ys) c all = all.0
along_at P (x ∷ xs) ys c all = along_at P xs ys (made x c) all.1

pub along_front : (P : Content → Type 0) (xs ys : List Effect) (c : Content)
    → Along P c (xs ++ ys) → Along P c xs
along_front P [] [] c all = all
along_front P [] (y ∷ ys) c all = all.0
along_front P (x ∷ xs) ys c all = (all.0, along_front P xs ys (made x c) all.1)

pub along_moment : (P : Content → Type 0) (xs : List Effect) (c d : Content) → Along P c xs
    → IsMoment xs (Some c) d → P d
along_moment P xs c d all m =
    let here : P (applied m.first c) = along_at P m.first m.later c (rw m.split at all) in
    let same : applied m.first c ≡ d = cc m.held in
    subst P same here

-- what took effect is a first part of the list
pub effects_front : (done : List Effect) (last : Last) (rest : List Effect)
    → (ys : List Effect) × (done ++ (tried last ++ rest) ≡ (done ++ took last) ++ ys)
effects_front done Sure rest = (rest, sym (append_assoc done [] rest))
effects_front done (Unsure x true) rest = (rest, sym (append_assoc done (x ∷ []) rest))
effects_front done (Unsure x false) rest = (x ∷ rest, sym (append_assoc done [] (x ∷ rest)))

module _ (fine fault : Type 0) (xs : List Effect) (s0 s1 : State) (p0 p1 : History)
    (t0 t1 : Trace) (m : Makes fine fault xs s0 s1 p0 p1 t0 t1) where
  -- whatever the answer is, a first part was made
  pub prefix_made : (front : List Effect) × (ys : List Effect) × (xs ≡ front ++ ys)
      × (s1.content ≡ after_all front s0.content)
  prefix_made =
      let (ys, cut) = effects_front m.done m.last m.rest in
      (m.done ++ took m.last, ys, m.split ∙ cut, m.moves.passes.content)

  -- each content that stood since the call began is the old one with a first part made
  pub stood_is_moment : (only : (c : Content) → p0 s0.step s0.step c → s0.content ≡ Some c)
      (c : Content) → p1 s0.step s1.step c → IsMoment xs s0.content c
  stood_is_moment only c stood = elim (m.moves.passes.moments s0.step c (omega arith) stood) [
    | inl before ↦ record {
      first = [];
      later = xs;
      split = refl;
      held = ap (after_all []) (only c before);
    }
    | inr at ↦ more c at
  ]
    where
      more : (c : Content) → IsMoment (m.done ++ took m.last) s0.content c
          → IsMoment xs s0.content c
      more c at =
          let (ys, cut) = effects_front m.done m.last m.rest in
          record {
            first = at.first;
            later = at.later ++ ys;
            split = m.split ∙ cut ∙ ap (λ l. l ++ ys) at.split
                ∙ append_assoc at.first at.later ys;
            held = at.held;
          }

  -- what holds along the whole list held at each moment of the call
  pub held_throughout : (P : Content → Type 0) (c0 : Content) → s0.content ≡ Some c0
      → Along P c0 xs → (only : (c : Content) → p0 s0.step s0.step c → s0.content ≡ Some c)
      (c : Content) → p1 s0.step s1.step c → P c
  held_throughout P c0 told all only c stood =
      along_moment P xs c0 c all (rw told at (stood_is_moment only c stood))
