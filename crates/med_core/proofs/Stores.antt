-- A section of one node, in a store of many.
use Rattle.std.proofs.Common.{◌≡◌, ◌≢◌, Bool, true, false, cond, List, [], ◌∷◌, ◌++◌, Some, None, Option, refl, sym, ◌∙◌, ap, subst, append_assoc, inl, inr}
use Rattle.std.specs.Cmp.Lexicographic.{nat_list_cmp_total}
use Rattle.std.specs.FinMap as fin
use Rattle.med_base.specs.Classify.{kind_of}
use Rattle.med_base.specs.Content.{Content, Object}
use Rattle.med_base.specs.Effects.{Effect, Removes, Stores, applied, made}
use Rattle.med_base.specs.Kinds.{Entry, Kind, Latest, Meta, Own, Shared, Stray}
use Rattle.med_core.proofs.Sections.{AreOwned, BegunByKind, SectionByKind, is_owned, part}
use Rattle.med_core.proofs.Totals.{front_total, list_total, total_owned}
use Rattle.med_core.specs.Run.{effects, effects_of, next_content}
use Rattle.med_core.specs.Section.{Call, Done, Ending, Event, Halted, Refused, Running, Stopped, Unsure}
use Rattle.med_manifest.proofs.ByKind.{NodeByKind, Text}
use Rattle.med_manifest.proofs.Gets.{cmp_same, from_cmp, from_same, target}
use Rattle.med_manifest.proofs.Members.{get_kept}

front : (before : Text) (f : Text) (xs ys : List Effect) → AreOwned before f (xs ++ ys)
    → AreOwned before f xs
front before f [] ys h = tt
front before f (x ∷ xs) ys h = (h.0, front before f xs ys h.1)

owner_one : (f g : Text) (k : Kind) → is_owned f k ≡ true → is_owned g k ≡ true → f ≡ g
owner_one f g (Shared h x) a b = sym (from_same h f a) ∙ from_same h g b
owner_one f g (Own h n x) a b = sym (from_same h f a) ∙ from_same h g b
owner_one f g (Meta h n x) a b = sym (from_same h f a) ∙ from_same h g b
owner_one f g (Entry h n x) a b = sym (from_same h f a) ∙ from_same h g b
owner_one f g (Latest h x) a b = sym (from_same h f a) ∙ from_same h g b
owner_one f g (Stray h x) a b = sym (from_same h f a) ∙ from_same h g b
owner_one f g _ a b = absurd (cc)

not_owned : (f g : Text) (k : Kind) → (f ≢ g) → is_owned f k ≡ true → is_owned g k ≡ false
not_owned f g k apart a = go (is_owned g k) refl
  where
    go : (b : Bool) → is_owned g k ≡ b → b ≡ false
    go true e = absurd (apart (owner_one f g k a e))
    go false e = refl

module _ (before : Text) (g : Text) where
  made_other : (x : Effect) (c : Content) → is_owned g (kind_of before (target x)) ≡ false
      → part before g (made x c) ≡ part before g c
  made_other x c none = fin.same_map nat_list_cmp_total
      (fin.slice_cmp-IsAntisymmetric fin.nat_cmp-IsAntisymmetric) _ _ (λ q. get_kept (made x c)
      (λ p. is_owned g (kind_of before p)) q ∙ by x none q (cmp_same q (target x)) refl
      ∙ sym (get_kept c (λ p. is_owned g (kind_of before p)) q))
    where
      out : (p q : Text) (o y : Option Object) → is_owned g (kind_of before p) ≡ false
          → cmp_same q p ≡ true → cond (is_owned g (kind_of before q)) o None
          ≡ cond (is_owned g (kind_of before q)) y None
      out p q o y no_owner is = let here : is_owned g (kind_of before q)
          ≡ false = ap (λ z. is_owned g (kind_of before z)) (from_cmp q p is) ∙ no_owner in
          ap (λ b. cond b o None) here ∙ sym (ap (λ b. cond b y None) here)

      by : (x : Effect) → is_owned g (kind_of before (target x)) ≡ false → (q : Text) (b : Bool)
          → cmp_same q (target x) ≡ b → cond (is_owned g (kind_of before q)) (fin.get (made x c) q)
          None ≡ cond (is_owned g (kind_of before q)) (fin.get c q) None
      by (Stores p t s) no_owner q true is = out p q _ _ no_owner is
      by (Stores p t s) no_owner q false is = ap (λ o. cond (is_owned g (kind_of before q)) o None)
          (fin.get-insert nat_list_cmp_total c p _ q
          ∙ ap (λ b. cond b (Some (record { bytes = t; second = s })) (fin.get c q)) is)
      by (Removes p) no_owner q true is = out p q _ _ no_owner is
      by (Removes p) no_owner q false is = ap (λ o. cond (is_owned g (kind_of before q)) o None)
          (fin.get-remove nat_list_cmp_total c p q ∙ ap (λ b. cond b None (fin.get c q)) is)

  applied_other : (f : Text) → (f ≢ g) → (xs : List Effect) (c : Content) → AreOwned before f xs
      → part before g (applied xs c) ≡ part before g c
  applied_other f apart [] c h = refl
  applied_other f apart (x ∷ xs) c h = applied_other f apart xs (made x c) h.1
      ∙ made_other x c (not_owned f g (kind_of before (target x)) apart h.0)

module _ (before : Text) where
  part_made : (f : Text) (x : Effect) (c : Content) → is_owned f (kind_of before (target x)) ≡ true
      → part before f (made x c) ≡ made x (part before f c)
  part_made f (Stores p b s) c own = fin.same_map nat_list_cmp_total
      (fin.slice_cmp-IsAntisymmetric fin.nat_cmp-IsAntisymmetric) _ _
      (λ q. get_kept (fin.insert c p (record { bytes = b; second = s }))
      (λ p. is_owned f (kind_of before p)) q
      ∙ ap (λ x. cond (is_owned f (kind_of before q)) x None) (fin.get-insert nat_list_cmp_total c p
      (record { bytes = b; second = s }) q) ∙ by q (cmp_same q p) refl
      ∙ ap (cond (cmp_same q p) (Some (record { bytes = b; second = s })))
      (sym (get_kept c (λ p. is_owned f (kind_of before p)) q))
      ∙ sym (fin.get-insert nat_list_cmp_total (part before f c) p
      (record { bytes = b; second = s }) q))
    where
      by : (q : Text) (y : Bool) → cmp_same q p ≡ y → cond (is_owned f (kind_of before q))
          (cond y (Some (record { bytes = b; second = s })) (fin.get c q)) None
          ≡ cond y (Some (record { bytes = b; second = s })) (cond (is_owned f (kind_of before q))
          (fin.get c q) None)
      by q true is = ap (λ z. cond z (Some (record { bytes = b; second = s })) None)
          (ap (λ z. is_owned f (kind_of before z)) (from_cmp q p is) ∙ own)
      by q false is = refl
  part_made f (Removes p) c own = fin.same_map nat_list_cmp_total
      (fin.slice_cmp-IsAntisymmetric fin.nat_cmp-IsAntisymmetric) _ _
      (λ q. get_kept (fin.remove c p) (λ p. is_owned f (kind_of before p)) q
      ∙ ap (λ x. cond (is_owned f (kind_of before q)) x None) (fin.get-remove nat_list_cmp_total c p
      q) ∙ by (is_owned f (kind_of before q)) (cmp_same q p) (fin.get c q)
      ∙ ap (cond (cmp_same q p) None) (sym (get_kept c (λ p. is_owned f (kind_of before p)) q))
      ∙ sym (fin.get-remove nat_list_cmp_total (part before f c) p q))
    where
      by : (x y : Bool) (o : Option Object) → cond x (cond y None o) None
          ≡ cond y None (cond x o None)
      by true y o = refl
      by false true o = refl
      by false false o = refl

  pub part_applied : (f : Text) (xs : List Effect) (c : Content) → AreOwned before f xs
      → part before f (applied xs c) ≡ applied xs (part before f c)
  part_applied f [] c h = refl
  part_applied f (x ∷ xs) c h = part_applied f xs (made x c) h.1 ∙ ap (applied xs)
      (part_made f x c h.0)

module _ (before : Text) (r : Running) where
  effects_owned : (d : Content) (f : Text) → NodeByKind before f → (call : Call) (end : Ending)
      (xs : List Effect) → BegunByKind before d r f call end xs → AreOwned before f
      (effects_of end xs)
  effects_owned d f node call Done xs h = total_owned before f call xs
      (list_total before d r f node call xs h)
  effects_owned d f node call (Refused why) xs h = subst (AreOwned before f) (sym h) tt
  effects_owned d f node call (Halted by) xs (inl none) = subst (AreOwned before f) (sym none) tt
  effects_owned d f node call (Halted by) xs (inr (rest, h)) = front before f xs rest
      (total_owned before f call (xs ++ rest) (front_total before d r f node call (xs ++ rest) h))
  effects_owned d f node call Stopped xs (inl none) = subst (AreOwned before f) (sym none) tt
  effects_owned d f node call Stopped xs (inr (rest, h)) = front before f xs rest
      (total_owned before f call (xs ++ rest) (front_total before d r f node call (xs ++ rest) h))
  effects_owned d f node call (Unsure x false) xs (rest, h) = front before f xs (x ∷ rest)
      (total_owned before f call (xs ++ x ∷ rest) (front_total before d r f node call (xs ++ x
      ∷ rest) h))
  effects_owned d f node call (Unsure x true) xs (rest, h) = front before f (xs ++ x ∷ []) rest
      (subst (AreOwned before f) (sym (append_assoc xs (x ∷ []) rest)) (total_owned before f call
      (xs ++ x ∷ rest) (front_total before d r f node call (xs ++ x ∷ rest) h)))

  -- the node's part goes on as the section says, all others stay
  pub section_part : (c : Content) (v : Event) → NodeByKind before v.node → SectionByKind before
      (part before v.node c) r v → part before v.node (next_content c v)
      ≡ next_content (part before v.node c) v
  section_part c v node h = part_applied before v.node (effects v) c
      (effects_owned (part before v.node c) v.node node v.call v.ending v.changes h)

  pub other_part : (c : Content) (v : Event) → NodeByKind before v.node → SectionByKind before
      (part before v.node c) r v → (g : Text) → (v.node ≢ g) → part before g (next_content c v)
      ≡ part before g c
  other_part c v node h g apart = applied_other before g v.node apart (effects v) c
      (effects_owned (part before v.node c) v.node node v.call v.ending v.changes h)
