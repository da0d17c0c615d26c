-- Two lists of things whose keys rise, and which have the same members, are the same.
use Rattle.std.proofs.Common.{◌≡◌, ◌⊎◌, inl, inr, List, [], ◌∷◌, map, refl, sym, ap₂, subst}
use Rattle.std.specs.Cmp.{tied_itself}
use Rattle.std.specs.List.{Contains}
use Rattle.std.specs.List.Sorted.{IsPermutation}
use Rattle.std.specs.declared.cmp.Ordering.TheVariants.{Less, Equal}
use Rattle.std.proofs.lemmas.List.Elements.{All-contains, All-from_recursion}
use Rattle.std.proofs.lemmas.List.Sorted.{Contains-permutation, IsPermutation-sym}
use Rattle.med_base.specs.declared.key.FileKey.{FileKey}
use Rattle.med_base.specs.Key.{AreRising, key_cmp}
use Rattle.med_base.specs.KeyOrder.{key_total}
use Rattle.med_base.proofs.Lists.{all_unmap}
use Rattle.med_manifest.proofs.Members.{contains_first, contains_head, contains_more, contains_nothing}

-- no key is below itself, and of two keys one isn't below the other
pub not_below : (k : FileKey) → key_cmp k k ≡ Less → ⊥
not_below k less = let tied : key_cmp k k ≡ Equal = tied_itself key_total k in cc

one_way : (a b : FileKey) → key_cmp a b ≡ Less → key_cmp b a ≡ Less → ⊥
one_way a b one other = not_below a (key_total.trans a b a one other)

module _ {X : Type 0} (key : X → FileKey) where
  -- what stands behind the first one is above it
  above : (x : X) (xs : List X) → AreRising (map key (x ∷ xs)) → (q : X) → Contains xs q
      → key_cmp (key x) (key q) ≡ Less
  above x xs rising q among =
      All-contains (λ (y : X). key_cmp (key x) (key y) ≡ Less) xs q
      (All-from_recursion (λ (y : X). key_cmp (key x) (key y) ≡ Less) xs
      (all_unmap key (λ (j : FileKey). key_cmp (key x) j ≡ Less) xs rising.0)) among

  first_same : (x : X) (xs : List X) (y : X) (ys : List X) → AreRising (map key (x ∷ xs))
      → AreRising (map key (y ∷ ys)) → (y ≡ x) ⊎ Contains ys x → (x ≡ y) ⊎ Contains xs y → x ≡ y
  first_same x xs y ys a b (inl is) there = sym is
  first_same x xs y ys a b (inr here) (inl is) = is
  first_same x xs y ys a b (inr here) (inr there) =
      absurd (one_way (key x) (key y) (above x xs a y there) (above y ys b x here))

  -- what stands behind the first of one list stands behind the same first of the other
  tail_of : (x : X) (xs ys : List X) → AreRising (map key (x ∷ xs)) → (q : X)
      → Contains xs q → (x ≡ q) ⊎ Contains ys q → Contains ys q
  tail_of x xs ys rising q among (inl is) =
      absurd (not_below (key x) (subst (λ (y : X). key_cmp (key x) (key y) ≡ Less) (sym is)
      (above x xs rising q among)))
  tail_of x xs ys rising q among (inr there) = there

  same_rising : (xs ys : List X) → AreRising (map key xs) → AreRising (map key ys)
      → ((q : X) → Contains xs q → Contains ys q)
      → ((q : X) → Contains ys q → Contains xs q) → xs ≡ ys
  same_rising [] [] a b to from = refl
  same_rising [] (y ∷ ys) a b to from = absurd (contains_nothing y (from y (contains_head y ys)))
  same_rising (x ∷ xs) [] a b to from = absurd (contains_nothing x (to x (contains_head x xs)))
  same_rising (x ∷ xs) (y ∷ ys) a b to from =
      let is : x ≡ y =
      first_same x xs y ys a b (contains_first y x ys (to x (contains_head x xs)))
      (contains_first x y xs (from y (contains_head y ys))) in
      let b' : AreRising (map key (x ∷ ys)) =
      subst (λ (z : X). AreRising (map key (z ∷ ys))) (sym is) b in
      ap₂ (λ z l. z ∷ l) is
      (same_rising xs ys a.1 b.1
      (λ q among. tail_of x xs ys a q among
      (contains_first x q ys (subst (λ (z : X). Contains (z ∷ ys) q) (sym is)
      (to q (contains_more x q xs among)))))
      (λ q among. tail_of x ys xs b' q among
      (contains_first x q xs (from q (contains_more y q ys among)))))

  -- a list in another order whose keys rise is the same where those of both rise
  pub same_moved : (xs ys : List X) → IsPermutation xs ys → AreRising (map key xs)
      → AreRising (map key ys) → xs ≡ ys
  same_moved xs ys moved a b =
      same_rising xs ys a b (λ q. Contains-permutation xs ys q moved)
      (λ q. Contains-permutation ys xs q (IsPermutation-sym xs ys moved))
