-- The nodes that were found.
use Rattle.std.proofs.Common.{◌≡◌, inl, inr, ℕ, true, List, [], Option, Some, None, is_some, IfSome, refl, sym, ap, subst}
use Rattle.std.proofs.lemmas.Map.Lookups.{exact_bytes}
use Rattle.std.proofs.lemmas.Map.Views.{btree_map_contains_key_iff}
use Rattle.std.specs.BTreeMap.{BTreeMap, IsOrdered, get, keys}
use Rattle.std.specs.Cmp.Lexicographic.{nat_list_cmp_total}
use Rattle.std.specs.List.Sorted.{IsStrictlySortedBy}
use Rattle.med_base.specs.Content.{Content}
use Rattle.med_base.specs.NameOrder.{name_cmp}
use Rattle.med_index.specs.Rows.{AreNodes, HasBackup}
use Rattle.med_index.specs.Visits.{AreNodesFound}

some_unit : (o : Option (Unit {0})) → is_some o ≡ true → o ≡ Some tt
some_unit None is = absurd (cc)
some_unit (Some u) is = refl

module _ (m : BTreeMap (List ℕ) (Unit {0})) (names : List (List ℕ)) (names_are : names ≡ keys m)
  where
    module _ (c : Content) (before : List ℕ) (found : AreNodesFound m before c []) where
      got : (f : List ℕ) → HasBackup c before f → get name_cmp m f ≡ Some tt
      got f has =
          let b = has.backup in
          elim (found.all f has.name b.kind b.second has.node b.name b.stands) [
            | inl there ↦ there
            | inr none ↦ absurd none
          ]

      are_nodes : AreNodes c before (keys m)
      are_nodes f =
          let is_key = btree_map_contains_key_iff nat_list_cmp_total exact_bytes m f in (
            λ there. found.nodes f (some_unit (get name_cmp m f) (is_key.1 there)),
            λ has. is_key.0 (ap is_some (got f has)),
          )

    -- where the storage is told
    pub nodes_told : (told : Option Content) (before : List ℕ)
        → IfSome told (λ c. AreNodesFound m before c [])
        → IfSome told (λ c. AreNodes c before names)
    nodes_told None before found = tt
    nodes_told (Some c) before found =
        subst (AreNodes c before) (sym names_are) (are_nodes c before found)

    pub nodes_rise : IsOrdered name_cmp m → IsStrictlySortedBy name_cmp names
    nodes_rise ordered = subst (IsStrictlySortedBy name_cmp) (sym names_are) ordered
