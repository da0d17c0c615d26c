-- What the rebuilds of nodes leave of a content.
use Rattle.std.proofs.Common.{◌≡◌, ◌≢◌, ◌⊎◌, ℕ, List, [], ◌∷◌, ◌++◌, Contains, Option, Some, None, IfSome, refl, sym, ◌∙◌, ap, subst, inl, inr}
use Rattle.std.specs.FinMap.{get}
use Rattle.std.specs.List.{AllByRecursion}
use Rattle.std.proofs.lemmas.List.Elements.{All-from_recursion, All-contains, All-contains_itself, recursion_from_All}
use Rattle.med_base.specs.declared.layout.MetaKind.{MetaKind}
use Rattle.med_base.specs.declared.layout.MetaKind.TheVariants as meta_kind
use Rattle.med_base.specs.Classify.{kind_of}
use Rattle.med_base.specs.Content.{Content}
use Rattle.med_base.specs.Effects.{Effect, Stores, Removes, applied, after_all}
use Rattle.med_base.specs.Kinds.{Kind, Shared, Own, Meta, Entry, Latest, Stray, Other, IsFqdn}
use Rattle.med_base.specs.Part.{owner_in, owner_of}
use Rattle.med_base.proofs.Lists.{all_with}
use Rattle.med_index.specs.Rebuilt.{AreOfIndex, IsOfIndex}
use Rattle.med_index.specs.Rows.{AreNodes, HasBackup}
use Rattle.med_manifest.specs.Index.{IsIndexExact, bytes_in}
use Rattle.med_manifest.specs.Rebuild.{IsRebuildOf}
use Rattle.med_manifest.proofs.ByKind.{HasPath, NodeByKind, at, folder, node_by_kind, under}
use Rattle.med_manifest.proofs.Elsewhere.{AreElsewhere, applied_append, get_elsewhere}
use Rattle.med_manifest.proofs.Exacts.{given_same, manifests_by_name, mend_same}
use Rattle.med_manifest.proofs.Gets.{same_path}
use Rattle.med_manifest.proofs.IndexByKind.{ExactByKind}
use Rattle.med_manifest.proofs.IndexJoined.{exact_kind, kind_exact, reaches_exact}
use Rattle.med_commands.specs.Indexed.{Rebuilt, all_of, AreIndexed, AreRebuilt, nodes_of}
use Rattle.med_commands.specs.Steps.{IfTold}
use Rattle.med_commands.proofs.IndexSteps.{flat_push}

-- ---- changes of the index of one node

-- what is of the index of a node belongs to it
owned : (f : List ℕ) (k : Kind) → IsOfIndex f k → owner_in k ≡ Some f
owned f (Entry g n kind) h = ap Some h
owned f (Latest g kind) h = ap Some h
owned f (Shared g key) h = absurd h
owned f (Own g n key) h = absurd h
owned f (Meta g n kind) h = absurd h
owned f (Stray g n) h = absurd h
owned f Other h = absurd h

elsewhere : (before f q : List ℕ) (xs : List Effect) → (IsOfIndex f (kind_of before q) → ⊥)
    → AreOfIndex before f xs → AreElsewhere q xs
elsewhere before f q [] apart h = tt
elsewhere before f q (Stores path bytes second ∷ xs) apart h = (
  λ e. apart (subst (λ (p : List ℕ). IsOfIndex f (kind_of before p)) (sym e) h.0),
  elsewhere before f q xs apart h.1,
)
elsewhere before f q (Removes path ∷ xs) apart h = (
  λ e. apart (subst (λ (p : List ℕ). IsOfIndex f (kind_of before p)) (sym e) h.0),
  elsewhere before f q xs apart h.1,
)

pub stays : (before f q : List ℕ) (xs : List Effect) (c : Content)
    → (IsOfIndex f (kind_of before q) → ⊥) → AreOfIndex before f xs
    → get (applied xs c) q ≡ get c q
stays before f q xs c apart h = get_elsewhere q xs c (elsewhere before f q xs apart h)

-- ---- an index stays exact where the node's own paths stay

module _ (before : List ℕ) (c d : Content) (g : List ℕ) (node : IsFqdn g)
    (same : (q : List ℕ) → owner_of before q ≡ Some g → get d q ≡ get c q) where
  same_at : (k : Kind) → HasPath before k → owner_in k ≡ Some g
      → get d (at before k) ≡ get c (at before k)
  same_at k has is = same (at before k) (ap owner_in has ∙ is)

  names : NodeByKind before g
  names = node_by_kind before g node

  same_exact : ExactByKind before c g → ExactByKind before d g
  same_exact exact = record {
    entries = λ n e has.
        let metas : (kind : MetaKind)
        → get c (at before (Meta g n kind)) ≡ get d (at before (Meta g n kind)) =
        λ kind. sym (same_at (Meta g n kind) (under before g n e kind has) refl) in
        ap bytes_in (same_at (Entry g n e) has refl) ∙ exact.entries n e has
        ∙ given_same before g names c d n e metas;
    latest = λ t. mend_same before g names d c [] [] t
        (manifests_by_name before g names d c []
        (λ n has. same_at (Meta g n meta_kind.Manifest) has refl))
        (λ e. same_at (Latest g e) (names.latest e) refl)
        (λ n h out. same_at (Meta g n meta_kind.Tokenmap)
        (folder before g n meta_kind.Manifest meta_kind.Tokenmap h.1.0) refl) ∙ exact.latest t;
  }

  index_stays : IsIndexExact before c g → IsIndexExact before d g
  index_stays exact = kind_exact before d g node (same_exact (exact_kind before c g exact))

-- ---- the rebuild of one node

one_exact : (before : List ℕ) (c : Content) (f : List ℕ) (xs : List Effect) → IsFqdn f
    → IsRebuildOf before c f xs → IsIndexExact before (applied xs c) f
one_exact before c f xs node is = reaches_exact before c f xs node is.made

other_exact : (before : List ℕ) (c : Content) (f g : List ℕ) (xs : List Effect) → IsFqdn g
    → (f ≢ g) → AreOfIndex before f xs → IsIndexExact before c g
    → IsIndexExact before (applied xs c) g
other_exact before c f g xs node apart reach exact =
    index_stays before c (applied xs c) g node
    (λ q is. stays before f q xs c (λ h. apart (one_owner (owner_of before q)
    (owned f (kind_of before q) h) is)) reach) exact
  where
    one_owner : (o : Option (List ℕ)) → o ≡ Some f → o ≡ Some g → f ≡ g
    one_owner o e h = cc (sym e ∙ h)

-- ---- rebuilds in turn

-- these were made over the content, one after another
abbrev pub AreMade : List ℕ → Content → List Rebuilt → Type 0
AreMade before c [] = Unit {0}
AreMade before c (row ∷ rows) =
    AreOfIndex before row.0 row.1 × IsRebuildOf before c row.0 row.1
    × AreMade before (applied row.1 c) rows

module _ (before : List ℕ) where
  made_after : (c : Content) (done rows : List Rebuilt) → AreRebuilt before (Some c) done rows
      → AreMade before (applied (all_of done) c) rows
  made_after c done [] h = tt
  made_after c done (row ∷ rows) h = (
    h.0.0,
    h.0.1,
    subst (λ (d : Content). AreMade before d rows)
        (ap (λ (l : List Effect). applied l c) (flat_push (λ (r : Rebuilt). r.1) done row)
        ∙ applied_append (all_of done) row.1 c)
        (made_after c (done ++ row ∷ []) rows h.1),
  )

  pub rows_stay : (q : List ℕ) (rows : List Rebuilt) (c : Content) → AreMade before c rows
      → AllByRecursion (λ (f : List ℕ). IsOfIndex f (kind_of before q) → ⊥) (nodes_of rows)
      → get (applied (all_of rows) c) q ≡ get c q
  rows_stay q [] c h apart = refl
  rows_stay q (row ∷ rows) c h apart =
      ap (λ (d : Content). get d q) (applied_append row.1 (all_of rows) c)
      ∙ rows_stay q rows (applied row.1 c) h.2 apart.1
      ∙ stays before row.0 q row.1 c apart.0 h.0

  kept_exact : (g : List ℕ) (rows : List Rebuilt) (c : Content) → IsFqdn g
      → AreMade before c rows → IsIndexExact before c g
      → IsIndexExact before (applied (all_of rows) c) g
  kept_exact g [] c node h exact = exact
  kept_exact g (row ∷ rows) c node h exact =
      subst (λ (d : Content). IsIndexExact before d g)
      (sym (applied_append row.1 (all_of rows) c))
      (kept_exact g rows (applied row.1 c) node h.2 (next (same_path row.0 g)))
    where
      next : (row.0 ≡ g) ⊎ (row.0 ≢ g) → IsIndexExact before (applied row.1 c) g
      next (inl is) =
          subst (λ (f : List ℕ). IsIndexExact before (applied row.1 c) f) is
          (one_exact before c row.0 row.1 (subst IsFqdn (sym is) node) h.1)
      next (inr apart) = other_exact before c row.0 g row.1 node apart h.0 exact

  rows_exact : (rows : List Rebuilt) (c : Content) → AllByRecursion IsFqdn (nodes_of rows)
      → AreMade before c rows
      → AllByRecursion (IsIndexExact before (applied (all_of rows) c)) (nodes_of rows)
  rows_exact [] c nodes h = tt
  rows_exact (row ∷ rows) c nodes h =
      subst (λ (d : Content). AllByRecursion (IsIndexExact before d) (row.0 ∷ nodes_of rows))
      (sym (applied_append row.1 (all_of rows) c)) (
        kept_exact row.0 rows (applied row.1 c) nodes.0 h.2
            (one_exact before c row.0 row.1 nodes.0 h.1),
        rows_exact rows (applied row.1 c) nodes.1 h.2,
      )

-- ---- all nodes that have a backup

-- what holds of each node that has a backup holds of all of these
pub all_nodes : (before : List ℕ) (c : Content) (nodes : List (List ℕ)) (P : List ℕ → Type 0)
    → AreNodes c before nodes → ((f : List ℕ) → HasBackup c before f → P f)
    → AllByRecursion P nodes
all_nodes before c nodes P are each =
    all_with (Contains nodes) P (λ f h. each f ((are f).0 h)) nodes
    (recursion_from_All (Contains nodes) nodes (All-contains_itself nodes))

made_indexed : (before : List ℕ) (c : Content) (nodes : List (List ℕ)) (rows : List Rebuilt)
    → nodes_of rows ≡ nodes → AreNodes c before nodes → AreMade before c rows
    → AreIndexed before c (applied (all_of rows) c)
made_indexed before c nodes rows is are h =
    let exact = rows_exact before rows c
    (subst (AllByRecursion IsFqdn) (sym is)
    (all_nodes before c nodes IsFqdn are (λ f has. has.node))) h in
    record {
      exact = λ f has. All-contains (IsIndexExact before (applied (all_of rows) c)) nodes f
          (All-from_recursion (IsIndexExact before (applied (all_of rows) c)) nodes
          (subst (AllByRecursion (IsIndexExact before (applied (all_of rows) c))) is exact))
          ((are f).1 has);
      others = λ path apart. rows_stay before path rows c h
          (subst (AllByRecursion (λ (f : List ℕ). IsOfIndex f (kind_of before path) → ⊥)) (sym is)
          (all_nodes before c nodes (λ (f : List ℕ). IsOfIndex f (kind_of before path) → ⊥) are
          apart));
    }

-- the nodes that have a backup were rebuilt: each index is exact, and all else is as before
pub rebuilt_indexed : (before : List ℕ) (told after : Option Content) (nodes : List (List ℕ))
    (rows : List Rebuilt) → after ≡ after_all (all_of rows) told → nodes_of rows ≡ nodes
    → IfSome told (λ c. AreNodes c before nodes) → AreRebuilt before told [] rows
    → IfTold told after (AreIndexed before)
rebuilt_indexed before None after nodes rows after_is is are h = tt
rebuilt_indexed before (Some c) after nodes rows after_is is are h =
    subst (λ (o : Option Content). IfTold (Some c) o (AreIndexed before)) (sym after_is)
    (made_indexed before c nodes rows is are (made_after before c [] rows h))
