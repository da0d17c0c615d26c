-- What a rebuild puts, and an exact index, over kinds of paths.
use Rattle.std.proofs.Common.{◌≡◌, ℕ, List, [], ◌∷◌, ◌++◌, filter, not, Option, Some, None, refl, ap, bytes_eq}
use Rattle.std.specs.List.{list_any}
use Rattle.std.specs.FinMap as fin
use Rattle.med_base.specs.declared.layout.MetaKind.TheVariants as meta_kind
use Rattle.med_base.specs.declared.kinds.IndexKind.TheVariants as index_kind
use Rattle.med_base.specs.Content.{Content, Object}
use Rattle.med_base.specs.Effects.{Effect, Stores}
use Rattle.med_base.specs.Kinds.{Entry, Kind, Meta}
use Rattle.med_base.specs.declared.kinds.IndexKind.{IndexKind}
use Rattle.med_base.specs.declared.layout.MetaKind.{MetaKind}
use Rattle.med_manifest.proofs.ByKind.{HasPath, StandsByKind, Text, at}
use Rattle.med_manifest.specs.Index.{Entries, bytes_in, given}
use Rattle.med_manifest.specs.Listed.{paths_of, removes}
use Rattle.med_manifest.specs.Mend.{changes_of_mend, put_unless}
use Rattle.med_manifest.specs.Rebuild.{changes_of_rebuild, is_entry_of_node, not_given, put_entries, put_entry}

-- an entry of f that a backup of f gives, with its bytes
abbrev pub IsGivenAs : Text → Content → Text → Text → Kind → Type 0
IsGivenAs before c f b (Entry g n index_kind.Tokenmap) = (g ≡ f)
    × ((o : Object) × StandsByKind before c (Meta f n meta_kind.Tokenmap) o × (o.bytes ≡ b))
IsGivenAs before c f b (Entry g n index_kind.Manifest) = (g ≡ f)
    × ((o : Object) × StandsByKind before c (Meta f n meta_kind.Manifest) o × (o.bytes ≡ b))
IsGivenAs before c f b (Entry g n (index_kind.Finished t)) = (g ≡ f)
    × ((o : Object) × StandsByKind before c (Meta f n meta_kind.Manifest) o × (o.second ≡ t))
IsGivenAs before c f b (Entry g n e) = g ≡ f
IsGivenAs before c f b _ = ⊥

abbrev pub put_given : Content → List (Text × Text) → (Text → ℕ) → List Effect
put_given c [] t = []
put_given c (e ∷ rest) t = put_unless c e.0 e.1 (t e.0) ++ put_given c rest t

-- `given` are the entries that the backups of f give
abbrev pub rebuild_list : Text → Content → Text → List (Text × Text) → (ℕ → ℕ) → (Text → ℕ)
    → List Effect
rebuild_list before c f given t u = changes_of_mend before c f [] t
    ++ (removes (filter (λ p. not (list_any (λ (e : Text × Text). bytes_eq p e.0) given))
    (paths_of before c (is_entry_of_node f))) ++ put_given c given u)

abbrev pub pair_on : Text → Option Text → List (Text × Text) → List (Text × Text)
pair_on p None rest = rest
pair_on p (Some b) rest = (p, b) ∷ rest

abbrev pub pairs : Entries → List Text → List (Text × Text)
pairs G [] = []
pairs G (p ∷ ps) = pair_on p (fin.get G p) (pairs G ps)

-- the changes of a rebuild, by pairs of a path and bytes
abbrev pub rebuild_by : Text → Content → Text → Entries → (ℕ → ℕ) → (Text → ℕ) → List Effect
rebuild_by before c f G t u = changes_of_mend before c f [] t ++ (removes (not_given before c f G)
    ++ put_given c (pairs G (fin.keys G)) u)

pairs_put : (c : Content) (G : Entries) (ps : List Text) (u : Text → ℕ) → put_entries c G ps u
    ≡ put_given c (pairs G ps) u
pairs_put c G [] u = refl
pairs_put c G (p ∷ ps) u = go (fin.get G p) (pairs_put c G ps u)
  where
    go : (x : Option Text) → put_entries c G ps u ≡ put_given c (pairs G ps) u → put_entry c p x
        (u p) ++ put_entries c G ps u ≡ put_given c (pair_on p x (pairs G ps)) u
    go None more = more
    go (Some b) more = ap (λ xs. put_unless c p b (u p) ++ xs) more

pub rebuild_same : (before : Text) (c : Content) (f : Text) (G : Entries) (t : ℕ → ℕ) (u : Text → ℕ)
    → changes_of_rebuild before c f G t u ≡ rebuild_by before c f G t u
rebuild_same before c f G t u = ap (λ xs. changes_of_mend before c f [] t
    ++ (removes (not_given before c f G) ++ xs)) (pairs_put c G (fin.keys G) u)

-- the entries are those that the backups give, and the latest entry needs no mending
abbrev pub GivenByKind : Text → Content → Text → Type 0
GivenByKind before c f = (n : Text) (e : IndexKind) → HasPath before (Entry f n e)
    → bytes_in (fin.get c (at before (Entry f n e))) ≡ given before c f n e

pub record ExactByKind (before : Text) (c : Content) (f : Text) : Type 0 where
  pub entries : GivenByKind before c f
  pub latest : (t : ℕ → ℕ) → changes_of_mend before c f [] t ≡ []

-- a place of the backup at hand, without its names
pub data Spot : Type 0 where
  InMeta : MetaKind → Spot
  InIndex : IndexKind → Spot

abbrev pub spot : Text → Text → Spot → Kind
spot f n (InMeta e) = Meta f n e
spot f n (InIndex e) = Entry f n e

abbrev pub puts_at : Text → Text → Text → List (Spot × Object) → List Effect
puts_at before f n [] = []
puts_at before f n (x ∷ xs) = Stores (at before (spot f n x.0)) x.1.bytes x.1.second
    ∷ puts_at before f n xs
