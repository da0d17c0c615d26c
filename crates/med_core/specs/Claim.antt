-- The changes of a claim: what tells of a backup that starts, and its entries in the index.
use Rattle.std.specs.Prelude.{ℕ, Bool, ◌+◌, List, [], ◌∷◌, ◌++◌, if◌then◌else◌}
use Rattle.med_base.specs.declared.layout.MetaKind.TheVariants.{Schema, Differential, Tokenmap}
use Rattle.med_base.specs.Effects.{Effect, Stores}
use Rattle.med_base.specs.Layout.{meta_path}
use Rattle.med_manifest.specs.EntryPuts.{start_puts}

-- the schema and the token map are put, and the mark of a differential backup; then the entries,
-- with the second of the schema; `seconds` are those of the puts
abbrev pub changes_of_claim : (before f n : List ℕ) (is_differential : Bool) (schema ring : List ℕ)
    (seconds : ℕ → ℕ) → List Effect
changes_of_claim before f n is_differential schema ring seconds =
    Stores (meta_path before f n Schema) schema (seconds 0)
    ∷ ((if is_differential
    then Stores (meta_path before f n Differential) [] (seconds 1) ∷ [] else [])
    ++ Stores (meta_path before f n Tokenmap) ring (seconds 2)
    ∷ start_puts before f n is_differential ring (seconds 0) (λ i. seconds (3 + i)))
