-- The entries that a backup puts into the index, when it starts and when it finishes.
use Rattle.std.specs.Prelude.{ℕ, Bool, List, [], ◌∷◌, if◌then◌else◌}
use Rattle.med_base.specs.declared.kinds.IndexKind.TheVariants.{Tokenmap, Manifest, Started, Finished, Differential}
use Rattle.med_base.specs.Effects.{Effect, Stores}
use Rattle.med_base.specs.Layout.{entry_path}

-- a backup started at this second, with this token map
abbrev pub start_puts : (before f n : List ℕ) (is_differential : Bool) (ring : List ℕ)
    (started : ℕ) (seconds : ℕ → ℕ) → List Effect
start_puts before f n is_differential ring started seconds =
    Stores (entry_path before f n Tokenmap) ring (seconds 0)
    ∷ Stores (entry_path before f n (Started started)) [] (seconds 1)
    ∷ (if is_differential
    then Stores (entry_path before f n Differential) [] (seconds 2) ∷ [] else [])

-- a backup finished at this second, with this manifest
abbrev pub finish_puts : (before f n manifest : List ℕ) (finished : ℕ) (seconds : ℕ → ℕ)
    → List Effect
finish_puts before f n manifest finished seconds =
    Stores (entry_path before f n Manifest) manifest (seconds 0)
    ∷ Stores (entry_path before f n (Finished finished)) [] (seconds 1) ∷ []
