-- The first of some checks that tells a fault.
use Rattle.std.proofs.Common.{◌≡◌, ◌++◌, List, [], ◌∷◌, Option, Some, None, refl}
use Rattle.med_ini.specs.Options.{Fault, first_of, Blames}
use Rattle.med_ini.specs.declared.config.ConfigError.{ConfigError}
use Rattle.med_ini.specs.declared.config.ConfigError.TheVariants.{MissingOption, BadNumber, BadName, UnsupportedProvider, Memory}

-- where the checks before tell none, those behind decide
pub behind : (before rest : List (Option Fault)) → first_of before ≡ None
    → first_of (before ++ rest) ≡ first_of rest
behind [] rest none = refl
behind (None ∷ before) rest none = behind before rest none
behind (Some fault ∷ before) rest none = absurd cc

-- where a check tells none, those behind it decide
pub behind_one : (check : Option Fault) (rest : List (Option Fault)) → check ≡ None
    → first_of (check ∷ rest) ≡ first_of rest
behind_one None rest none = refl
behind_one (Some fault) rest none = absurd cc

-- want of memory alone is blamed where there is no fault
any_fault : (fault : Option Fault) (error : ConfigError) → Blames None error → Blames fault error
any_fault fault (MissingOption option) blames = absurd cc
any_fault fault (BadNumber option) blames = absurd cc
any_fault fault (BadName option) blames = absurd cc
any_fault fault (UnsupportedProvider name) blames = absurd cc
any_fault fault Memory blames = tt

-- the fault of the checks before is that of all
pub blames_before : (before rest : List (Option Fault)) (error : ConfigError)
    → Blames (first_of before) error → Blames (first_of (before ++ rest)) error
blames_before [] rest error blames = any_fault (first_of rest) error blames
blames_before (None ∷ before) rest error blames = blames_before before rest error blames
blames_before (Some fault ∷ before) rest error blames = blames
