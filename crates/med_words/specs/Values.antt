-- The values that options take, and the first option whose value isn't one.
use Rattle.std.specs.Prelude.{ℕ, Bool, false, ◌&&◌, nat_lt, List, [], ◌∷◌, Option, Some, None, is_some, option_map, codes, if◌then◌else◌}
use Rattle.std.specs.List.{find}
use Rattle.std.specs.Option.{is_none}
use Rattle.std.specs.Str.{bytes_eq}
use Rattle.std.specs.Str.Parse.{digits_value}
use Rattle.med_base.specs.Decimal.{is_decimal}
use Rattle.med_base.specs.Names.{backup_fault}
use Rattle.med_outside.specs.declared.mode.Mode.{Mode}
use Rattle.med_outside.specs.declared.mode.Mode.TheVariants.{Full, Differential}
use Rattle.med_words.specs.Grammar.{Text}
use Rattle.med_words.specs.Said.{Said}

-- the name of a backup
abbrev pub read_name : Text → Option Text
read_name text = if is_some (backup_fault text) then None else Some text

-- the two modes
abbrev pub read_mode : Text → Option Mode
read_mode text =
    if bytes_eq text (codes "full") then Some Full
    else if bytes_eq text (codes "differential") then Some Differential else None

-- 1 to 4 decimal digits with a value from 1 to a limit; zeros may lead
abbrev pub is_count : ℕ → Text → Bool
is_count limit text = is_decimal 4 limit text && nat_lt 0 (digits_value 10 text)

-- the number that these digits write
abbrev pub read_count : ℕ → Text → Option ℕ
read_count limit text = if is_count limit text then Some (digits_value 10 text) else None

-- workers, and rounds of a rehearsal
abbrev pub read_workers : Text → Option ℕ
read_workers = read_count 64

abbrev pub read_rounds : Text → Option ℕ
read_rounds = read_count 1000

-- a value that an option has, read, or else what stands for an option that isn't there
abbrev pub given_or : {A : Type 0} → Option A → (Text → Option A) → Option Text → Option A
given_or absent read None = absent
given_or absent read (Some text) = read text

-- an option has a value that it doesn't take
abbrev pub fails : {A : Type 0} → (Text → Option A) → Option Text → Bool
fails read None = false
fails read (Some text) = is_none (read text)

-- the options whose values are checked, in the order of the checks, and whether each fails
abbrev pub checks : Said → List (Text × Bool)
checks said =
    (codes "--backup-name", fails read_name (said.value (codes "backup-name")))
    ∷ (codes "--mode", fails read_mode (said.value (codes "mode")))
    ∷ (codes "--workers", fails read_workers (said.value (codes "workers")))
    ∷ (codes "--rounds", fails read_rounds (said.value (codes "rounds")))
    ∷ []

-- the first option that has a value which it doesn't take, with its dashes
abbrev pub first_bad : Said → Option Text
first_bad said = option_map (λ c. c.0) (find (λ c. c.1) (checks said))
