-- What a sink has taken of a text.
use Rattle.std.specs.Prelude.{◌≡◌, ◌⊎◌, ◌<◌, ℕ, List, ◌++◌, take, length, Option, option_map, Result, MatchResult, codes}
use Rattle.med_outside.specs.Causes.{RoseOrFull}

-- all of it
abbrev pub Wrote : List ℕ → Option (List ℕ) → Option (List ℕ) → Type 0
Wrote text old new = new ≡ option_map (λ t. t ++ text) old

-- a proper prefix of it
abbrev pub WrotePart : List ℕ → Option (List ℕ) → Option (List ℕ) → Type 0
WrotePart text old new = (n : ℕ) × (n < length text) × Wrote (take n text) old new

-- the text at `Ok`, and a proper prefix of it at `Err`
abbrev pub Prints : {T E : Type 0} → List ℕ → Option (List ℕ) → Option (List ℕ) → Result T E
    → Type 0
Prints text old new result = MatchResult result (λ _. Wrote text old new)
    (λ _. WrotePart text old new)

-- the line of a fault
abbrev pub complaint : List ℕ → List ℕ
complaint text = codes "medusa: " ++ (text ++ codes "\n")

-- the line was written whole, or in part where the sink's count of faults rose
abbrev pub Complains : List ℕ → Option (List ℕ) → Option (List ℕ) → ℕ → ℕ → Type 0
Complains text old new before now =
    Wrote (complaint text) old new ⊎ (WrotePart (complaint text) old new × RoseOrFull before now)
