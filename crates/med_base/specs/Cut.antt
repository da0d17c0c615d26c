-- The pieces of a text between bytes of one value.
use Rattle.std.specs.Prelude.{ℕ, ◌==◌, List, [], Option, Some, None}
use Rattle.std.specs.List.{slice_split}

abbrev pub pieces_of : ℕ → List ℕ → List (List ℕ)
pieces_of byte text = slice_split (λ b. b == byte) text

-- those of what is left, if anything is
abbrev pub pieces_left : ℕ → Option (List ℕ) → List (List ℕ)
pieces_left byte None = []
pieces_left byte (Some text) = pieces_of byte text
