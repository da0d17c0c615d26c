-- Names and paths are in the order of their bytes.
use Rattle.std.specs.Prelude.{ℕ, Bool, List, Option}
use Rattle.std.specs.Cmp.Lexicographic.{slice_cmp}
use Rattle.std.specs.Ordering.{nat_cmp, as_partial_cmp, eq_by_cmp}
use Rattle.std.specs.declared.cmp.Ordering.{Ordering}

abbrev pub name_cmp : List ℕ → List ℕ → Ordering
name_cmp = slice_cmp nat_cmp

-- two names or paths that no byte tells apart
abbrev pub name_eq : List ℕ → List ℕ → Bool
name_eq = eq_by_cmp name_cmp

abbrev pub name_partial_cmp : List ℕ → List ℕ → Option Ordering
name_partial_cmp = as_partial_cmp name_cmp
