-- The order of the names of options: by section, and then by key in lower case. It is total.
use Rattle.std.specs.Prelude.{ℕ, Bool, List, Option}
use Rattle.std.specs.Cmp.{IsTotalOrder}
use Rattle.std.specs.Cmp.Lexicographic.{slice_cmp, nat_list_cmp_total}
use Rattle.std.specs.Ordering.{nat_cmp, on, then_cmp, as_partial_cmp, eq_by_cmp}
use Rattle.std.specs.Str.{str_to_ascii_lowercase}
use Rattle.std.specs.declared.cmp.Ordering.{Ordering}
use Rattle.std.proofs.lemmas.Cmp.{on_total, then_total}
use Rattle.med_ini.specs.declared.names.Name.{Name}

abbrev pub lower_key : Name → List ℕ
lower_key n = str_to_ascii_lowercase n.key.now

abbrev pub name_cmp : Name → Name → Ordering
name_cmp =
    then_cmp (on (λ (n : Name). n.section.now) (slice_cmp nat_cmp))
    (on lower_key (slice_cmp nat_cmp))

-- two names that neither section nor key tells apart
abbrev pub name_eq : Name → Name → Bool
name_eq = eq_by_cmp name_cmp

abbrev pub name_partial_cmp : Name → Name → Option Ordering
name_partial_cmp = as_partial_cmp name_cmp

pub name_total : IsTotalOrder name_cmp
name_total =
    then_total (on_total (λ (n : Name). n.section.now) nat_list_cmp_total)
    (on_total lower_key nat_list_cmp_total)
