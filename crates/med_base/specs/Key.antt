-- Keys of files, and their order: by keyspace, table and file, each by its bytes.
use Rattle.std.specs.Prelude.{◌≡◌, Bool, List, [], ◌∷◌, Option, None}
use Rattle.std.specs.Ordering.{nat_cmp, on, then_cmp, as_partial_cmp, eq_by_cmp}
use Rattle.std.specs.Cmp.Lexicographic.{slice_cmp}
use Rattle.std.specs.List.{AllByRecursion}
use Rattle.std.specs.declared.cmp.Ordering.{Ordering}
use Rattle.std.specs.declared.cmp.Ordering.TheVariants.{Less}
use Rattle.med_base.specs.declared.key.FileKey.{FileKey}
use Rattle.med_base.specs.Names.{component_fault}

abbrev pub key_cmp : FileKey → FileKey → Ordering
key_cmp =
    then_cmp (on (λ (k : FileKey). k.keyspace) (slice_cmp nat_cmp))
    (then_cmp (on (λ (k : FileKey). k.table) (slice_cmp nat_cmp))
    (on (λ (k : FileKey). k.file) (slice_cmp nat_cmp)))

-- two keys that no part tells apart
abbrev pub key_eq : FileKey → FileKey → Bool
key_eq = eq_by_cmp key_cmp

abbrev pub key_partial_cmp : FileKey → FileKey → Option Ordering
key_partial_cmp = as_partial_cmp key_cmp

-- each key is below all that follow, so none stands twice
abbrev pub AreRising : List FileKey → Type 0
AreRising [] = Unit {0}
AreRising (k ∷ ks) = AllByRecursion (λ j. key_cmp k j ≡ Less) ks × AreRising ks

-- the three parts are components
pub record IsKey (k : FileKey) : Type 0 where
  pub keyspace : component_fault k.keyspace ≡ None
  pub table : component_fault k.table ≡ None
  pub file : component_fault k.file ≡ None
