-- The backups of a node as rows, and the nodes that have backups.
use Rattle.std.specs.Prelude.{◌≡◌, ◌↔◌, ℕ, List, [], ◌∷◌, map, Contains, IsTrue}
use Rattle.std.specs.List.{AllByRecursion, IsDistinct}
use Rattle.std.specs.Ordering.{nat_cmp, on, then_cmp}
use Rattle.std.specs.declared.cmp.Ordering.{Ordering}
use Rattle.std.specs.declared.cmp.Ordering.TheVariants.{Less}
use Rattle.med_base.specs.Content.{Content}
use Rattle.med_base.specs.Kinds.{IsFqdn}
use Rattle.med_base.specs.NameOrder.{name_cmp, name_eq}
use Rattle.med_manifest.specs.Vault.{IsBackup, IsListed}
use Rattle.med_outside.specs.declared.backup_row.BackupRow.{BackupRow}
use Rattle.med_index.specs.Modes.{is_differential}

-- the names of the backups, in the order of their rows
abbrev pub names_of : List BackupRow → List (List ℕ)
names_of rows = map (λ (r : BackupRow). r.name) rows

-- what the row tells is so in the content
abbrev pub IsTold : Content → List ℕ → List ℕ → BackupRow → Type 0
IsTold c before f r = IsListed c before f r.name (is_differential r.mode) r.started r.finished

-- these are the backups of the node: each row tells of one, and each has a row
pub record AreBackups (c : Content) (before f : List ℕ) (rows : List BackupRow) : Type 0 where
  pub rows_are : AllByRecursion (IsTold c before f) rows
  pub all : (n : List ℕ) → IsBackup c before f n → Contains (names_of rows) n

-- rows are in order of their start, and then of their names
abbrev pub row_cmp : BackupRow → BackupRow → Ordering
row_cmp =
    then_cmp (on (λ (r : BackupRow). r.started) nat_cmp)
    (on (λ (r : BackupRow). r.name) name_cmp)

-- each row is below all that follow
abbrev pub AreInOrder : List BackupRow → Type 0
AreInOrder [] = Unit {0}
AreInOrder (r ∷ rs) = AllByRecursion (λ q. row_cmp r q ≡ Less) rs × AreInOrder rs

-- no two rows have one name
abbrev pub AreApart : List BackupRow → Type 0
AreApart rows = IsDistinct name_eq (names_of rows)

-- a row is marked as running exactly where its name is one of these
abbrev pub AreMarked : List (List ℕ) → List BackupRow → Type 0
AreMarked running rows =
    AllByRecursion (λ (r : BackupRow). IsTrue r.running ↔ Contains running r.name) rows

-- the text is the name of a node, and some backup of it stands
pub record HasBackup (c : Content) (before f : List ℕ) : Type 0 where
  pub node : IsFqdn f
  pub name : List ℕ
  pub backup : IsBackup c before f name

-- these are the nodes that have a backup
abbrev pub AreNodes : Content → List ℕ → List (List ℕ) → Type 0
AreNodes c before nodes = (f : List ℕ) → Contains nodes f ↔ HasBackup c before f
