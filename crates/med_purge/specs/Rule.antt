-- Which backups a purge removes, by their rows.
use Rattle.std.specs.Prelude.{◌≡◌, ◌≢◌, ◌⊎◌, ◌<◌, ◌≤◌, ◌-◌, ◌*◌, ◌&&◌, ℕ, Bool, false, List, Contains, IsTrue, is_some, length, map}
use Rattle.std.specs.Borrow.{Bor}
use Rattle.std.specs.BTreeSet.{BTreeSet, contains}
use Rattle.std.specs.List.{AllByRecursion, filter}
use Rattle.std.specs.Ordering.{is_lt}
use Rattle.std.specs.declared.cmp.Ordering.{Ordering}
use Rattle.med_base.specs.NameOrder.{name_cmp}
use Rattle.med_core.specs.Section.{AreInByteOrder}
use Rattle.med_index.specs.Rows.{row_cmp}
use Rattle.med_outside.specs.declared.backup_row.BackupRow.{BackupRow}

-- the backup began more than so many days before now; where the days reach back past 1970, none did
abbrev pub IsTooOld : (now age : ℕ) → BackupRow → Type 0
IsTooOld now age row = (age ≢ 0) × (row.started < now - 86400 * age)

-- the other row is finished and stands after this one, in order of start and then of name
abbrev pub is_finished_after : BackupRow → BackupRow → Bool
is_finished_after row other = is_some other.finished && is_lt (row_cmp row other)

-- how many finished rows stand after this one
abbrev pub finished_after : List BackupRow → BackupRow → ℕ
finished_after rows row = length (filter (is_finished_after row) rows)

-- the row is finished, and at least so many finished ones stand after it
abbrev pub IsSurplus : List BackupRow → (count : ℕ) → BackupRow → Type 0
IsSurplus rows count row =
    (count ≢ 0) × IsTrue (is_some row.finished) × (count ≤ finished_after rows row)

-- the rule names the backup: it isn't being made, and it is too old or one too many
abbrev pub IsToGo : List BackupRow → (now age count : ℕ) → BackupRow → Type 0
IsToGo rows now age count row =
    (row.running ≡ false) × (IsTooOld now age row ⊎ IsSurplus rows count row)

-- these are the names of the rows that go, in byte order
pub record IsRule (rows : List BackupRow) (now age count : ℕ) (names : List (List ℕ)) : Type 0 where
  pub order : AreInByteOrder names
  pub goes : (row : BackupRow) → Contains rows row → IsToGo rows now age count row
      → Contains names row.name
  pub only : AllByRecursion
      (λ n. (row : BackupRow) × Contains rows row × (row.name ≡ n) × IsToGo rows now age count row)
      names

-- ---- for this crate's own clauses

-- the rule names the backup, where so many finished rows stand after it
abbrev pub IsToGoWith : (now age count after : ℕ) → BackupRow → Type 0
IsToGoWith now age count after row =
    (row.running ≡ false)
    × (IsTooOld now age row ⊎ ((count ≢ 0) × IsTrue (is_some row.finished) × (count ≤ after)))

-- the rows that are lent
abbrev pub rows_of : List (Bor BackupRow) → List BackupRow
rows_of rows = map (λ (r : Bor BackupRow). r.now) rows

-- a row that stands later comes first
abbrev pub back_cmp : BackupRow → BackupRow → Ordering
back_cmp a b = row_cmp b a

-- the set has the names of those of the first rows that go, and no others
pub record AreChosen (rows : List BackupRow) (now age count : ℕ) (first : List BackupRow)
    (names : BTreeSet (List ℕ)) : Type 0 where
  pub goes : (row : BackupRow) → Contains first row → IsToGo rows now age count row
      → IsTrue (contains name_cmp names row.name)
  pub only : (n : List ℕ) → IsTrue (contains name_cmp names n)
      → (row : BackupRow) × Contains first row × (row.name ≡ n) × IsToGo rows now age count row
