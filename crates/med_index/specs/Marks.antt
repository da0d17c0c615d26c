-- The seconds of the objects that tell of a backup, as far as they were found.
use Rattle.std.specs.Prelude.{◌↔◌, ℕ, List, Option, Some, None, is_some, unwrap_or, if◌then◌else◌, Contains, IsTrue}
use Rattle.std.specs.BTreeSet.{BTreeSet, contains}
use Rattle.med_base.specs.declared.layout.MetaKind.{MetaKind}
use Rattle.med_base.specs.declared.layout.MetaKind.TheVariants.{Schema, Differential, Tokenmap, Manifest}
use Rattle.med_base.specs.NameOrder.{name_cmp}
use Rattle.med_manifest.specs.Index.{earlier, or_second}
use Rattle.med_outside.specs.declared.backup_row.BackupRow.{BackupRow}
use Rattle.med_outside.specs.declared.mode.Mode.{Mode}
use Rattle.med_outside.specs.declared.mode.Mode.TheVariants as mode
use Rattle.med_index.specs.declared.marks.Marks.{Marks}

-- ---- for this crate's own clauses

-- nothing was found
abbrev pub no_marks : Marks
no_marks = record { schema = None; differential = None; tokenmap = None; manifest = None }

-- the marks that were found, if any
abbrev pub or_none : Option Marks → Marks
or_none None = no_marks
or_none (Some m) = m

-- the second of this kind
abbrev pub mark_of : MetaKind → Marks → Option ℕ
mark_of Schema m = m.schema
mark_of Differential m = m.differential
mark_of Tokenmap m = m.tokenmap
mark_of Manifest m = m.manifest

-- with a second of this kind
abbrev pub with_mark : MetaKind → ℕ → Marks → Marks
with_mark Schema second m = record {
  schema = Some second;
  differential = m.differential;
  tokenmap = m.tokenmap;
  manifest = m.manifest;
}
with_mark Differential second m = record {
  schema = m.schema;
  differential = Some second;
  tokenmap = m.tokenmap;
  manifest = m.manifest;
}
with_mark Tokenmap second m = record {
  schema = m.schema;
  differential = m.differential;
  tokenmap = Some second;
  manifest = m.manifest;
}
with_mark Manifest second m = record {
  schema = m.schema;
  differential = m.differential;
  tokenmap = m.tokenmap;
  manifest = Some second;
}

-- the second of the schema, else the least of the others
abbrev pub start_of : Marks → ℕ
start_of m =
    unwrap_or
    (or_second m.schema (earlier m.differential (earlier m.tokenmap m.manifest))) 0

-- a backup is differential where its marker was found
abbrev pub mode_of : Marks → Mode
mode_of m = if is_some m.differential then mode.Differential else mode.Full

-- the set has these names and no others
abbrev pub IsSetOf : List (List ℕ) → BTreeSet (List ℕ) → Type 0
IsSetOf names set = (n : List ℕ) → IsTrue (contains name_cmp set n) ↔ Contains names n

-- the row of a backup, where the names of the set are running
abbrev pub row_of : BTreeSet (List ℕ) → List ℕ × Marks → BackupRow
row_of running e = record {
  name = e.0;
  mode = mode_of e.1;
  started = start_of e.1;
  finished = e.1.manifest;
  running = contains name_cmp running e.0;
}
