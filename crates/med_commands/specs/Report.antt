-- The line that a backup prints, and those of a rebuild of the index.
use Rattle.std.specs.Prelude.{ℕ, List, ◌++◌, flat_map, codes, decimal}
use Rattle.med_base.specs.Effects.{Effect}
use Rattle.med_index.specs.Rebuilt.{stores, removals}
use Rattle.med_backup.specs.declared.report.BackupReport.{BackupReport}

abbrev pub report_head : List ℕ → List ℕ → ℕ → List ℕ
report_head name node files =
    codes "backup " ++ (name ++
    (codes " of " ++ (node ++ (codes ": " ++ (decimal files ++ codes " files, ")))))

abbrev pub report_tail : (bytes reused stored aside : ℕ) → List ℕ
report_tail bytes reused stored aside =
    decimal bytes ++ (codes " bytes, " ++ (decimal reused ++ (codes " reused, "
    ++ (decimal stored ++ (codes " stored, " ++ (decimal aside ++ codes " aside\n"))))))

-- `backup NAME of NODE: NUM files, NUM bytes, NUM reused, NUM stored, NUM aside` and a line feed
abbrev pub report_line : BackupReport → List ℕ
report_line report =
    report_head report.name report.node report.files
    ++ report_tail report.bytes report.reused report.stored report.aside

-- `index of NODE: NUM put, NUM deleted` and a line feed
abbrev pub index_line : List ℕ → (put deleted : ℕ) → List ℕ
index_line node put deleted =
    codes "index of " ++ (node ++ (codes ": " ++ (decimal put ++ (codes " put, "
    ++ (decimal deleted ++ codes " deleted\n")))))

-- the lines of nodes that were rebuilt by these lists
abbrev pub index_lines : List (List ℕ × List Effect) → List ℕ
index_lines rows =
    flat_map (λ (row : List ℕ × List Effect).
    index_line row.0 (stores row.1) (removals row.1)) rows
