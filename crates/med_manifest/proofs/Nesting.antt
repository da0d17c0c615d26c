-- The tree of a manifest nests no deeper than a reader follows.
use Rattle.std.proofs.Common.{◌≤◌, List, [], ◌∷◌, map, arith}
use Rattle.serde_json.specs.Data.{depth, items_depth}
use Rattle.serde_json.specs.View.{items_of}
use Rattle.med_manifest.specs.declared.manifest.FileRecord.{FileRecord}
use Rattle.med_manifest.specs.Written.{Table, tables, file_data, table_data, manifest_data}

files_depth : (fs : List FileRecord) → items_depth (items_of (map file_data fs)) ≤ 1
files_depth [] = omega arith
files_depth (f ∷ fs) = omega (arith, files_depth fs)

tables_depth : (ts : List Table) → items_depth (items_of (map table_data ts)) ≤ 3
tables_depth [] = omega arith
tables_depth (t ∷ ts) = omega (arith, files_depth t.files, tables_depth ts)

pub manifest_depth : (fs : List FileRecord) → depth (manifest_data fs) ≤ 127
manifest_depth fs = omega (arith, tables_depth (tables fs))
