-- What files in memory hold, and which of their calls fail.
use Rattle.std.specs.Prelude.{ℕ, List, [], ◌∷◌, ◌++◌, map, Option, Some, None, string_bytes, if◌then◌else◌}
use Rattle.std.specs.Str.{bytes_eq}
use Rattle.med_outside.specs.World.{FilesState}
use Rattle.med_mem.specs.Failing.{Failing}
use Rattle.med_mem.specs.declared.files.AddedFile.{AddedFile}

-- a file, and its name
pub record NamedFile : Type 0 where
  pub name : List ℕ
  pub bytes : List ℕ

-- what a contract sees of files in memory
pub record Named : Type 0 where
  -- what was added, in order
  pub files : List NamedFile
  -- the calls of `read`
  pub calls : Failing

-- the bytes of the first of these files that has the name
abbrev pub bytes_at : List ℕ → List NamedFile → Option (List ℕ)
bytes_at name [] = None
bytes_at name (f ∷ fs) = if bytes_eq f.name name then Some f.bytes else bytes_at name fs

-- the same of files in memory
abbrev pub file_at : List ℕ → Named → Option (List ℕ)
file_at name m = bytes_at name m.files

-- the same files with one more
abbrev pub with_file : (name bytes : List ℕ) → Named → Named
with_file name bytes m = record {
  files = m.files ++ record { name = name; bytes = bytes } ∷ [];
  calls = m.calls;
}

-- the same files, of which other calls were made or fail
abbrev pub with_reads : Failing → Named → Named
with_reads calls m = record { files = m.files; calls = calls }

-- ---- for this crate's own clauses

abbrev pub named_files : List AddedFile → List NamedFile
named_files = map (λ (f : AddedFile). record { name = string_bytes f.name; bytes = f.bytes.items })

-- what the trait sees of files in memory
abbrev pub files_state : Named → FilesState
files_state m = record {
  contents = λ (name : List ℕ). Some (file_at name m);
  faults = m.calls.faults;
}
