use Rattle.std.proofs.Common.{◌≡◌, drop}
use Rattle.med_mem.specs.Named.{bytes_at, named_files}
use Rattle.med_mem.proofs.files.find_file.Given as goal

-- none of those so far has the name
abbrev pub invariant-loop-file : goal.invariant-loop-file
invariant-loop-file l =
    bytes_at l.name (named_files (drop l.file-index l.files))
    ≡ bytes_at l.name (named_files l.files)
