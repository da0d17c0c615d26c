use Rattle.std.proofs.Common.{◌≡◌, take}
use Rattle.med_mem.specs.Snaps.{files_of}
use Rattle.med_mem.proofs.snapshot.copy_files.Given as goal

abbrev pub invariant-loop-file : goal.invariant-loop-file
invariant-loop-file l = files_of l.copy.items ≡ files_of (take l.file-index l.files)
