use Rattle.std.proofs.Common.{◌∷◌, map, take}
use Rattle.med_manifest.specs.Tokens.{Adds, tokens_of_all}
use Rattle.med_manifest.specs.Written.{HaveFingerprints, file_data}
use Rattle.med_manifest.proofs.written.put_files.Given as goal

-- the files so far were written
abbrev pub invariant-loop-file : goal.invariant-loop-file
invariant-loop-file l = record {
  adds : Adds l.fn.out l.out
      (tokens_of_all (map file_data (l.first ∷ take l.file-index l.others)));
  prints : HaveFingerprints (l.first ∷ take l.file-index l.others);
}
