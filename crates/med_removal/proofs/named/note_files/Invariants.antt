use Rattle.std.proofs.Common.{◌≡◌, ◌++◌}
use Rattle.std.specs.Vec.Iter.{into_iter_items}
use Rattle.med_removal.specs.Named.{AreNoted, paths_in}
use Rattle.med_removal.proofs.named.note_files.Given as goal

-- the paths of the files so far are noted
abbrev pub invariant-loop-file : goal.invariant-loop-file
invariant-loop-file l = record {
  left : l.fn.files.items ≡ l.yielded ++ into_iter_items l.file-iterator;
  noted : AreNoted l.layout (paths_in l.yielded) l.fn.named l.named;
}
