use Rattle.std.proofs.Common.{◌≡◌, length}
use Rattle.std.specs.Io.KnownBytes.{Keeps}
use Rattle.med_folder.proofs.measure.read_some.Given as goal

-- a read that was interrupted has taken nothing, and the piece keeps its length
abbrev pub invariant-tries : goal.invariant-tries
invariant-tries g l =
    (length l.piece ≡ length l.fn.piece)
    × Keeps (g.F.Read.remaining l.fn.file) (g.F.Read.remaining l.file)
