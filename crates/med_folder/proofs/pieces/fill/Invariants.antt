use Rattle.std.proofs.Common.{◌≡◌, ◌≤◌, length, take}
use Rattle.std.specs.Io.KnownBytes.{Consumes}
use Rattle.med_folder.proofs.pieces.fill.Given as goal

-- what was read so far is what the file has lost
abbrev pub invariant-reads : goal.invariant-reads
invariant-reads g l =
    (length l.room ≡ length l.fn.room)
    × (l.filled ≤ length l.room)
    × Consumes (g.F.Read.remaining l.fn.file) (g.F.Read.remaining l.file) (take l.filled l.room)
