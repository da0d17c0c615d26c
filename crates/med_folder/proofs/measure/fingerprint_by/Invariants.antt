use Rattle.std.proofs.Common.{◌≡◌, List, ℕ, length}
use Rattle.std.specs.Io.KnownBytes.{Consumes}
use Rattle.med_folder.specs.Measure.{Measures}
use Rattle.med_folder.proofs.measure.fingerprint_by.Given as goal

-- what was taken so far is what the file has lost
abbrev pub invariant-pieces : goal.invariant-pieces
invariant-pieces g l =
    (length l.piece ≡ length l.fn.piece)
    × ((bytes : List ℕ) × Measures l.measure bytes
    × Consumes (g.F.Read.remaining l.fn.file) (g.F.Read.remaining l.file) bytes)
