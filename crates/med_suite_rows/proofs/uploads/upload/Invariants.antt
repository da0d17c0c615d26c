use Rattle.std.proofs.Common.{◌≡◌, [], is_some, IsTrue}
use Rattle.med_suite_rows.proofs.uploads.upload.Given as goal

abbrev pub invariant-loop-piece : goal.invariant-loop-piece
invariant-loop-piece g l =
    (goal.iterator-loop-piece g).can_next l.piece-iterator
    × (goal.iterator-loop-piece g).is_finite l.piece-iterator
    × ((g.S.Storage.state l.store).terms.lent ≡ [])
    × ((g.S.Storage.state l.store).terms.bucket.layout ≡ [])
    × IsTrue (is_some (g.S.Storage.state l.store).upload)
