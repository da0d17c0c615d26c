use Rattle.med_outside.specs.Pieces.{piece_size}
use Rattle.med_mem.proofs.PieceLemmas.{cut_is}
use Rattle.med_mem.proofs.piece.piece_of.Goals as goal

pub returns-clause-piece : goal.returns-clause-piece
returns-clause-piece c =
    cut_is piece_size c.args.from c.args.bytes.now _ _ _ _ _ c.min.ensures c.split_at.ensures.back
    c.min-2.ensures c.split_at-2.ensures.front c.of.ensures
