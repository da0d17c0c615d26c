use Rattle.std.proofs.Common.{◌∙◌, option_map, sym, ap}
use Rattle.std.specs.FinMap.{get-from_entries}
use Rattle.med_base.specs.KeyOrder.{key_total}
use Rattle.med_outside.specs.Pieces.{piece_at}
use Rattle.med_mem.proofs.snapshot.MemOpenedSnap.read_piece.Goals as goal

pub read_piece-requires : goal.read_piece-requires
read_piece-requires c =
    rw (← get-from_entries key_total c.self.inside.held.files c.args.key.now)
    (rw (← c.self.view_is) at c.requires)

pub returns-clause-piece : goal.returns-clause-piece
returns-clause-piece c =
    rw (← c.self.view_is)
    (c.in_ok-read_piece.ensures.piece
    ∙ ap (option_map (piece_at c.args.from)) (sym (get-from_entries key_total _ c.args.key.now)))
