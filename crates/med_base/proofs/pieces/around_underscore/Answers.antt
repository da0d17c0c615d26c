use Rattle.std.proofs.Common.{arith}
use Rattle.med_base.proofs.PieceLemmas.{around_found}
use Rattle.med_base.proofs.pieces.around_underscore.Goals as goal

pub returns : goal.returns
returns c = around_found 95 c.args.text.now c.rsplit_once.result (omega arith)
    c.rsplit_once.ensures.cases
