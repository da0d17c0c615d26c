use Rattle.med_base.proofs.PieceLemmas.{front_stripped}
use Rattle.med_base.proofs.pieces.after.Goals as goal

pub returns : goal.returns
returns c = front_stripped c.args.front.now c.args.text.now c.strip_prefix.result
    c.strip_prefix.ensures.cases
