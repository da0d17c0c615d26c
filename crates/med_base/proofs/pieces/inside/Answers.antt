use Rattle.std.proofs.Common.{◌∙◌, ap, option_and_then}
use Rattle.med_base.specs.Entries.{ahead}
use Rattle.med_base.proofs.PieceLemmas.{end_stripped}
use Rattle.med_base.proofs.pieces.inside.Goals as goal

pub returns : goal.returns
returns c =
    end_stripped c.args.end.now c.in_ok-after.field-0.now c.strip_suffix.result
    c.strip_suffix.ensures.cases
    ∙ ap (option_and_then (ahead c.args.end.now)) c.in_ok-after.ensures
