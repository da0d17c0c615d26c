use Rattle.std.proofs.Common.{◌∙◌, ap, sym, arith}
use Rattle.std.proofs.lemmas.List.Sums.{prefix_len_is}
use Rattle.med_ini.specs.Lines.{is_space, indent}
use Rattle.med_ini.proofs.lines.indent_of.Goals as goal

pub returns-else-is_white-clause-value : goal.returns-else-is_white-clause-value
returns-else-is_white-clause-value c =
    sym (prefix_len_is is_space c.as_bytes-line.result.now c.white.at 0 c.white.invariant.bound
    c.white.invariant.white (λ lt. sym c.is_white.ensures ∙ c.if-is_white.false))
    ∙ ap indent c.as_bytes-line.ensures.value

pub returns-after-white-clause-value : goal.returns-after-white-clause-value
returns-after-white-clause-value c =
    sym (prefix_len_is is_space c.as_bytes-line.result.now c.white.at 0 c.white.invariant.bound
    c.white.invariant.white (λ lt. absurd (omega arith)))
    ∙ ap indent c.as_bytes-line.ensures.value
