use Rattle.std.proofs.Common.{◌∙◌, sym, arith}
use Rattle.med_ini.proofs.LineLemmas.{kept_is}
use Rattle.med_ini.proofs.lines.kept_len.Goals as goal

pub returns-else-is_white_or_feed-clause-value : goal.returns-else-is_white_or_feed-clause-value
returns-else-is_white_or_feed-clause-value c =
    kept_is c.args.text.now c.blank.end c.blank.invariant.bound c.blank.invariant.blank
    (λ positive. sym c.is_white_or_feed.ensures ∙ c.if-is_white_or_feed.false)

pub returns-after-blank-clause-value : goal.returns-after-blank-clause-value
returns-after-blank-clause-value c =
    kept_is c.args.text.now c.blank.end c.blank.invariant.bound c.blank.invariant.blank
    (λ positive. absurd (omega arith))
