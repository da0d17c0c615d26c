use Rattle.med_ini.proofs.LineLemmas.{past_boundary}
use Rattle.med_ini.proofs.lines.past_white.Goals as goal

pub range_from-requires : goal.range_from-requires
range_from-requires c positive =
    past_boundary c.args.line.now c.indent_of.result c.utf8.line c.indent_of.ensures.bound
    c.indent_of.ensures.value
