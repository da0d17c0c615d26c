use Rattle.std.proofs.Common.{sym, None, arith}
use Rattle.std.proofs.lemmas.Str.Pattern.{strip_prefix_char}
use Rattle.med_ini.proofs.LineLemmas.{no_bracket}
use Rattle.med_ini.proofs.lines.header_in.Goals as goal

pub returns-in-None : goal.returns-in-None
returns-in-None c =
    sym (no_bracket c.args.text.now
    (strip_prefix_char 91 c.args.text.now None c.in-None.ensures.cases (omega arith)))
