use Rattle.std.proofs.Common.{◌∙◌}
use Rattle.med_ini.proofs.NameLemmas.{option_held}
use Rattle.med_ini.proofs.labels.contains_option.Goals as goal

pub returns : goal.returns
returns c =
    c.contains.ensures
    ∙ option_held c.args.options.now.keys (record { section = c.args.section; key = c.args.key })
