use Rattle.std.proofs.Common.{◌∙◌, sym, ap, rules}
use Rattle.med_words.specs.Fields.{Fields}
use Rattle.med_words.proofs.LineLemmas.{unnamed}
use Rattle.med_words.proofs.command.without_name.Goals as goal

pub unreachable-requires : goal.unreachable-requires
unreachable-requires c =
    let line = c.requires.line in
    let nots = c.in_default in
    unnamed line.0 c.args.line.now line.1
    (ap (λ (s : Fields). s.name) (sym line.1.own_is) ∙ c.requires.name) (search (rules, nots))
