use Rattle.std.proofs.Common.{◌∙◌, sym, ap, rules, None}
use Rattle.med_words.specs.Fields.{Fields}
use Rattle.med_words.specs.Values.{read_name, given_or}
use Rattle.med_words.proofs.LineLemmas.{named}
use Rattle.med_words.proofs.command.with_name.Goals as goal

pub unreachable-requires : goal.unreachable-requires
unreachable-requires c =
    let line = c.requires.line in
    let nots = c.in_default in
    named line.0 c.args.line.now line.1 c.args.name read_name
    (ap (λ (s : Fields). given_or None read_name s.name) (sym line.1.own_is) ∙ c.requires.name)
    (search (rules, nots))
