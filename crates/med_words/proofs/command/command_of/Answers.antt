use Rattle.med_words.specs.Values.{read_name}
use Rattle.med_words.proofs.OwnLemmas.{none_read}
use Rattle.med_words.proofs.command.command_of.Goals as goal

pub without_name-requires-clause-name : goal.without_name-requires-clause-name
without_name-requires-clause-name c =
    none_read read_name _ c.args.values.name c.requires.values.name_fits c.requires.values.name
    c.in-None.is
