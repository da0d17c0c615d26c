use Rattle.std.proofs.Common.{◌∙◌, codes, map, refl}
use Rattle.clap.specs.Words.{found_of}
use Rattle.clap.specs.Walk.{rows_of}
use Rattle.med_words.specs.Grammar.{is_used}
use Rattle.med_words.specs.Views.{opt_view}
use Rattle.med_words.proofs.SaidLemmas.{own_said, flag_row}
use Rattle.med_words.proofs.TheTables.{own_table}
use Rattle.med_words.proofs.line.read_own.Goals as goal

pub matched-requires-clause-table : goal.matched-requires-clause-table
matched-requires-clause-table c =
    own_table c.requires.options.0 (map opt_view c.args.options.now) c.requires.options.1

pub returns-in-Ok-clause-ok : goal.returns-in-Ok-clause-ok
returns-in-Ok-clause-ok c =
    let (word, is) = c.requires.options in
    let m = c.in-Ok.ensures.ok in
    let table = map opt_view c.args.options.now in
    let rows = rows_of (found_of c.in-Ok.matches) in
    record {
      uses = m.uses;
      spell = m.spell;
      said = c.own_of.ensures (is_used (codes "all-nodes") m.uses)
          (is_used (codes "show-all") m.uses)
          (flag_row word table is m.uses rows m.held (codes "all-nodes") refl)
          (flag_row word table is m.uses rows m.held (codes "show-all") refl)
          ∙ own_said word table is m.uses rows m.held;
    }
