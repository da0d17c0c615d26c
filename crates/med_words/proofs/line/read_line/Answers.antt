use Rattle.std.proofs.Common.{◌∙◌, refl, sym, subst, true≢false, List, ◌∷◌, map, string_bytes}
use Rattle.std.specs.List.{AllByRecursion}
use Rattle.std.proofs.lemmas.List.{length-map}
use Rattle.med_base.proofs.Lists.{all_split}
use Rattle.med_words.specs.Grammar.{Text, IsLine}
use Rattle.med_words.specs.WellFormed.{IsWellFormed}
use Rattle.med_words.proofs.AtWord.{same_parts, word_left}
use Rattle.med_words.specs.Tables.{main_options, commands}
use Rattle.med_words.proofs.FirstLook.{well_formed_line}
use Rattle.med_words.proofs.TheTables.{main_table, own_table, plain_name, table_of, well_formed_word}
use Rattle.med_words.proofs.line.read_line.Goals as goal

pub returns-then-not-are_well_formed-clause-line : goal.returns-then-not-are_well_formed-clause-line
returns-then-not-are_well_formed-clause-line c _ main own word s =
    true≢false (sym (c.are_well_formed.ensures.value.1
    (well_formed_line main_options commands (table_of main_options main_table)
    (λ w t e. table_of t (own_table w t e))
    (λ w t e. well_formed_word w (plain_name w t e)) (map string_bytes c.args.words.now) main word
    own s)) ∙ c.if-not-are_well_formed.true)

pub line_at-requires-clause-own : goal.line_at-requires-clause-own
line_at-requires-clause-own c =
    let parts = c.in-Some.parts in
    let each = c.are_well_formed.ensures.value.0 c.if-not-are_well_formed.false in
    (all_split IsWellFormed (map string_bytes parts.main.now)
    (parts.word.now ∷ map string_bytes parts.own.now)
    (subst (AllByRecursion IsWellFormed) c.in-Some.ensures.some each)).1.1

pub returns-in-Some-clause-line : goal.returns-in-Some-clause-line
returns-in-Some-clause-line c is main own word s =
    let words : List Text = map string_bytes c.args.words.now in
    let parts = c.in-Some.parts in
    let same = same_parts words main own word s (map string_bytes parts.main.now)
    (map string_bytes parts.own.now) parts.word.now c.in-Some.ensures.some
    (length-map parts.main.now string_bytes ∙ c.in-Some.ensures.count) in
    c.line_at.ensures.line is words main own
    (subst (λ (w : Text). IsLine main_options commands words main w own) (sym same.1) s) same.0
    same.2

pub returns-in-None-clause-line : goal.returns-in-None-clause-line
returns-in-None-clause-line c _ main own word s =
    word_left (map string_bytes c.args.words.now) main own word s
    (rw (length-map c.args.words.now string_bytes) (c.in-None.ensures.none refl))
