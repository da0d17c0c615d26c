use Rattle.std.proofs.Common.{◌∙◌, ap, sym, rules, option_map}
use Rattle.std.specs.Str.{str_to_ascii_lowercase}
use Rattle.med_ini.specs.Lines.{Line, stripped}
use Rattle.med_ini.proofs.LineLemmas.{lower_empty}
use Rattle.med_ini.proofs.labels.option_in.Goals as goal

abbrev both : Line × Line → Line × Line
both p = (str_to_ascii_lowercase (stripped p.0), stripped p.1)

pub returns-then-is_empty-clause-err : goal.returns-then-is_empty-clause-err
returns-then-is_empty-clause-err c = (
  str_to_ascii_lowercase (stripped c.in-Some.key.now),
  stripped c.in-Some.value.now,
  sym (ap (option_map both) c.in-Some.ensures),
  lower_empty _ _ _ c.strip-key.ensures (sym c.is_empty.ensures ∙ c.if-is_empty.true),
)

pub returns-then-contains_option-clause-err : goal.returns-then-contains_option-clause-err
returns-then-contains_option-clause-err c = (
  str_to_ascii_lowercase (stripped c.in-Some.key.now),
  stripped c.in-Some.value.now,
  sym (ap (option_map both) c.in-Some.ensures),
  lower_empty _ _ _ c.strip-key.ensures (sym c.is_empty.ensures ∙ c.if-is_empty.false),
  search rules,
)
