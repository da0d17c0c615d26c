-- What the values of a line's options are, and which refusal of them is right.
use Rattle.std.specs.Prelude.{◌≡◌, Bool, true, false, Some, None, codes}
use Rattle.med_words.specs.declared.request.Usage.TheVariants.{Line, Value}
use Rattle.med_words.specs.declared.request.WordsError.{WordsError}
use Rattle.med_words.specs.declared.request.WordsError.TheVariants.{Usage, Memory}
use Rattle.med_words.specs.declared.values.Values.{Values}
use Rattle.med_words.specs.Grammar.{Text}
use Rattle.med_words.specs.Said.{Said}
use Rattle.med_words.specs.Settings.{value_of}
use Rattle.med_words.specs.Settings as setting
use Rattle.med_words.specs.Values.{read_name, read_rounds, fails, first_bad}

-- these are the values that the options give, and none of theirs fails
pub record Reads (said : Said) (v : Values) : Type 0 where
  pub name : value_of setting.backup_name said ≡ v.name
  pub name_fits : fails read_name (said.value (codes "backup-name")) ≡ false
  pub mode : value_of setting.mode said ≡ Some v.mode
  pub workers : value_of setting.workers said ≡ Some v.workers
  pub rounds : value_of setting.rounds said ≡ v.rounds
  pub rounds_fit : fails read_rounds (said.value (codes "rounds")) ≡ false
  pub taken : first_bad said ≡ None

-- a refusal over the value of one option is right: it names the option, whose value failed
abbrev pub Blames : Text → Bool → WordsError → Type 0
Blames name has_failed (Usage Line) = ⊥
Blames name has_failed (Usage (Value option)) = (option.now ≡ name) × (has_failed ≡ true)
Blames name has_failed Memory = Unit {0}

-- a refusal over the values of all options is right: it names the first that fails
abbrev pub BlamesValues : Said → WordsError → Type 0
BlamesValues said (Usage Line) = ⊥
BlamesValues said (Usage (Value option)) = first_bad said ≡ Some option.now
BlamesValues said Memory = Unit {0}
