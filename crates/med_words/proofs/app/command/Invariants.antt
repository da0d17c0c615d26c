use Rattle.std.proofs.Common.{◌≡◌, map, take}
use Rattle.clap.specs.Words.{app_of}
use Rattle.med_words.specs.Built.{flat_app}
use Rattle.med_words.specs.Views.{opt_view}
use Rattle.med_words.proofs.app.command.Given as goal

abbrev pub invariant-loop-option : goal.invariant-loop-option
invariant-loop-option l = app_of l.command ≡ flat_app (map opt_view (take l.option-index l.table))
