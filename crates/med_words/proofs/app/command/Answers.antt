use Rattle.std.proofs.Common.{◌∙◌, ap₂}
use Rattle.clap.specs.Words.{with_rule}
use Rattle.med_words.proofs.Added.{more_options}
use Rattle.med_words.proofs.app.command.Goals as goal

pub loop-option-preserved : goal.loop-option-preserved
loop-option-preserved c = c.in_ok-command.ensures.shape c.arg_of.ensures.local
    ∙ ap₂ with_rule c.loop-option.invariant c.arg_of.ensures.rule
    ∙ more_options c.args.table.now c.loop-option.option-index _ c.loop-option-test.true
