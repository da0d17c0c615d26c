use Rattle.med_commands.proofs.print_config.say_options.Goals as goal

pub returns-in-BadNumber-clause-text : goal.returns-in-BadNumber-clause-text
returns-in-BadNumber-clause-text g c = rw c.in-BadNumber.is
    (rw c.as_bytes-in-BadNumber.ensures.value at c.say_named-in-BadNumber.ensures.text)

pub returns-in-BadName-clause-text : goal.returns-in-BadName-clause-text
returns-in-BadName-clause-text g c = rw c.in-BadName.is
    (rw c.as_bytes-in-BadName.ensures.value at c.say_named-in-BadName.ensures.text)
