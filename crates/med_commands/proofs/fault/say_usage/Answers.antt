use Rattle.med_commands.proofs.fault.say_usage.Goals as goal

pub returns-in-Value-clause-text : goal.returns-in-Value-clause-text
returns-in-Value-clause-text g c = rw c.in-Value.is
    (rw c.as_bytes.ensures.value at c.say_named.ensures.text)
