use Rattle.med_commands.proofs.fault.say_ring.Goals as goal

pub returns-in-NotJson-clause-text : goal.returns-in-NotJson-clause-text
returns-in-NotJson-clause-text g c = rw c.in-NotJson.is c.say.ensures.text

pub returns-in-NotRing-clause-text : goal.returns-in-NotRing-clause-text
returns-in-NotRing-clause-text g c = rw c.in-NotRing.is
    (rw c.as_bytes.ensures.value at c.say_named.ensures.text)
