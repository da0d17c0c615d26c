use Rattle.med_ini.proofs.OneFault.{one_fault_of, fault_none}
use Rattle.med_ini.proofs.OneReading.{one_reading_of}
use Rattle.med_ini.proofs.laws.one_reading.Goals as goal

pub returns-clause-one : goal.returns-clause-one
returns-clause-one c = one_reading_of

pub returns-clause-one_cause : goal.returns-clause-one_cause
returns-clause-one_cause c = one_fault_of

pub returns-clause-refused : goal.returns-clause-refused
returns-clause-refused c = fault_none
