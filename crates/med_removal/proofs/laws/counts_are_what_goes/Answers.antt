use Rattle.std.proofs.Common.{sym}
use Rattle.med_removal.proofs.Counted.{counted_bytes, counted_files}
use Rattle.med_removal.proofs.laws.counts_are_what_goes.Goals as goal

pub returns-clause-files : goal.returns-clause-files
returns-clause-files c = λ before d f names named grace now seconds node valid order.
    sym (counted_files before f d node names named grace now seconds valid order)

pub returns-clause-bytes : goal.returns-clause-bytes
returns-clause-bytes c = λ before d f names named grace now seconds node valid order.
    sym (counted_bytes before f d node names named grace now seconds valid order)
