use Rattle.std.proofs.Common.{ap, Err}
use Rattle.med_words.specs.Tables.{word_of}
use Rattle.med_words.proofs.OneRequest.{asks_nothing, blames_words}
use Rattle.med_words.proofs.read.read_words.Goals as goal

pub returns-in-Err-Line-clause-err : goal.returns-in-Err-Line-clause-err
returns-in-Err-Line-clause-err c = c.in-Err-Line.ensures.line (ap Err c.in-Err-Line.field-0-is)

pub returns-in-Err-Line-clause-refused : goal.returns-in-Err-Line-clause-refused
returns-in-Err-Line-clause-refused c asked r =
    c.in-Err-Line.ensures.line (ap Err c.in-Err-Line.field-0-is) r.main r.own
    (word_of asked.action) r.line

pub returns-in-Err-clause-refused : goal.returns-in-Err-clause-refused
returns-in-Err-clause-refused c =
    asks_nothing _ c.in-Err.error
    (blames_words _ c.in-Ok.line c.in-Ok.ensures.ok c.in-Err.error c.in-Err.ensures.err)
