use Rattle.med_words.proofs.OneRequest.{one_request}
use Rattle.med_words.proofs.laws.one_request.Goals as goal

pub returns : goal.returns
returns c = record { one = one_request }
