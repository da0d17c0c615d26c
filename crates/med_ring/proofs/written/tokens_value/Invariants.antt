use Rattle.std.proofs.Common.{◌≡◌, map, take}
use Rattle.serde_json.specs.View.{view}
use Rattle.med_ring.specs.Written.{token_data}
use Rattle.med_ring.proofs.written.tokens_value.Given as goal

abbrev pub invariant-loop-token : goal.invariant-loop-token
invariant-loop-token l = map view l.values.items ≡ map token_data (take l.token-index l.tokens)
