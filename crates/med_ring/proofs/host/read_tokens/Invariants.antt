use Rattle.std.proofs.Common.{map, take}
use Rattle.std.specs.List.{AllZip}
use Rattle.serde_json.specs.View.{view}
use Rattle.med_ring.specs.Host.{AreInRange}
use Rattle.med_ring.specs.Token.{IsToken}
use Rattle.med_ring.proofs.host.read_tokens.Given as goal

abbrev pub invariant-loop-value : goal.invariant-loop-value
invariant-loop-value l = record {
  are_tokens : AllZip IsToken (map view (take l.value-index l.numbers)) l.tokens.items;
  in_range : AreInRange l.tokens.items;
}
