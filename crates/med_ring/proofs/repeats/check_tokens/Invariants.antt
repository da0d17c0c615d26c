use Rattle.std.proofs.Common.{◌≡◌, map, take, int_eq}
use Rattle.std.specs.List.{IsDistinct}
use Rattle.med_ring.specs.Host.{host_view, tokens_in}
use Rattle.med_ring.proofs.repeats.check_tokens.Given as goal

abbrev pub invariant-loop-host : goal.invariant-loop-host
invariant-loop-host l = record {
  same : l.seen.keys ≡ tokens_in (map host_view (take l.host-index l.hosts));
  distinct : IsDistinct int_eq l.seen.keys;
}
