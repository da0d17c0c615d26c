use Rattle.std.proofs.Common.{◌≡◌, ◌++◌, take, int_eq}
use Rattle.std.specs.List.{IsDistinct}
use Rattle.med_ring.proofs.repeats.add_tokens.Given as goal

abbrev pub invariant-loop-token : goal.invariant-loop-token
invariant-loop-token l = record {
  same : l.seen.keys ≡ l.fn.seen.keys ++ take l.token-index l.tokens;
  distinct : IsDistinct int_eq l.seen.keys;
}
