use Rattle.std.proofs.Common.{map, option_map}
use Rattle.std.specs.Map.Iter.{deref_pair}
use Rattle.med_index.proofs.NewestLemmas.{IsNewestOf}
use Rattle.med_index.proofs.newest.newest_found.Given as goal

-- it is the newest so far
abbrev pub invariant-loop-name : goal.invariant-loop-name
invariant-loop-name l =
    IsNewestOf l.but (map deref_pair l.yielded) (option_map (λ b. (b.0, b.1.now)) l.newest)
