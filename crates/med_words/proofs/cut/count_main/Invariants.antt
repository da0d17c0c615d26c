use Rattle.std.proofs.Common.{◌≡◌, ◌+◌, false, drop, map, string_bytes}
use Rattle.med_words.specs.Cut.{main_count}
use Rattle.med_words.proofs.cut.count_main.Given as goal

-- the words so far stand before the command word
abbrev pub invariant-loop-at : goal.invariant-loop-at
invariant-loop-at l =
    l.at + main_count l.is_value (map string_bytes (drop l.at l.words))
    ≡ main_count false (map string_bytes l.words)
