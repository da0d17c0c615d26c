use Rattle.std.proofs.Common.{◌≡◌, ◌+◌, drop}
use Rattle.std.specs.List.{prefix_len}
use Rattle.med_manifest.specs.Written.{is_same_table}
use Rattle.med_manifest.proofs.written.run_of.Given as goal

-- all so far are of the table
abbrev pub invariant-loop-i : goal.invariant-loop-i
invariant-loop-i l =
    l.i + prefix_len (is_same_table l.first) (drop l.i l.rest)
    ≡ prefix_len (is_same_table l.first) l.rest
