use Rattle.std.proofs.Common.{◌≡◌, drop}
use Rattle.med_mem.specs.Snaps.{first_for, given}
use Rattle.med_mem.proofs.nodes.find_added.Given as goal

-- none of those so far was added for the three
abbrev pub invariant-loop-added : goal.invariant-loop-added
invariant-loop-added l =
    first_for l.root l.node l.tag (given (drop l.added-index l.snaps))
    ≡ first_for l.root l.node l.tag (given l.snaps)
