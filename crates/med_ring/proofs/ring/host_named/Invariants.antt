use Rattle.std.proofs.Common.{◌≡◌, take}
use Rattle.std.specs.List.{All}
use Rattle.med_ring.specs.declared.ring.Host.{Host}
use Rattle.med_ring.proofs.ring.host_named.Given as goal

-- no host so far has the name
abbrev pub invariant-loop-host : goal.invariant-loop-host
invariant-loop-host l = All (λ (h : Host). h.name ≡ l.name → ⊥) (take l.host-index l.hosts)
