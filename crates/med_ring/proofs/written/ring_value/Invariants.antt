use Rattle.std.proofs.Common.{◌≡◌, map, take}
use Rattle.serde_json.specs.View.{members_view}
use Rattle.med_ring.specs.Host.{host_view}
use Rattle.med_ring.specs.Written.{members_data}
use Rattle.med_ring.proofs.written.ring_value.Given as goal

abbrev pub invariant-loop-host : goal.invariant-loop-host
invariant-loop-host l =
    members_view l.members.entries ≡ members_data (map host_view (take l.host-index l.hosts))
