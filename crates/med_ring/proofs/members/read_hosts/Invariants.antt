use Rattle.std.proofs.Common.{map}
use Rattle.std.specs.List.{AllZip}
use Rattle.std.specs.Map.Iter.{deref_pair}
use Rattle.serde_json.specs.View.{members_view}
use Rattle.med_ring.specs.Host.{host_view, tokens_in, AreInRange}
use Rattle.med_ring.specs.Ring.{IsHost}
use Rattle.med_json.specs.Tree.{members_in}
use Rattle.med_ring.proofs.members.read_hosts.Given as goal

-- the members so far are the hosts
abbrev pub invariant-loop-name : goal.invariant-loop-name
invariant-loop-name l = record {
  are_hosts :
      AllZip IsHost (members_in (members_view (map deref_pair l.yielded)))
      (map host_view l.hosts.items);
  in_range : AreInRange (tokens_in (map host_view l.hosts.items));
}
