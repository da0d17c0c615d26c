use Rattle.std.proofs.Common.{map}
use Rattle.std.specs.Map.Iter.{deref_pair}
use Rattle.med_index.specs.Manifests.{AreManifests}
use Rattle.med_index.proofs.manifests.manifests_outside.Given as goal

-- these are the manifests of the backups so far
abbrev pub invariant-loop-name : goal.invariant-loop-name
invariant-loop-name l =
    AreManifests l.layout l.node l.found l.but (map deref_pair l.yielded) l.manifests
