use Rattle.med_manifest.proofs.Once.{manifest_once}
use Rattle.med_manifest.proofs.OneCause.{cause_once, refused_none}
use Rattle.med_manifest.proofs.laws.manifests_are_one.Goals as goal

pub returns : goal.returns
returns c = record { one = manifest_once; one_cause = cause_once; refused = refused_none }
