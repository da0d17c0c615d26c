use Rattle.med_ring.proofs.Faults.{no_ring}
use Rattle.med_ring.proofs.OneCause.{cause_is_one}
use Rattle.med_ring.proofs.OneRing.{ring_is_one}
use Rattle.med_ring.proofs.laws.one_ring_of_bytes.Goals as goal

pub returns : goal.returns
returns c = record {
  one = ring_is_one;
  one_cause = cause_is_one;
  refused = no_ring;
}
