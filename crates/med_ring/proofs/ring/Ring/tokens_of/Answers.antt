use Rattle.std.proofs.Common.{◌∙◌, ap, subst, map, ℕ, List, None}
use Rattle.med_ring.specs.Host.{RingHost, host_view, TellsHost}
use Rattle.med_ring.proofs.ring.Ring.tokens_of.Goals as goal

pub returns-in-None : goal.returns-in-None
returns-in-None c =
    let same = ap (map host_view) c.as_slice.ensures.value ∙ c.self.view_is in
    record {
      value =
          subst (λ (n : List ℕ). TellsHost c.args.self.now n None) c.as_str.ensures.value
          (subst (λ (hs : List RingHost). TellsHost hs c.as_str.result.now None) same
          c.in-None.ensures);
    }
