use Rattle.std.proofs.Common.{◌≡◌, ◌∙◌, sym, subst, arith}
use Rattle.std.specs.List.{All}
use Rattle.std.proofs.lemmas.List.Elements.{All-more, All-map, All-contains}
use Rattle.std.proofs.lemmas.List.{take_all}
use Rattle.std.proofs.lemmas.Slice.Eq.{bytes_eq-Decides}
use Rattle.med_ring.specs.declared.ring.Host.{Host}
use Rattle.med_ring.specs.Host.{RingHost, host_view}
use Rattle.med_base.proofs.Bools.{not_both}
use Rattle.med_base.proofs.Lists.{contains_map}
use Rattle.med_ring.proofs.ring.host_named.Goals as goal

pub returns-then-eq : goal.returns-then-eq
returns-then-eq c = (
  contains_map host_view c.args.hosts.now c.loop-host.host-index c.host-item.result (omega arith)
      c.host-item.is,
  sym c.as_str.ensures.value
      ∙ (bytes_eq-Decides c.as_str.result.now c.args.name.now).0 (sym c.if-eq.ensures),
)

pub loop-host-preserved : goal.loop-host-preserved
loop-host-preserved c =
    let none : c.host-item.result.name ≡ c.args.name.now → ⊥ =
    λ is. not_both c.eq.result c.if-eq.false
    (c.eq.ensures ∙ (bytes_eq-Decides c.as_str.result.now c.args.name.now).1
    (c.as_str.ensures.value ∙ is)) in
    All-more (λ (h : Host). h.name ≡ c.args.name.now → ⊥) c.args.hosts.now c.loop-host.host-index
    c.host-item.result (omega arith) c.loop-host.invariant
    (subst (λ (h : Host). h.name ≡ c.args.name.now → ⊥) c.host-item.is none)

pub returns : goal.returns
returns c =
    let all : All (λ (h : Host). h.name ≡ c.args.name.now → ⊥) c.args.hosts.now =
    subst (All (λ (h : Host). h.name ≡ c.args.name.now → ⊥))
    (take_all c.loop-host.host-index c.args.hosts.now (omega arith)) c.loop-host.invariant in
    λ h stands is. All-contains (λ (r : RingHost). r.name ≡ c.args.name.now → ⊥) _ h
    (All-map (λ (r : RingHost). r.name ≡ c.args.name.now → ⊥) host_view c.args.hosts.now all)
    stands is
