use Rattle.std.proofs.Common.{◌≡◌, ◌∙◌, ap, sym, subst, map, ℕ, List, ◌++◌, ◌∷◌, [], String, Global}
use Rattle.std.proofs.lemmas.List.{map-append}
use Rattle.std.proofs.lemmas.Map.Iter.{rest_so_far, rest_more, iter_end}
use Rattle.std.proofs.lemmas.Result.{err_from_is_err_and}
use Rattle.std.specs.Map.Iter.{deref_pair}
use Rattle.std.specs.List.{AllZip}
use Rattle.serde_json.specs.declared.value.Value.{Value}
use Rattle.serde_json.specs.View.{view, members_view}
use Rattle.med_base.specs.Memory.{WhyIs}
use Rattle.med_ring.specs.Host.{host_view}
use Rattle.med_ring.specs.Members.{IsHostRefused}
use Rattle.med_ring.specs.Ring.{IsHost}
use Rattle.med_json.specs.Tree.{members_in}
use Rattle.med_ring.proofs.MemberLemmas.{one_more, first_fault}
use Rattle.med_ring.proofs.Repeated.{range_more}
use Rattle.med_ring.proofs.Order.{read_rising}
use Rattle.med_ring.proofs.members.read_hosts.Goals as goal

abbrev Entry : Type 0
Entry = String Global × Value

pub returns-in_err-read_host-clause-err : goal.returns-in_err-read_host-clause-err
returns-in_err-read_host-clause-err c =
    let p = err_from_is_err_and c.from_residual.result c.from_residual.ensures.1 in
    let done : List Entry = map deref_pair c.loop-name.yielded in
    let e : Entry = (c.in-Some.name.now, c.in-Some.value.now) in
    let rest : List Entry = c.next.new.self in
    let so_far : c.into_iter-name-iterator.result ≡ done ++ c.loop-name.name-iterator =
    rest_so_far deref_pair c.loop-name.yielded c.into_iter-name-iterator.result
    c.loop-name.name-iterator c.loop-name.yielded_by in
    let more : c.loop-name.name-iterator ≡ e ∷ rest =
    rest_more deref_pair c.loop-name.name-iterator c.next.new.self c.next.result
    (c.in-Some.name, c.in-Some.value) c.in-Some.is c.next.ensures.steps in
    let cut : c.args.members.now.entries ≡ done ++ e ∷ rest =
    sym c.into_iter-name-iterator.ensures.into_iter_gives.0 ∙ so_far
    ∙ ap (λ (r : List Entry). done ++ r) more in
    let refused = subst
    (λ (n : List ℕ). WhyIs (IsHostRefused (n, view e.1)) c.in_err-read_host.field-0.0)
    c.as_str.ensures.value c.in_err-read_host.ensures.err in
    rw (p.1, p.2)
    (first_fault c.args.members.now.entries done e rest (map host_view c.loop-name.hosts.items)
    c.in_err-read_host.field-0.0 cut c.loop-name.invariant.are_hosts refused)

pub loop-name-preserved : goal.loop-name-preserved
loop-name-preserved c =
    let done : List Entry = map deref_pair c.loop-name.yielded in
    let e : Entry = (c.in-Some.name.now, c.in-Some.value.now) in
    let is = subst (λ (n : List ℕ). IsHost (n, view e.1) (host_view c.in_ok-read_host.field-0))
    c.as_str.ensures.value c.in_ok-read_host.ensures.ok in
    let one = one_more done e c.loop-name.hosts.items c.in_ok-read_host.field-0
    c.push.new.self.items c.loop-name.invariant.are_hosts is c.in_ok-push.ensures.items in
    let ends = map-append deref_pair c.loop-name.yielded ((c.in-Some.name, c.in-Some.value) ∷ []) in
    record {
      are_hosts =
          subst (λ (es : List Entry). AllZip IsHost (members_in (members_view es))
          (map host_view c.push.new.self.items)) (sym ends) one;
      in_range =
          rw c.in_ok-push.ensures.items
          (range_more c.loop-name.hosts.items c.in_ok-read_host.field-0
          c.loop-name.invariant.in_range c.in_ok-read_host.ensures.bound);
    }

pub returns-clause-order : goal.returns-clause-order
returns-clause-order c =
    let gives = c.into_iter-name-iterator.ensures.into_iter_gives in
    let whole : map deref_pair c.loop-name.yielded ≡ c.args.members.now.entries =
    (iter_end deref_pair c.args.members.now.entries c.loop-name.yielded
    c.into_iter-name-iterator.result c.loop-name.name-iterator c.next.new.self c.next.result
    gives.0 c.loop-name.yielded_by c.in-None.is c.next.ensures.steps).0 in
    read_rising c.args.members.now.entries (map host_view c.loop-name.hosts.items) gives.5
    (subst (λ (es : List Entry). AllZip IsHost (members_in (members_view es))
    (map host_view c.loop-name.hosts.items)) whole c.loop-name.invariant.are_hosts)
