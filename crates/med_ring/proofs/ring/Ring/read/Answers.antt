use Rattle.std.proofs.Common.{sym, subst, map, List, int_eq}
use Rattle.std.specs.List.{IsDistinct}
use Rattle.std.proofs.lemmas.Result.{err_from_is_err_and}
use Rattle.serde_json.specs.View.{view, members_view}
use Rattle.med_base.specs.Memory.{WhyIs}
use Rattle.med_ring.specs.declared.ring.Host.{Host}
use Rattle.med_ring.specs.Host.{host_view, tokens_in}
use Rattle.med_json.specs.Tree.{members_in}
use Rattle.med_ring.specs.Twice.{AreTokensRefused}
use Rattle.med_ring.proofs.Faults.{error_no_ring}
use Rattle.med_ring.proofs.MemberLemmas.{members_error, tokens_error}
use Rattle.med_ring.proofs.Order.{keeps_rules}
use Rattle.med_ring.proofs.ring.Ring.read.Goals as goal

pub returns-in_err-tree-clause-refused : goal.returns-in_err-tree-clause-refused
returns-in_err-tree-clause-refused c =
    let p = err_from_is_err_and c.from_residual.result
    c.from_residual.ensures.1 in
    rw (p.1, p.2)
    (error_no_ring c.args.bytes.now c.in_err-tree.field-0.0 c.in_err-tree.ensures.err)

pub returns-in_err-hosts-clause-refused : goal.returns-in_err-hosts-clause-refused
returns-in_err-hosts-clause-refused c =
    let p = err_from_is_err_and c.from_residual-in_err-hosts.result
    c.from_residual-in_err-hosts.ensures.1 in
    let err = c.in_err-hosts.field-0.0 in
    rw (p.1, p.2)
    (error_no_ring c.args.bytes.now err
    (members_error c.args.bytes.now (view c.in_ok-tree.tree)
    (members_view c.in-Some.members.now.entries) c.in_ok-tree.ensures.ok
    (sym c.in-Some.ensures) err c.in_err-hosts.ensures.err))

pub returns-in_err-check_tokens-clause-refused : goal.returns-in_err-check_tokens-clause-refused
returns-in_err-check_tokens-clause-refused c =
    let p = err_from_is_err_and c.from_residual-in_err-check_tokens.result
    c.from_residual-in_err-check_tokens.ensures.1 in
    let err = c.in_err-check_tokens.field-0.0 in
    let refused = subst (λ (hs : List Host).
    WhyIs (AreTokensRefused (tokens_in (map host_view hs))) err)
    c.as_slice.ensures.value c.in_err-check_tokens.ensures.err in
    rw (p.1, p.2)
    (error_no_ring c.args.bytes.now err
    (tokens_error c.args.bytes.now (view c.in_ok-tree.tree)
    (members_view c.in-Some.members.now.entries) c.in_ok-tree.ensures.ok (sym c.in-Some.ensures)
    (map host_view c.in_ok-hosts.hosts.items) err c.in_ok-hosts.ensures.ok refused))

pub invariant_of-result : goal.invariant_of-result
invariant_of-result c =
    keeps_rules (members_in (members_view c.in-Some.members.now.entries))
    (map host_view c.in_ok-hosts.hosts.items) c.in_ok-hosts.ensures.ok c.in_ok-hosts.ensures.order
    c.in_ok-hosts.ensures.bound
    (subst (λ (hs : List Host). IsDistinct int_eq (tokens_in (map host_view hs)))
    c.as_slice.ensures.value c.in_ok-check_tokens.ensures.ok)

pub returns-clause-fits : goal.returns-clause-fits
returns-clause-fits c =
    keeps_rules (members_in (members_view c.in-Some.members.now.entries))
    (map host_view c.in_ok-hosts.hosts.items) c.in_ok-hosts.ensures.ok c.in_ok-hosts.ensures.order
    c.in_ok-hosts.ensures.bound
    (subst (λ (hs : List Host). IsDistinct int_eq (tokens_in (map host_view hs)))
    c.as_slice.ensures.value c.in_ok-check_tokens.ensures.ok)
