use Rattle.std.proofs.Common.{◌≡◌, ◌∙◌, ◌+◌, ◌++◌, ℕ, ℤ, List, map, drop, ap, sym, arith}
use Rattle.std.proofs.lemmas.Result.{err_from_is_err_and}
use Rattle.med_ring.specs.declared.ring.Host.{Host}
use Rattle.med_ring.specs.Host.{host_view, tokens_in}
use Rattle.med_ring.proofs.Repeated.{tokens_cut, tokens_error_more}
use Rattle.med_ring.proofs.repeats.check_tokens.Goals as goal

pub returns-in_err-add_tokens-clause-err : goal.returns-in_err-add_tokens-clause-err
returns-in_err-add_tokens-clause-err c =
    let p = err_from_is_err_and c.from_residual.result c.from_residual.ensures.1 in
    let i : ℕ = c.loop-host.host-index in
    let hosts : List Host = c.args.hosts.now in
    let x : Host = c.host-item.result in
    let keys : List ℤ = c.loop-host.seen.keys in
    let rest : List ℤ = tokens_in (map host_view (drop (i + 1) hosts)) in
    let cut : tokens_in (map host_view hosts) ≡ (keys ++ c.as_slice.result.now) ++ rest =
    tokens_cut hosts i x (omega arith) c.host-item.is
    ∙ ap (λ (ts : List ℤ). (ts ++ (host_view x).tokens) ++ rest) (sym c.loop-host.invariant.same)
    ∙ ap (λ (ts : List ℤ). (keys ++ ts) ++ rest) (sym c.as_slice.ensures.value) in
    rw (p.1, p.2)
    (tokens_error_more (keys ++ c.as_slice.result.now) rest (tokens_in (map host_view hosts))
    c.in_err-add_tokens.field-0.0 cut c.in_err-add_tokens.ensures.err)
