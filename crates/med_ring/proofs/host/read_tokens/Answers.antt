use Rattle.std.proofs.Common.{◌≡◌, ◌∙◌, ◌++◌, ◌∷◌, [], ℤ, ap, arith, rules, sym, to_z, of_z, w64, FitsSigned, pos, negsuc}
use Rattle.serde_json.specs.View.{view}
use Rattle.med_ring.specs.Host.{IsInRange}
use Rattle.med_ring.specs.Token.{IsToken}
use Rattle.med_base.proofs.Lists.{zip_next, all_push}
use Rattle.med_ring.proofs.host.read_tokens.Goals as goal

in_range : (t : ℤ) → FitsSigned w64 t → IsInRange t
in_range (pos n) fits = fits.sfits
in_range (negsuc n) fits = fits.sfits

pub loop-value-preserved : goal.loop-value-preserved
loop-value-preserved c =
    let token : ℤ = c.in-Some.token in
    let same : to_z w64 (of_z w64 token) ≡ token = search rules in
    let more : c.push.new.self.items ≡ c.loop-value.tokens.items ++ token ∷ [] =
    c.in_ok-push.ensures.items ∙ ap (λ (t : ℤ). c.loop-value.tokens.items ++ t ∷ []) same in
    let fits : FitsSigned w64 token = search rules in
    let range : IsInRange token = in_range token fits in
    record {
      are_tokens =
          zip_next IsToken view c.args.numbers.now c.loop-value.tokens.items c.push.new.self.items
          c.loop-value.value-index c.value-item.result c.in-Some.token (omega arith) c.value-item.is
          c.loop-value.invariant.are_tokens (sym c.in-Some.ensures) more;
      in_range =
          rw more
          (all_push IsInRange c.loop-value.tokens.items token
          c.loop-value.invariant.in_range range);
    }
