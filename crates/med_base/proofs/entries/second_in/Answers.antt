use Rattle.std.proofs.Common.{◌≡◌, ◌∙◌, ap, sym, bytes_eq, decimal, false, true≢false, arith, ℕ, List}
use Rattle.med_base.proofs.EntryLemmas.{second_read, second_unread}
use Rattle.med_base.proofs.entries.second_in.Goals as goal

pub returns-in_default : goal.returns-in_default
returns-in_default c = sym
    (second_unread c.args.digits.now c.parse.result c.parse.ensures.value.0
    (λ n ok same. c.in_default.not-Ok n ok))

pub returns-then-eq : goal.returns-then-eq
returns-then-eq c =
    sym (second_read c.args.digits.now c.parse.result c.in-Ok.second c.parse.ensures.value.0
    c.in-Ok.is
    (ap (λ (t : List ℕ). bytes_eq t c.args.digits.now) (sym c.format.ensures.text)
    ∙ sym c.eq.ensures ∙ c.if-eq.true) (omega arith))

pub returns-else-eq : goal.returns-else-eq
returns-else-eq c =
    let digits : List ℕ = c.args.digits.now in
    let unequal : bytes_eq c.format.result.now digits ≡ false = sym c.eq.ensures ∙ c.if-eq.false in
    sym (second_unread digits c.parse.result c.parse.ensures.value.0 (λ n ok same.
    let is : n ≡ c.in-Ok.second = cc in
    let printed = ap (λ (m : ℕ). bytes_eq (decimal m) digits) is
    ∙ ap (λ (t : List ℕ). bytes_eq t digits) (sym c.format.ensures.text) in
    true≢false (sym same ∙ printed ∙ unequal)))
