use Rattle.std.proofs.Common.{arith, map, ◌∙◌}
use Rattle.serde_json.specs.View.{view}
use Rattle.med_base.proofs.Bools.{not_both}
use Rattle.med_base.proofs.Lists.{get_map, not_all}
use Rattle.med_ring.specs.Token.{IsNumber}
use Rattle.med_ring.proofs.host.are_numbers.Goals as goal

pub returns-then-not-is_number : goal.returns-then-not-is_number
returns-then-not-is_number c =
    let i = c.loop-value.value-index in
    let x = c.value-item.result in
    let none : IsNumber (view x) → ⊥ =
    λ is. not_both c.is_number.result c.if-not-is_number.true (c.is_number.ensures ∙ is) in (
      (λ t. absurd (cc t)),
      λ all. absurd
          (not_all IsNumber (map view c.args.list.now) i (view x)
          (get_map view c.args.list.now i x (omega arith) c.value-item.is) none all),
    )
