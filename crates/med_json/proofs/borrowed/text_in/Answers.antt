use Rattle.std.proofs.Common.{rules, ◌≡◌, ◌∙◌, ap, Some, None, option_map}
use Rattle.json.specs.Find.{get}
use Rattle.json.specs.Value.{value_view}
use Rattle.med_json.proofs.BorrowedLemmas.{text_found, text_absent}
use Rattle.med_json.proofs.borrowed.text_in.Goals as goal

pub returns-in_err-get : goal.returns-in_err-get
returns-in_err-get c =
    let absent : get c.args.key.now (value_view c.args.value.now) ≡ None = search rules in
    let none : c.from_residual.result ≡ None = search rules in
    record {
      value = λ h. ap (option_map (λ s. s.now)) none
          ∙ text_absent c.args.key.now c.args.value.now h absent;
    }

pub returns : goal.returns
returns c =
    let w = c.in_ok-get.field-0.now in
    let found : get c.args.key.now (value_view c.args.value.now) ≡ Some (value_view w) =
    search rules in
    record { value = λ h. text_found c.args.key.now c.args.value.now h w _ found c.as_str.ensures }
