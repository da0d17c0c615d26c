use Rattle.std.proofs.Common.{rules, ◌≡◌, ◌∙◌, ap, sym, Some, None, option_and_then}
use Rattle.json.specs.Find.{get, as_number}
use Rattle.json.specs.Value.{value_view}
use Rattle.serde_json.specs.Find.{as_u64}
use Rattle.serde_json.specs.Read.{number_of}
use Rattle.med_json.proofs.BorrowedLemmas.{number_found, number_absent}
use Rattle.med_json.proofs.borrowed.number_in.Goals as goal

pub returns-in_err-get : goal.returns-in_err-get
returns-in_err-get c =
    let absent : get c.args.key.now (value_view c.args.value.now) ≡ None = search rules in
    let none : c.from_residual.result ≡ None = search rules in
    record { value = λ h. none ∙ number_absent c.args.key.now c.args.value.now h absent }

pub returns-in_err-as_number : goal.returns-in_err-as_number
returns-in_err-as_number c =
    let w = c.in_ok-get.field-0.now in
    let found : get c.args.key.now (value_view c.args.value.now) ≡ Some (value_view w) =
    search rules in
    let none : as_number (value_view w) ≡ None = search rules in
    let left : c.from_residual-in_err-as_number.result ≡ None = search rules in
    record {
      value = λ h. left ∙ number_found c.args.key.now c.args.value.now h w None found
          (sym (ap (λ o. option_and_then as_u64 (option_and_then number_of o)) none));
    }

pub returns : goal.returns
returns c =
    let w = c.in_ok-get.field-0.now in
    let found : get c.args.key.now (value_view c.args.value.now) ≡ Some (value_view w) =
    search rules in
    let is : as_number (value_view w) ≡ Some c.in_ok-as_number.field-0.now = search rules in
    record {
      value = λ h. number_found c.args.key.now c.args.value.now h w _ found
          (c.whole_number.ensures
          ∙ sym (ap (λ o. option_and_then as_u64 (option_and_then number_of o)) is));
    }
