use Rattle.std.proofs.Common.{rules, ◌≡◌, ◌∙◌, ap, map, Some, None, option_map}
use Rattle.json.specs.Find.{get}
use Rattle.json.specs.Value.{value_view}
use Rattle.med_json.specs.Borrowed.{tree_of}
use Rattle.med_json.proofs.BorrowedLemmas.{found_at, list_found, list_absent}
use Rattle.med_json.proofs.borrowed.list_in.Goals as goal

pub returns-in_err-get-clause-value : goal.returns-in_err-get-clause-value
returns-in_err-get-clause-value c h =
    let absent : get c.args.key.now (value_view c.args.value.now) ≡ None = search rules in
    let none : c.from_residual.result ≡ None = search rules in
    ap (option_map (λ s. map tree_of s.now)) none
    ∙ list_absent c.args.key.now c.args.value.now h absent

pub returns-clause-value : goal.returns-clause-value
returns-clause-value c h =
    let w = c.in_ok-get.field-0.now in
    let found : get c.args.key.now (value_view c.args.value.now) ≡ Some (value_view w) =
    search rules in
    list_found c.args.key.now c.args.value.now h w _ found c.items_of.ensures.value

pub returns-clause-tree : goal.returns-clause-tree
returns-clause-tree c h =
    let w = c.in_ok-get.field-0.now in
    let found : get c.args.key.now (value_view c.args.value.now) ≡ Some (value_view w) =
    search rules in
    c.items_of.ensures.tree (found_at c.args.key.now c.args.value.now h w found).0
