use Rattle.std.proofs.Common.{rules, ◌≡◌, ◌∙◌, ap, sym, Some, None}
use Rattle.json.specs.Find.{as_array as array_in}
use Rattle.json.specs.Value.{value_view, items_view}
use Rattle.json.specs.declared.value.Value.{the_lemmas}
use Rattle.json.proofs.Trees.{view-Array}
use Rattle.med_json.proofs.BorrowedLemmas.{items_found, items_absent}
use Rattle.med_json.proofs.borrowed.items_of.Goals as goal

pub returns-in-Array-clause-value : goal.returns-in-Array-clause-value
returns-in-Array-clause-value c h =
    let seen : array_in (value_view c.args.value.now) ≡ Some (items_view c.as_slice.result.now) =
    ap array_in (ap value_view c.in-Array.is ∙ view-Array c.in-Array.list)
    ∙ ap (λ vs. Some (items_view vs)) (sym c.as_slice.ensures.value) in
    (items_found c.args.value.now h c.as_slice.result.now seen).1

pub returns-in-Array-clause-tree : goal.returns-in-Array-clause-tree
returns-in-Array-clause-tree c h =
    let seen : array_in (value_view c.args.value.now) ≡ Some (items_view c.as_slice.result.now) =
    ap array_in (ap value_view c.in-Array.is ∙ view-Array c.in-Array.list)
    ∙ ap (λ vs. Some (items_view vs)) (sym c.as_slice.ensures.value) in
    (items_found c.args.value.now h c.as_slice.result.now seen).0

pub returns-in_default : goal.returns-in_default
returns-in_default c =
    let none : array_in (value_view c.args.value.now) ≡ None =
    search (rules, the_lemmas, c.in_default.not-Array) in
    record { value = λ h. items_absent c.args.value.now h none; tree = λ h. tt }
