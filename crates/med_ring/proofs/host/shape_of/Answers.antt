use Rattle.std.proofs.Common.{◌≡◌, ◌∙◌, rules, sym, subst, map, Some, codes}
use Rattle.std.specs.List.{AllByRecursion}
use Rattle.serde_json.specs.View.{view}
use Rattle.med_base.proofs.Bools.{not_both}
use Rattle.med_json.specs.Tree.{list_at}
use Rattle.med_ring.specs.Token.{IsNumber}
use Rattle.med_ring.proofs.host.shape_of.Goals as goal

pub returns-then-not-are_numbers-clause-none : goal.returns-then-not-are_numbers-clause-none
returns-then-not-are_numbers-clause-none c = λ _ numbers is_up rack dc is.
    let found = c.in-Some.numbers.now in
    let list : list_at (codes "tokens") (view c.args.value.now) ≡ Some (map view found) =
    search rules in
    let same : numbers ≡ map view found = cc (sym is.tokens_are ∙ list) in
    let all : AllByRecursion IsNumber (map view found) =
    subst (AllByRecursion IsNumber) same is.are_numbers in
    not_both c.are_numbers.result c.if-not-are_numbers.true (c.are_numbers.ensures.1 all)
