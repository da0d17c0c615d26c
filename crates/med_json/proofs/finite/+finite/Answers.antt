use Rattle.std.proofs.Common.{◌∙◌, ◌+◌, ◌&&◌, Bool, drop, sym, ap}
use Rattle.std.proofs.lemmas.List.{drop_all}
use Rattle.serde_json.specs.Data.{no_members}
use Rattle.json.specs.Value.{members_view}
use Rattle.med_json.proofs.BorrowedLemmas.{have_trees, have_members, items_from, members_from}
use Rattle.med_json.proofs.JsonTrees.{members_have}
use Rattle.med_json.proofs.finite.+finite.Goals as goal

pub items_have_trees-returns-then-not-has_tree : goal.items_have_trees-returns-then-not-has_tree
items_have_trees-returns-then-not-has_tree t c =
    let vs = c.deref-item-items.result.now in
    let i = c.loop-item.item-index in
    let here = items_from vs i c.item-item.result c.loop-item-test.true c.item-item.is in
    let none = sym c.has_tree.ensures ∙ c.if-not-has_tree.true in
    sym (ap have_trees (sym c.deref-item-items.ensures.value) ∙ c.loop-item.invariant ∙ here
    ∙ ap (λ (b : Bool). b && have_trees (drop (i + 1) vs)) none)

pub items_have_trees-loop-item-preserved : goal.items_have_trees-loop-item-preserved
items_have_trees-loop-item-preserved t c =
    let vs = c.deref-item-items.result.now in
    let i = c.loop-item.item-index in
    let here = items_from vs i c.item-item.result c.loop-item-test.true c.item-item.is in
    let some = sym c.has_tree.ensures ∙ c.if-not-has_tree.false in
    c.loop-item.invariant ∙ here ∙ ap (λ (b : Bool). b && have_trees (drop (i + 1) vs)) some

pub items_have_trees-returns : goal.items_have_trees-returns
items_have_trees-returns t c =
    let vs = c.deref-item-items.result.now in
    sym (ap have_trees (sym c.deref-item-items.ensures.value) ∙ c.loop-item.invariant
    ∙ ap have_trees (drop_all c.loop-item.item-index vs c.loop-item-test.false))

pub members_have_trees-returns-then-not-has_tree : goal.members_have_trees-returns-then-not-has_tree
members_have_trees-returns-then-not-has_tree t c found =
    let ms = c.deref-member-items.result.now in
    let i = c.loop-member.member-index in
    let here = members_from ms i c.member-item.result c.loop-member-test.true c.member-item.is in
    let none = sym c.has_tree.ensures ∙ c.if-not-has_tree.true in
    sym (members_have (members_view c.args.members.now.items) found no_members
    ∙ ap have_members (sym c.deref-member-items.ensures.value) ∙ c.loop-member.invariant ∙ here
    ∙ ap (λ (b : Bool). b && have_members (drop (i + 1) ms)) none)

pub members_have_trees-loop-member-preserved : goal.members_have_trees-loop-member-preserved
members_have_trees-loop-member-preserved t c =
    let ms = c.deref-member-items.result.now in
    let i = c.loop-member.member-index in
    let here = members_from ms i c.member-item.result c.loop-member-test.true c.member-item.is in
    let some = sym c.has_tree.ensures ∙ c.if-not-has_tree.false in
    c.loop-member.invariant ∙ here ∙ ap (λ (b : Bool). b && have_members (drop (i + 1) ms)) some

pub members_have_trees-returns : goal.members_have_trees-returns
members_have_trees-returns t c found =
    let ms = c.deref-member-items.result.now in
    sym (members_have (members_view c.args.members.now.items) found no_members
    ∙ ap have_members (sym c.deref-member-items.ensures.value) ∙ c.loop-member.invariant
    ∙ ap have_members (drop_all c.loop-member.member-index ms c.loop-member-test.false))
