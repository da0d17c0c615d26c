use Rattle.std.proofs.Common.{◌≡◌, drop}
use Rattle.med_json.proofs.BorrowedLemmas.{have_trees, have_members}
use Rattle.med_json.proofs.finite.+finite.Given as goal

-- all items have trees if those that are left have
abbrev pub invariant-items_have_trees-loop-item : goal.invariant-items_have_trees-loop-item
invariant-items_have_trees-loop-item l =
    have_trees l.item-items ≡ have_trees (drop l.item-index l.item-items)

-- all members have trees if those that are left have
abbrev pub invariant-members_have_trees-loop-member : goal.invariant-members_have_trees-loop-member
invariant-members_have_trees-loop-member l =
    have_members l.member-items ≡ have_members (drop l.member-index l.member-items)
