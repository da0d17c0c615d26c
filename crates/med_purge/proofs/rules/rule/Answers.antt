use Rattle.std.proofs.Common.{List, sym, subst}
use Rattle.std.specs.List.Sorted.{IsPermutation}
use Rattle.med_index.specs.Rows.{AreApart}
use Rattle.med_outside.specs.declared.backup_row.BackupRow.{BackupRow}
use Rattle.med_purge.proofs.Choosing.{rule_is}
use Rattle.med_purge.proofs.Counts.{apart_moved}
use Rattle.med_purge.proofs.rules.rule.Goals as goal
use Rattle.med_purge.specs.Rule.{AreChosen, IsRule, rows_of}

pub chosen-requires-clause-apart : goal.chosen-requires-clause-apart
chosen-requires-clause-apart c =
    let sorted = rows_of c.sort_back.new.rows.items in
    let same = subst (λ (l : List BackupRow). IsPermutation l sorted) c.in_ok-sorted.ensures
    c.sort_back.ensures.same in
    subst (λ l. AreApart (rows_of l)) (sym c.as_slice.ensures.value)
    (apart_moved c.args.rows.now sorted same c.requires)

pub returns : goal.returns
returns c =
    let rows = c.args.rows.now in
    let sorted = rows_of c.sort_back.new.rows.items in
    let same = subst (λ (l : List BackupRow). IsPermutation l sorted) c.in_ok-sorted.ensures
    c.sort_back.ensures.same in
    let chosen = subst
    (λ l. AreChosen (rows_of l) c.args.now c.args.age_days c.args.count (rows_of l)
    c.in_ok-names.names) c.as_slice.ensures.value c.in_ok-names.ensures in
    subst (IsRule rows c.args.now c.args.age_days c.args.count) (sym c.in_ok-names_of.ensures.keys)
    (rule_is rows sorted c.args.now c.args.age_days c.args.count c.in_ok-names.names same chosen
    c.in_ok-names_of.ensures.order)
