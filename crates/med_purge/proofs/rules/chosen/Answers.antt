use Rattle.std.proofs.Common.{◌∙◌, ◌+◌, true, true≢false, ℕ, List, take, sym, ap, arith, subst}
use Rattle.std.specs.BTreeSet.{Updates}
use Rattle.std.specs.Int.{from_bool}
use Rattle.med_base.specs.NameOrder.{name_cmp}
use Rattle.med_purge.proofs.Choosing.{chosen_all, counted_more, few, next_more, next_same, one_at_most}
use Rattle.med_purge.proofs.rules.chosen.Goals.{then-is_to_go+in_ok-copy+in_ok-insert, else-is_to_go}
use Rattle.med_purge.proofs.rules.chosen.Goals as goal
use Rattle.med_purge.specs.Rule.{AreChosen, rows_of}

pub overflow_add-finished : goal.overflow_add-finished
overflow_add-finished c =
    omega
    (arith, few _ _ _ _ _ _ _ c.loop-row.invariant, one_at_most _ c.from.result c.from.ensures)

pub loop-row-preserved : goal.loop-row-preserved
loop-row-preserved c =
    let rows = rows_of c.args.sorted.now in
    let next = take (c.loop-row.row-index + 1) rows in
    record {
      counted =
          counted_more _ _ _ _ _ _ _ c.row-item.result c.loop-row-test.true c.row-item.is
          c.loop-row.invariant c.from.result
          (c.from.ensures ∙ ap from_bool c.is_some.ensures);
      chosen = elim c.if-is_to_go.branch [
        | then-is_to_go+in_ok-copy+in_ok-insert w ↦
            subst (AreChosen rows c.args.now c.args.age_days c.args.count next) (sym w.names-is)
            (next_more _ _ _ _ _ _ _ c.row-item.result c.loop-row-test.true c.row-item.is
            c.loop-row.invariant c.requires.order c.requires.apart w.insert.new.self
            (c.is_to_go.ensures.0 w.if-is_to_go.true)
            (subst (λ (n : List ℕ). Updates name_cmp c.loop-row.names w.insert.new.self n true)
            w.in_ok-copy.ensures w.in_ok-insert.ensures.updates))
        | else-is_to_go w ↦
            subst (AreChosen rows c.args.now c.args.age_days c.args.count next) (sym w.names-is)
            (next_same _ _ _ _ _ _ _ c.row-item.result c.loop-row-test.true c.row-item.is
            c.loop-row.invariant c.requires.order c.requires.apart
            (λ goes. true≢false (sym (c.is_to_go.ensures.1 goes) ∙ w.if-is_to_go.false)))
      ];
    }

pub returns : goal.returns
returns c = chosen_all _ _ _ _ _ _ _ c.loop-row.invariant c.loop-row-test.false
