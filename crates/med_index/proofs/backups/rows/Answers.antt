use Rattle.med_index.proofs.RowLemmas.{apart, backups_told, marked}
use Rattle.med_index.proofs.RowOrder.{in_order}
use Rattle.med_index.proofs.backups.rows.Goals as goal

pub returns-in-Ok-rows_of-clause-ok : goal.returns-in-Ok-rows_of-clause-ok
returns-in-Ok-rows_of-clause-ok g c =
    backups_told c.in-Ok.running c.in_ok-found.found c.in-Ok-rows_of.rows.items
    c.sort_rows.new.rows.items c.in-Ok-rows_of.ensures.rows c.sort_rows.ensures.same
    c.in-Ok-rows_of.ensures.order (g.S.Storage.state c.args.store.now).content c.args.layout.now
    c.args.node.now c.in_ok-found.ensures.found

pub returns-in-Ok-rows_of-clause-order : goal.returns-in-Ok-rows_of-clause-order
returns-in-Ok-rows_of-clause-order g c =
    in_order c.sort_rows.new.rows.items c.sort_rows.ensures.order
    (apart c.in-Ok.running c.in_ok-found.found c.in-Ok-rows_of.rows.items
    c.sort_rows.new.rows.items c.in-Ok-rows_of.ensures.rows c.sort_rows.ensures.same
    c.in-Ok-rows_of.ensures.order)

pub returns-in-Ok-rows_of-clause-apart : goal.returns-in-Ok-rows_of-clause-apart
returns-in-Ok-rows_of-clause-apart g c =
    apart c.in-Ok.running c.in_ok-found.found c.in-Ok-rows_of.rows.items
    c.sort_rows.new.rows.items c.in-Ok-rows_of.ensures.rows c.sort_rows.ensures.same
    c.in-Ok-rows_of.ensures.order

pub returns-in-Ok-rows_of-clause-running : goal.returns-in-Ok-rows_of-clause-running
returns-in-Ok-rows_of-clause-running g c =
    marked c.in-Ok.running c.in_ok-found.found c.in-Ok-rows_of.rows.items
    c.sort_rows.new.rows.items c.in-Ok-rows_of.ensures.rows c.sort_rows.ensures.same
    c.args.running.now c.in-Ok.ensures
