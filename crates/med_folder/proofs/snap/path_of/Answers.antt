use Rattle.std.proofs.Common.{arith}
use Rattle.std.specs.List.{before_first}
use Rattle.std.proofs.lemmas.Str.Pattern.{split_once_first}
use Rattle.std.proofs.lemmas.Grind.{common_steps}
use Rattle.med_folder.specs.Snapshots.{is_dot, table_folder}
use Rattle.med_folder.proofs.Dots.{folder_below}
use Rattle.med_folder.proofs.snap.path_of.Goals as goal

pub returns : goal.returns
returns c =
    let found = rw c.in-Some.is at
    (split_once_first 46 _ _ c.split_once.ensures.cases (omega arith)) in
    let first = rw c.as_str-table.ensures.value at found in
    let key = c.args.key.now in
    let own = table_folder key.keyspace (before_first is_dot key.table) c.args.tag.now in
    let below = folder_below own key.table first.0 in
    rw (below, ← first.1, ← first.2) (grind (arith, common_steps))
