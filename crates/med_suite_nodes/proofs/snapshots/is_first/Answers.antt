use Rattle.med_suite_nodes.proofs.FirstKey.{first_has_file}
use Rattle.med_suite_nodes.proofs.snapshots.is_first.Goals as goal

pub read_piece-requires : goal.read_piece-requires
read_piece-requires g c =
    let held = (g.P.Snap.state c.keys.new.self).held in
    let at = rw c.as_slice.ensures.value at c.first-item.is in
    let some = rw c.as_slice.ensures.value at c.in-len1-up.len_at_least in
    first_has_file held c.in-Ok.keys.items c.first-item.result c.in_ok-key.key
    (g.met.P.Snap.listed_once c.keys.new.self) (rw c.keys.ensures.same.held c.in-Ok.ensures.keys)
    some at c.in_ok-key.ensures
