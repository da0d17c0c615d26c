use Rattle.std.proofs.Common.{◌≡◌, rules, map, Some, ap, sym, option_and_then}
use Rattle.serde_json.specs.Find.{get, as_array}
use Rattle.serde_json.specs.View.{view, items_view}
use Rattle.med_json.specs.Tree.{list_at}
use Rattle.med_json.proofs.TreeLemmas.{list_found}
use Rattle.med_json.proofs.keys.list_in.Goals as goal

pub returns-in-Some : goal.returns-in-Some
returns-in-Some c =
    let vs = c.in-Some.list.now.items in
    let d = view c.args.value.now in
    let found : option_and_then as_array (get c.args.key.now d) ≡ Some (items_view vs) =
    search rules in
    let listed : list_at c.args.key.now d ≡ Some (map view vs) =
    list_found c.args.key.now d vs found in
    let shown : map view c.as_slice.result.now ≡ map view vs =
    ap (map view) c.as_slice.ensures.value in
    let gives : Some (map view c.as_slice.result.now) ≡ list_at c.args.key.now d =
    rw shown (sym listed) in
    record { value = gives }
