use Rattle.std.proofs.Common.{rules, ◌≡◌, Some, codes, map}
use Rattle.std.proofs.lemmas.Result.{IfOk-weaker}
use Rattle.med_json.specs.Borrowed.{tree_of}
use Rattle.med_json.specs.Tree.{text_at, list_at}
use Rattle.med_manifest.specs.Named.{named}
use Rattle.med_manifest.proofs.TreeLemmas.{component_from, table_is, in_list, some_weaker}
use Rattle.med_manifest.proofs.shape.table_in.Goals as goal

pub returns-clause-found : goal.returns-clause-found
returns-clause-found c =
    let d = tree_of c.args.value.now in
    let keyspace = c.in-Some.keyspace.now in
    let table = c.in-Some-text_in.table.now in
    let list = c.in-Some-list_in.list.now in
    let keyspace_is : text_at (codes "keyspace") d ≡ Some keyspace = search rules in
    let name_is : text_at (codes "columnfamily") d ≡ Some table = search rules in
    let objects_are : list_at (codes "objects") d ≡ Some (map tree_of list) = search rules in
    let keyspace_fits = component_from keyspace c.in_ok-is_component.field-0
    c.in_ok-is_component.ensures c.if-not-branch.false in
    let table_fits = component_from table c.in_ok-is_component-2.field-0
    c.in_ok-is_component-2.ensures c.if-not-branch-2.false in
    some_weaker c.files_in.result _ _
    (λ files zip. table_is d keyspace table list (map named files.items) keyspace_is name_is
    keyspace_fits table_fits objects_are zip) c.files_in.ensures.found

pub returns-clause-none : goal.returns-clause-none
returns-clause-none c =
    let d = tree_of c.args.value.now in
    let keyspace = c.in-Some.keyspace.now in
    let table = c.in-Some-text_in.table.now in
    let list = c.in-Some-list_in.list.now in
    let keyspace_is : text_at (codes "keyspace") d ≡ Some keyspace = search rules in
    let name_is : text_at (codes "columnfamily") d ≡ Some table = search rules in
    let objects_are : list_at (codes "objects") d ≡ Some (map tree_of list) = search rules in
    IfOk-weaker c.files_in.result _ _
    (λ o none e files is. none e files
    (in_list d keyspace table list files keyspace_is name_is objects_are is))
    c.files_in.ensures.none
