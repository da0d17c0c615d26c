use Rattle.std.proofs.Common.{◌∙◌, ◌∷◌, [], List, map, ap, take, drop, subst, suc, arith}
use Rattle.std.specs.List.{AllZip}
use Rattle.std.proofs.lemmas.List.{map-append}
use Rattle.serde_json.specs.Data.{Data}
use Rattle.med_base.proofs.Lists.{zip_next, zip_cut, map_around}
use Rattle.med_json.specs.Borrowed.{tree_of}
use Rattle.med_manifest.specs.Named.{named, IsFile}
use Rattle.med_manifest.proofs.shape.files_in.Goals as goal

pub returns-in_default-clause-none : goal.returns-in_default-clause-none
returns-in_default-clause-none c _ files zip =
    let i = c.loop-value.value-index in
    let list = c.args.list.now in
    let is = IsFile c.args.keyspace.now c.args.table.now in
    let parts = map_around tree_of list i c.value-item.result (omega arith) c.value-item.is in
    let cut = zip_cut is (map tree_of (take i list)) (tree_of c.value-item.result)
    (map tree_of (drop (suc i) list)) files
    (subst (λ (ds : List Data). AllZip is ds files) parts zip) in
    c.file_in.ensures.none c.in_default.is cut.here cut.is

pub loop-value-preserved : goal.loop-value-preserved
loop-value-preserved c =
    let found = rw c.in-Some.is at c.file_in.ensures.found in
    zip_next (IsFile c.args.keyspace.now c.args.table.now) tree_of c.args.list.now
    (map named c.loop-value.files.items) (map named c.push.new.self.items) c.loop-value.value-index
    c.value-item.result (named c.in-Some.file) (omega arith) c.value-item.is
    c.loop-value.invariant found
    (ap (map named) c.in_ok-push.ensures.items
    ∙ map-append named c.loop-value.files.items (c.in-Some.file ∷ []))
