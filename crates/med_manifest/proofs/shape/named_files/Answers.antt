use Rattle.std.proofs.Common.{rules, ◌≡◌, Some, map, option_map}
use Rattle.std.proofs.lemmas.Result.{IfOk-weaker, IfErr-weaker}
use Rattle.serde_json.specs.Find.{as_array}
use Rattle.med_base.proofs.WhyLemmas.{why_weaker}
use Rattle.med_json.specs.Borrowed.{tree_of}
use Rattle.med_json.specs.Tree.{items_in}
use Rattle.med_manifest.specs.Named.{named}
use Rattle.med_manifest.specs.Refusals.{IsUnshaped, IsRefused}
use Rattle.med_manifest.proofs.TreeLemmas.{has_files, unshaped}
use Rattle.med_manifest.proofs.shape.named_files.Goals as goal

pub returns-in-Some-clause-ok : goal.returns-in-Some-clause-ok
returns-in-Some-clause-ok c =
    let d = tree_of c.args.value.now in
    let ds = map tree_of c.in-Some.list.now in
    let is : Some ds ≡ option_map items_in (as_array d) = search rules in
    IfOk-weaker c.files_of.result _ _
    (λ files tables. has_files d ds (map named files.items) is tables) c.files_of.ensures.ok

pub returns-in-Some-clause-err : goal.returns-in-Some-clause-err
returns-in-Some-clause-err c =
    let d = tree_of c.args.value.now in
    let ds = map tree_of c.in-Some.list.now in
    let is : Some ds ≡ option_map items_in (as_array d) = search rules in
    IfErr-weaker c.files_of.result _ _
    (λ e has before f n bytes text. why_weaker (IsUnshaped ds) (IsRefused before f n bytes)
    (λ why first. unshaped d ds why is first before f n bytes text) e has) c.files_of.ensures.err
