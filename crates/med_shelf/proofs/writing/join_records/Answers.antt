use Rattle.std.proofs.Common.{◌≡◌, ◌∙◌, IfOk, map, ap, rules, tests}
use Rattle.std.specs.List.{zip}
use Rattle.std.proofs.lemmas.Iterator.{YieldsList-from_map, YieldsList-from_zip, items_from_collect}
use Rattle.std.proofs.lemmas.Iterator.Adapters.{YieldsList-from_vec}
use Rattle.std.proofs.lemmas.Iterator.Consumers.{YieldsList-at}
use Rattle.std.proofs.lemmas.Result.{IfOk-weaker}
use Rattle.med_shelf.specs.Records.{files_of}
use Rattle.med_shelf.proofs.WriteLemmas.{files_joined, hows_in, hows_joined, joined}
use Rattle.med_shelf.proofs.writing.join_records.Goals as goal

-- the records are joined in order
all_joined : (c : goal.After-collect) → IfOk c.collect.result
    (λ w. w.items ≡ map joined (zip c.args.files.items c.args.hows.items))
all_joined c =
    let first = YieldsList-from_vec c.args.files.items c.into_iter.ensures.rest
    (c.into_iter.ensures.len ∙ c.args.files.ok.0) in
    let second = YieldsList-from_vec c.args.hows.items c.zip.ensures.second.0
    (c.zip.ensures.second.1 ∙ c.args.hows.ok.0) in
    let pairs = YieldsList-from_zip (YieldsList-at c.zip.ensures.first first) second in
    items_from_collect c.collect.result c.collect.ensures.ran
    (YieldsList-from_map _ joined (YieldsList-at c.map.ensures.source pairs) c.map.ensures.closure
    (λ x r q k. search (rules, tests)))

pub returns-clause-files : goal.returns-clause-files
returns-clause-files c =
    IfOk-weaker c.collect.result _ _
    (λ w is. ap files_of is
    ∙ files_joined c.args.files.items c.args.hows.items c.requires) (all_joined c)

pub returns-clause-hows : goal.returns-clause-hows
returns-clause-hows c =
    IfOk-weaker c.collect.result _ _
    (λ w is. ap hows_in is ∙ hows_joined c.args.files.items c.args.hows.items c.requires)
    (all_joined c)
