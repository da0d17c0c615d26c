use Rattle.std.proofs.Common.{rules}
use Rattle.std.proofs.lemmas.Fn.{always_returns_same}
use Rattle.med_mem.specs.Objects.{compared}
use Rattle.med_mem.proofs.Places.{place_found, place_gap}
use Rattle.med_mem.proofs.object.place_of.Goals as goal

pub returns-clause-found : goal.returns-clause-found
returns-clause-found c =
    let search_is = c.binary_search_by.ensures in
    place_found c.args.objects.now c.args.path.now c.requires _ search_is.bound
    (search_is.position (compared c.args.path.now)
    (always_returns_same _ _ _ (λ a r f' k. search rules)))

pub returns-clause-gap : goal.returns-clause-gap
returns-clause-gap c =
    let search_is = c.binary_search_by.ensures in
    place_gap c.args.objects.now c.args.path.now c.requires _ search_is.bound
    (search_is.position (compared c.args.path.now)
    (always_returns_same _ _ _ (λ a r f' k. search rules)))
