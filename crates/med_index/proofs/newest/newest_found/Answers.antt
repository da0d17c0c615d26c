use Rattle.med_index.specs.Planned.{with_found}
use Rattle.std.proofs.Common.{◌++◌, ℕ, List, [], ◌∷◌, Bor, map, option_map, sym, subst}
use Rattle.std.proofs.lemmas.List.{map-append}
use Rattle.std.proofs.lemmas.Map.Iter.{iter_end}
use Rattle.std.specs.Map.Iter.{deref_pair}
use Rattle.med_index.proofs.NewestLemmas.{Finish, IsNewestOf, newest_found_is, newest_more}
use Rattle.med_index.proofs.newest.newest_found.Goals as goal

-- a second and a name, as they are lent
abbrev shown : ℕ × Bor (List ℕ) → Finish
shown b = (b.0, b.1.now)

pub loop-name-preserved : goal.loop-name-preserved
loop-name-preserved c =
    let n = c.in-Some.name.now in
    let m = c.in-Some.marks.now in
    let before = map deref_pair c.loop-name.yielded in
    subst (λ es. IsNewestOf c.args.but.now es (option_map shown c.with_found-newest.result))
    (sym
    (map-append deref_pair c.loop-name.yielded ((c.in-Some.name, c.in-Some.marks) ∷ [])))
    (subst (IsNewestOf c.args.but.now (before ++ (n, m) ∷ [])) (sym c.with_found-newest.ensures)
    (subst
    (λ o. IsNewestOf c.args.but.now (before ++ (n, m) ∷ [])
    (with_found (option_map shown c.loop-name.newest) n o)) (sym c.second_outside.ensures)
    (newest_more c.args.but.now before n m (option_map shown c.loop-name.newest)
    c.loop-name.invariant)))

pub returns : goal.returns
returns c =
    let given = c.into_iter-name-iterator.ensures.into_iter_gives in
    let ended = iter_end deref_pair c.args.found.now.entries c.loop-name.yielded
    c.into_iter-name-iterator.result c.loop-name.name-iterator c.next.new.self c.next.result
    given.0 c.loop-name.yielded_by c.in-None.is c.next.ensures.steps in
    newest_found_is c.args.found.now c.args.but.now given.5 (option_map shown c.loop-name.newest)
    (subst (λ es. IsNewestOf c.args.but.now es (option_map shown c.loop-name.newest)) ended.0
    c.loop-name.invariant)
