use Rattle.std.proofs.Common.{◌≡◌, ◌-◌, inl, refl, arith, None, Some}
use Rattle.std.proofs.lemmas.Str.Pattern.{rfind_char}
use Rattle.med_folder.proofs.Parents.{parent_before}
use Rattle.med_folder.proofs.paths.parent_of.Goals as goal

pub returns-in-Some : goal.returns-in-Some
returns-in-Some c =
    let path = c.args.path.now in
    let found = rfind_char 47 path (Some c.in-Some.at) c.in-Some.ensures.cases (omega arith) in
    let all : c.in-Some.at - 0 ≡ c.in-Some.at = omega arith in
    rw (c.range.ensures.value, all) (parent_before path c.in-Some.at found.0 found.1 found.2)

pub returns-in-None : goal.returns-in-None
returns-in-None c =
    inl (rfind_char 47 c.args.path.now None c.in-None.ensures.cases (omega arith), refl)
