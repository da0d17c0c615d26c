use Rattle.std.proofs.Common.{◌∷◌, map, sym, subst}
use Rattle.med_manifest.specs.Tokens.{Adds}
use Rattle.med_manifest.specs.Written.{file_data}
use Rattle.med_manifest.proofs.TokenLemmas.{adds_one, adds_then, list_tokens}
use Rattle.med_manifest.proofs.written.put_list.Goals as goal

pub returns-clause-adds : goal.returns-clause-adds
returns-clause-adds c =
    let one = adds_one _ _ _ _ c.in_ok-begin_array.ensures in
    let two = adds_then _ _ _ _ _ one c.in_ok-put_files.ensures.adds in
    let three = adds_then _ _ _ _ _ two (adds_one _ _ _ _ c.in_ok-end_array.ensures) in
    subst (Adds c.args.out.now c.end_array.new.self)
    (sym (list_tokens (map file_data (c.args.first.now ∷ c.args.others.now)))) three
