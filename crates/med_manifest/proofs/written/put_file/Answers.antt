use Rattle.std.proofs.Common.{codes, ◌∷◌, [], subst}
use Rattle.json.specs.Token.{key, string}
use Rattle.med_manifest.specs.Tokens.{Adds}
use Rattle.med_manifest.proofs.TokenLemmas.{adds_one, adds_then}
use Rattle.med_manifest.proofs.written.put_file.Goals as goal

pub returns-clause-adds : goal.returns-clause-adds
returns-clause-adds c =
    let path = subst
    (λ p. Adds c.put_digest.new.out c.put_text.new.out (key (codes "path") ∷ string p ∷ []))
    c.as_str.ensures c.in_ok-put_text.ensures in
    let one = adds_one _ _ _ _ c.in_ok-begin_object.ensures in
    let two = adds_then _ _ _ _ _ one c.in_ok-put_digest.ensures.adds in
    let three = adds_then _ _ _ _ _ two path in
    let four = adds_then _ _ _ _ _ three c.in_ok-put_size.ensures.adds in
    adds_then _ _ _ _ _ four (adds_one _ _ _ _ c.in_ok-end_object.ensures)
