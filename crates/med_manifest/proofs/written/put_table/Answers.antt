use Rattle.std.proofs.Common.{codes, ◌∷◌, [], subst}
use Rattle.json.specs.Token.{key, string}
use Rattle.med_manifest.specs.Tokens.{Adds}
use Rattle.med_manifest.proofs.TokenLemmas.{adds_one, adds_then}
use Rattle.med_manifest.proofs.written.put_table.Goals as goal

pub returns-clause-adds : goal.returns-clause-adds
returns-clause-adds c =
    let table = subst
    (λ p. Adds c.begin_object.new.self c.put_text.new.out
    (key (codes "columnfamily") ∷ string p ∷ []))
    c.as_str.ensures.value c.in_ok-put_text.ensures in
    let keyspace = subst
    (λ p. Adds c.put_text.new.out c.put_text-2.new.out
    (key (codes "keyspace") ∷ string p ∷ []))
    c.as_str-2.ensures.value c.in_ok-put_text-2.ensures in
    let one = adds_one _ _ _ _ c.in_ok-begin_object.ensures in
    let two = adds_then _ _ _ _ _ one table in
    let three = adds_then _ _ _ _ _ two keyspace in
    let four = adds_then _ _ _ _ _ three (adds_one _ _ _ _ c.in_ok-key.ensures) in
    let five = adds_then _ _ _ _ _ four c.in_ok-put_list.ensures.adds in
    adds_then _ _ _ _ _ five (adds_one _ _ _ _ c.in_ok-end_object.ensures)
