use Rattle.std.proofs.Common.{◌≡◌, ◌∙◌, ◌+◌, ◌-◌, ◌∷◌, ◌==◌, ℕ, List, length, take, drop, ap, sym, arith, length-drop}
use Rattle.std.proofs.lemmas.List.{take_all}
use Rattle.med_base.specs.Cut.{pieces_of}
use Rattle.med_base.proofs.Cuts.{cut_some, cut_none}
use Rattle.med_base.proofs.cut.cut_at.Goals as goal

pub returns-in-Some-clause-pieces : goal.returns-in-Some-clause-pieces
returns-in-Some-clause-pieces c =
    let text : List ℕ = c.args.text.now in
    let at : ℕ = c.in-Some.at in
    let d = length-drop (at + 1) text in
    let all : take (length text - (at + 1)) (drop (at + 1) text) ≡ drop (at + 1) text = take_all
    (length text - (at + 1)) (drop (at + 1) text) (omega arith) in
    cut_some (λ b. b == c.args.byte) text at (sym c.in-Some.ensures)
    ∙ ap (λ (r : List ℕ). take at text ∷ pieces_of c.args.byte r) (sym all)

pub returns-in-None-clause-pieces : goal.returns-in-None-clause-pieces
returns-in-None-clause-pieces c = cut_none (λ b. b == c.args.byte) c.args.text.now
    (sym c.in-None.ensures)
