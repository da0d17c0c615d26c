use Rattle.std.proofs.Common.{◌∙◌, ◌∷◌, ap₂, sym, arith, ℕ, List, Some, None}
use Rattle.std.proofs.lemmas.Str.Pattern.{split_once_first}
use Rattle.std.proofs.lemmas.List.Splits.{slice_split_first, slice_split_none}
use Rattle.std.proofs.lemmas.List.Sums.{fails_before_first}
use Rattle.std.specs.Bool.{◌==◌}
use Rattle.med_base.specs.Prefix.{parts}
use Rattle.med_base.proofs.pieces.cut.Goals as goal

pub returns-in-Some : goal.returns-in-Some
returns-in-Some c =
    let text : List ℕ = c.args.text.now in
    let h = split_once_first 47 text (Some (c.in-Some.first, c.in-Some.rest))
    c.in-Some.ensures.cases (omega arith) in
    slice_split_first (λ b. b == 47) text 0 h.0
    ∙ ap₂ (λ (first rest : List ℕ). first ∷ parts rest) (sym h.1) (sym h.2)

pub returns-in-None : goal.returns-in-None
returns-in-None c =
    let text : List ℕ = c.args.text.now in
    let h = split_once_first 47 text None c.in-None.ensures.cases (omega arith) in
    slice_split_none (λ b. b == 47) text
    (λ k d lt. fails_before_first (λ b. b == 47) text k d (omega arith))
