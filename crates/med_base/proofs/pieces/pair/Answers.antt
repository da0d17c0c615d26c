use Rattle.std.proofs.Common.{◌∙◌, ◌∷◌, List, ℕ, ap, sym, Option, option_map}
use Rattle.std.specs.Borrow.{Bor}
use Rattle.med_base.specs.Cut.{pieces_left}
use Rattle.med_base.specs.Classify.{pair_of}
use Rattle.med_base.proofs.Slashes.{pair_of_more}
use Rattle.med_base.proofs.pieces.pair.Goals as goal

abbrev left : List ℕ → Option (Bor (List ℕ)) → List (List ℕ)
left part more = part ∷ pieces_left 47 (option_map (λ s. s.now) more)

pub returns-in-Some : goal.returns-in-Some
returns-in-Some c =
    let first = c.cut.ensures ∙ ap (left c.cut.result.0.now) c.in_ok-rest.was in
    let second = c.cut-2.ensures ∙ ap (left c.cut-2.result.0.now) c.in-Some.is in
    sym (ap pair_of (first ∙ ap (λ (ps : List (List ℕ)). c.cut.result.0.now ∷ ps) second)
    ∙ pair_of_more c.cut.result.0.now c.cut-2.result.0.now c.in-Some.field-0.now)
