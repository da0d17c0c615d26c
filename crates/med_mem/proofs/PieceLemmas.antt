-- Pieces of bytes, cut by slices.
use Rattle.std.proofs.Common.{◌≡◌, ◌∙◌, ℕ, min, List, take, drop, length, Result, IfOk, ap, subst}
use Rattle.std.proofs.lemmas.List.{take_min, drop_min}

-- the front of what stands behind a place, of any size
pub cut_is : {E : Type 0} (size from : ℕ) (bytes rest first : List ℕ) (at n : ℕ)
    (r : Result (List ℕ) E) → at ≡ min from (length bytes) → rest ≡ drop at bytes
    → n ≡ min size (length rest) → first ≡ take n rest
    → IfOk r (λ piece. piece ≡ first) → IfOk r (λ piece. piece ≡ take size (drop from bytes))
cut_is size from bytes rest first at n r place behind count front is =
    let begun = behind ∙ ap (λ k. drop k bytes) place ∙ drop_min from bytes in
    let cut = front ∙ ap (λ k. take k rest) count ∙ take_min size rest ∙ ap (take size) begun in
    subst (λ l. IfOk r (λ piece. piece ≡ l)) cut is
