-- `name` and `name=value`, cut and joined.
use Rattle.std.proofs.Common.{◌≡◌, ◌∙◌, ◌+◌, ◌||◌, ◌==◌, ℕ, Bool, true, false, zero, suc, refl, sym, ap, arith, List, [], ◌∷◌, ◌++◌, take, drop, Some, None, true≢false, eqb-true, eq-eqb}
use Rattle.std.specs.List.{before_first, after_first, position_or_len}
use Rattle.std.proofs.lemmas.Bool.{or_parts}
use Rattle.clap.specs.Lexer.{name_and_value, has_byte}
use Rattle.clap.proofs.CutLemmas.{Lacks, before_first-Lacks, before_first-at, after_first-at, list_any-at}

pub lacks_byte : (c : ℕ) (xs : List ℕ) → has_byte c xs ≡ false → Lacks c xs
lacks_byte c [] e i lt = absurd (omega arith)
lacks_byte c (x ∷ xs) e zero lt = λ same. true≢false
    (sym (eq-eqb x c same) ∙ (or_parts (x == c) (has_byte c xs) e).0)
lacks_byte c (x ∷ xs) e (suc i) lt =
    lacks_byte c xs (or_parts (x == c) (has_byte c xs) e).1 i (omega arith)

pub alone_text : (n : List ℕ) → has_byte 61 n ≡ false → name_and_value n ≡ (n, None)
alone_text n e = rw (before_first-Lacks 61 n (lacks_byte 61 n e), e) refl

pub joined_text : (n v : List ℕ) → has_byte 61 n ≡ false
    → name_and_value (n ++ 61 ∷ v) ≡ (n, Some v)
joined_text n v e =
    rw (
      before_first-at 61 n v (lacks_byte 61 n e),
      after_first-at 61 n v (lacks_byte 61 n e),
      list_any-at 61 n v,
    ) refl

one_more : (k x c : ℕ) (xs : List ℕ) → xs ≡ take k xs ++ c ∷ drop (k + 1) xs
    → x ∷ xs ≡ take (1 + k) (x ∷ xs) ++ c ∷ drop (1 + k + 1) (x ∷ xs)
one_more k x c xs h =
    let one : 1 + k ≡ suc k = omega arith in
    let two : suc k + 1 ≡ suc (k + 1) = omega arith in
    rw (one, two) (ap (λ (ys : List ℕ). x ∷ ys) h)

pub cut_at_byte : (c : ℕ) (xs : List ℕ) → has_byte c xs ≡ true
    → xs ≡ before_first (λ x. x == c) xs ++ c ∷ after_first (λ x. x == c) xs
cut_at_byte c [] e = absurd (true≢false (sym e))
cut_at_byte c (x ∷ xs) e = go (x == c) refl e (cut_at_byte c xs)
  where
    go : (b : Bool) → (x == c) ≡ b → (b || has_byte c xs) ≡ true
        → (has_byte c xs ≡ true → xs ≡ before_first (λ y. y == c) xs ++ c ∷ after_first
        (λ y. y == c) xs)
        → x ∷ xs ≡ before_first (λ y. y == c) (x ∷ xs) ++ c ∷ after_first (λ y. y == c) (x ∷ xs)
    go true same h more = rw same (ap (λ y. y ∷ xs) (eqb-true x c same))
    go false same h more = rw same (one_more (position_or_len (λ y. y == c) xs) x c xs (more h))
