use Rattle.std.proofs.Common.{◌≡◌, ◌∙◌, ◌<◌, ◌+◌, ◌==◌, ◌||◌, ℕ, Bool, cond, true, false, true≢false, refl, sym, ap, arith, List, [], ◌∷◌, length, Some, None, nat_lt, not, length-drop, ltb-true, lt-ltb, ne_eqb}
use Rattle.std.specs.List.{position, position_or_len, after_first}
use Rattle.std.proofs.lemmas.Option.{cond_some}
use Rattle.clap.specs.Lexer.{has_byte}
use Rattle.med_base.proofs.Options.{cond_none}
use Rattle.med_words.proofs.well_formed.ends_well.Goals as goal

abbrev eq61 : ℕ → Bool
eq61 x = x == 61

-- the byte byte_stands exactly where the place is within
place_within : (xs : List ℕ) → has_byte 61 xs ≡ true → position_or_len eq61 xs < length xs
place_within [] e = absurd (true≢false (sym e))
place_within (x ∷ xs) e = go (eq61 x) e (place_within xs)
  where
    go : (b : Bool) → (b || has_byte 61 xs) ≡ true
        → (has_byte 61 xs ≡ true → position_or_len eq61 xs < length xs)
        → cond (not b) (1 + position_or_len eq61 xs) 0 < length (x ∷ xs)
    go true h more = omega arith
    go false h more = let k = more h in omega arith

byte_stands : (xs : List ℕ) → position_or_len eq61 xs < length xs → has_byte 61 xs ≡ true
byte_stands [] lt = absurd (omega arith)
byte_stands (x ∷ xs) lt = go (eq61 x) lt (byte_stands xs)
  where
    go : (b : Bool) → cond (not b) (1 + position_or_len eq61 xs) 0 < length (x ∷ xs)
        → (position_or_len eq61 xs < length xs → has_byte 61 xs ≡ true)
        → (b || has_byte 61 xs) ≡ true
    go true h more = refl
    go false h more = more (omega arith)

after_length : (rest : List ℕ) (place : ℕ) → position eq61 rest ≡ Some place
    → (place < length rest) × (length (after_first eq61 rest) + (place + 1) ≡ length rest)
    × (has_byte 61 rest ≡ true)
after_length rest place e =
    let f = cond_some (nat_lt (position_or_len eq61 rest) (length rest))
    (position_or_len eq61 rest) place e in
    let lt : position_or_len eq61 rest < length rest = ltb-true _ _ f.0 in
    let d = length-drop (position_or_len eq61 rest + 1) rest in
    (omega arith, omega arith, byte_stands rest lt)

none_has : (rest : List ℕ) → position eq61 rest ≡ None → has_byte 61 rest ≡ true → ⊥
none_has rest e h =
    true≢false (sym (lt-ltb (position_or_len eq61 rest) (length rest) (place_within rest h))
    ∙ cond_none (nat_lt (position_or_len eq61 rest) (length rest)) (position_or_len eq61 rest) e)

filled_by_test : (xs : List ℕ) (b : Bool) → b ≡ (length xs == 0)
    → (not b ≡ true → 0 < length xs) × (0 < length xs → not b ≡ true)
filled_by_test [] b e = (λ n. absurd (true≢false (sym n ∙ ap not e)), λ lt. absurd (omega arith))
filled_by_test (x ∷ xs) b e =
    (λ n. omega arith, λ lt. ap not (e ∙ ne_eqb (length (x ∷ xs)) 0 (λ z. omega arith)))

pub returns-in-Some : goal.returns-in-Some
returns-in-Some c =
    let a = after_length c.args.rest.now c.in-Some.place
    (sym c.first_equals.ensures.value ∙ c.in-Some.is) in (
      λ t. (omega arith, λ h. omega (arith, ltb-true _ _ t)),
      λ w. lt-ltb _ _ (let k = w.1 a.2 in omega arith),
    )

pub returns-in-None : goal.returns-in-None
returns-in-None c =
    let f = filled_by_test c.args.rest.now c.is_empty.result c.is_empty.ensures in (
      λ t. (
        f.0 t,
        λ h. absurd (none_has c.args.rest.now (sym c.first_equals.ensures.value ∙ c.in-None.is)
            h),
      ),
      λ w. f.1 w.0,
    )
