-- Where a line may be cut, and what its first byte says.
use Rattle.std.proofs.Common.{◌≡◌, ◌≢◌, ◌∙◌, ◌≤◌, ◌<◌, ◌-◌, ◌==◌, ℕ, Bool, zero, suc, true, false, List, [], ◌∷◌, length, get_or, None, refl, sym, ap, subst, arith, add-one, eqb-true}
use Rattle.std.specs.List.{suffix_len}
use Rattle.std.specs.Str.{IsUtf8, IsCharBoundary, str_to_ascii_lowercase}
use Rattle.std.proofs.lemmas.Bool.Decides.{nat_tests}
use Rattle.std.proofs.lemmas.List.Sums.{prefix_len_passes, suffix_len_is}
use Rattle.std.proofs.lemmas.Str.{IsCharBoundary-start, IsCharBoundary-after_ascii}
use Rattle.med_ini.specs.Lines.{Line, is_space, is_blank, indent, is_empty, header_of}

pub space_ascii : (b : ℕ) → is_space b ≡ true → b < 128
space_ascii b e = grind (arith, nat_tests)

pub blank_ascii : (b : ℕ) → is_blank b ≡ true → b < 128
blank_ascii b e = grind (arith, nat_tests)

-- a line may be cut behind the white space at its start
pub past_boundary : (line : Line) (at : ℕ) → IsUtf8 line → at ≤ length line → at ≡ indent line
    → IsCharBoundary line at
past_boundary line zero utf8 bound is = IsCharBoundary-start line utf8
past_boundary line (suc k) utf8 bound is =
    let white = prefix_len_passes is_space line k 0 (omega arith) in
    subst (λ (n : ℕ). IsCharBoundary line n) (add-one k)
    (IsCharBoundary-after_ascii line k utf8 (omega arith) (space_ascii (get_or line k 0) white))

-- a text may be cut before the white space at its end
pub end_boundary : (text : List ℕ) (at : ℕ) → at ≤ length text
    → (at < length text → get_or text at 0 < 128) → IsCharBoundary text at
end_boundary text at bound ascii = (bound, λ lt high. let low = ascii lt in absurd (omega arith))

pub kept_is : (text : List ℕ) (end : ℕ) → end ≤ length text
    → ((k : ℕ) → end ≤ k → k < length text → is_blank (get_or text k 0) ≡ true)
    → (0 < end → is_blank (get_or text (end - 1) 0) ≡ false)
    → end ≡ length text - suffix_len is_blank text
kept_is text end bound blank last =
    let is = suffix_len_is is_blank text end 0 bound blank last in omega arith

-- a text that doesn't begin with `[` is no header
pub no_bracket : (text : Line) → ((rest : Line) → text ≢ 91 ∷ rest) → header_of text ≡ None
no_bracket [] other = refl
no_bracket (b ∷ rest) other = go (b == 91) refl
  where
    go : (x : Bool) → (b == 91) ≡ x → header_of (b ∷ rest) ≡ None
    go true is = absurd (let same : b ≡ 91 = eqb-true b 91 is in other rest (cc))
    go false is = rw is refl

some_length : (b : ℕ) (key : Line) → (length (b ∷ key) == 0) ≡ false
some_length b key = grind (arith, nat_tests)

-- a key in lower case is as empty as it is spelt
pub lower_empty : (text key : Line) (x : Bool) → text ≡ key → (length text == 0) ≡ x
    → is_empty (str_to_ascii_lowercase key) ≡ x
lower_empty text [] x same is = ap (λ (t : Line). length t == 0) (sym same) ∙ is
lower_empty text (b ∷ key) x same is =
    sym (some_length b key) ∙ subst (λ (t : Line). (length t == 0) ≡ x) same is
