-- Tests that hold, taken apart, and texts that a test finds equal.
use Rattle.std.proofs.Common.{◌≡◌, ◌||◌, ◌∙◌, ℕ, List, Bool, true, false, true≢false, bytes_eq, refl, sym}
use Rattle.std.proofs.lemmas.Slice.Eq.{bytes_eq-Decides}

pub or_right : (a b : Bool) → (a || b) ≡ true → a ≡ false → b ≡ true
or_right true b e f = absurd (true≢false f)
or_right false b e f = e

pub or_left : (a b : Bool) → (a || b) ≡ true → b ≡ false → a ≡ true
or_left true b e f = refl
or_left false b e f = absurd (true≢false (sym e ∙ f))

pub not_both : (b : Bool) → b ≡ false → b ≡ true → ⊥
not_both b e is = true≢false (sym is ∙ e)

-- texts that a test finds equal are equal, and a text is found equal to itself
pub same_bytes : (a b : List ℕ) → bytes_eq a b ≡ true → a ≡ b
same_bytes a b e = (bytes_eq-Decides a b).0 e

pub bytes_same : (a : List ℕ) → bytes_eq a a ≡ true
bytes_same a = (bytes_eq-Decides a a).1 refl
