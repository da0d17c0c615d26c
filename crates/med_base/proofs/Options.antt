-- Options that have no value, by the tests that made them, and the one value of those that have.
use Rattle.std.proofs.Common.{◌≡◌, ◌∙◌, Bool, cond, true, false, Option, Some, None, is_none, refl, sym}

pub cond_none : {X : Type 0} (b : Bool) (x : X) → cond b (Some x) None ≡ None → b ≡ false
cond_none true x e = cc e
cond_none false x e = refl

pub none_by_test : {X : Type 0} (o : Option X) → is_none o ≡ true → o ≡ None
none_by_test None e = refl
none_by_test (Some x) e = absurd (cc)

-- an option has one value at most
pub some_once : {X : Type 0} (o : Option X) (x y : X) → o ≡ Some x → o ≡ Some y → x ≡ y
some_once o x y e g = cc (sym e ∙ g)
