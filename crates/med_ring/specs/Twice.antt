-- The first token that stood before.
use Rattle.std.specs.Prelude.{◌≡◌, ℤ, List, ◌∷◌, ◌++◌, Contains}
use Rattle.std.specs.List.{IsDistinct}
use Rattle.std.specs.Ordering.{int_eq}
use Rattle.med_ring.specs.declared.error.RingWhy.{RingWhy}
use Rattle.med_ring.specs.declared.error.RingWhy.TheVariants.{TokenTwice}

-- the tokens before the first place where the token stood before already
pub record IsFirstTwice (tokens : List ℤ) (token : ℤ) : Type 0 where
  pub before : List ℤ
  pub rest : List ℤ
  pub cut : tokens ≡ before ++ token ∷ rest
  pub stood : Contains before token
  pub distinct : IsDistinct int_eq before

-- ---- for this crate's own clauses

-- why these tokens are refused
abbrev pub AreTokensRefused : List ℤ → RingWhy → Type 0
AreTokensRefused tokens (TokenTwice token) = IsFirstTwice tokens token
AreTokensRefused tokens _ = ⊥
