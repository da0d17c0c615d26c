-- A text between its slashes: its components, and where it is cut at the first slash.
use Rattle.std.proofs.Common.{◌≡◌, ◌==◌, ◌&&◌, ◌∙◌, ℕ, Bool, true, false, true≢false, not, cond, List, [], ◌∷◌, ◌++◌, None, refl, sym, ap, eqb-true}
use Rattle.std.specs.List.{onto_first}
use Rattle.std.proofs.lemmas.Bool.{ne_eqb}
use Rattle.med_base.specs.Prefix.{parts}
use Rattle.med_base.specs.Classify.{pair_of}
use Rattle.med_base.proofs.Paths.{HasNoSlash}

abbrev pub lacks_slash : List ℕ → Bool
lacks_slash [] = true
lacks_slash (b ∷ bs) = not (b == 47) && lacks_slash bs

pub no_slash_by_test : (t : List ℕ) → lacks_slash t ≡ true → HasNoSlash t
no_slash_by_test [] h = tt
no_slash_by_test (b ∷ bs) h = go (b == 47) refl (no_slash_by_test bs) h
  where
    go : (x : Bool) → (b == 47) ≡ x → (lacks_slash bs ≡ true → HasNoSlash bs)
        → (not x && lacks_slash bs) ≡ true
        → HasNoSlash (b ∷ bs)
    go true is more k = absurd (cc)
    go false is more k = ((λ e. true≢false (sym (ap (λ c. c == 47) e) ∙ is)), more k)

pub no_slash-append : (a b : List ℕ) → HasNoSlash a → HasNoSlash b → HasNoSlash (a ++ b)
no_slash-append [] b h k = k
no_slash-append (x ∷ xs) b h k = (h.0, no_slash-append xs b h.1 k)

pub slash_within : (x rest : List ℕ) → HasNoSlash (x ++ 47 ∷ rest) → ⊥
slash_within [] rest h = h.0 refl
slash_within (b ∷ bs) rest h = slash_within bs rest h.1

-- a text without a slash is its only component
pub parts_whole : (t : List ℕ) → HasNoSlash t → parts t ≡ t ∷ []
parts_whole [] h = refl
parts_whole (b ∷ bs) h =
    ap (λ x. cond x ([] ∷ parts bs) (onto_first b (parts bs))) (ne_eqb b 47 h.0)
    ∙ ap (onto_first b) (parts_whole bs h.1)

-- what stands before the first slash is the first component
pub parts_around : (x t : List ℕ) → HasNoSlash x → parts (x ++ 47 ∷ t) ≡ x ∷ parts t
parts_around [] t h = refl
parts_around (b ∷ bs) t h =
    ap (λ y. cond y ([] ∷ parts (bs ++ 47 ∷ t)) (onto_first b (parts (bs ++ 47 ∷ t))))
    (ne_eqb b 47 h.0)
    ∙ ap (onto_first b) (parts_around bs t h.1)

-- a text has no slash, or stands around its first one
pub data CutAt (t : List ℕ) : Type 0 where
  whole : HasNoSlash t → CutAt t
  around : (x rest : List ℕ) → HasNoSlash x → t ≡ x ++ 47 ∷ rest → CutAt t

pub cut_at_slash : (t : List ℕ) → CutAt t
cut_at_slash [] = whole tt
cut_at_slash (b ∷ bs) = go (b == 47) refl (cut_at_slash bs)
  where
    differs : (b == 47) ≡ false → b ≡ 47 → ⊥
    differs e is = let bad : (47 == 47) ≡ false = ap (λ c. c == 47) (sym is) ∙ e in absurd (cc)

    go : (x : Bool) → (b == 47) ≡ x → CutAt bs → CutAt (b ∷ bs)
    go true e cut = around [] bs tt (ap (λ c. c ∷ bs) (eqb-true b 47 e))
    go false e (whole h) = whole (differs e, h)
    go false e (around x rest h is) = around (b ∷ x) rest (differs e, h) (ap (λ t. b ∷ t) is)

-- there is a first component
pub record HasParts (t : List ℕ) : Type 0 where
  pub first : List ℕ
  pub others : List (List ℕ)
  pub are : parts t ≡ first ∷ others

pub has_parts : (t : List ℕ) → HasParts t
has_parts t = elim (cut_at_slash t) [
  | whole h ↦ record { first = t; others = []; are = parts_whole t h }
  | around x rest h is ↦ record {
    first = x;
    others = parts rest;
    are = ap parts is ∙ parts_around x rest h;
  }
]

-- more than two components are no pair
pub pair_of_more : (a b t : List ℕ) → pair_of (a ∷ b ∷ parts t) ≡ None
pair_of_more a b t = let p = has_parts t in ap (λ ps. pair_of (a ∷ b ∷ ps)) p.are
