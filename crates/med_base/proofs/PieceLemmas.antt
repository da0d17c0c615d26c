-- The pieces that patterns cut from a text are those of the definitions.
use Rattle.std.proofs.Common.{◌≡◌, ◌==◌, ◌∙◌, ◌<◌, ℕ, suc, Bool, true, false, cond, List, [], ◌∷◌, ◌++◌, length, take, get_or, reverse, Option, Some, None, MatchOption, option_map, option_and_then, refl, sym, ap, eqb-true, eq-eqb, arith}
use Rattle.std.specs.Borrow.{Bor}
use Rattle.std.specs.Str.Pattern.{FindsTextPrefix, FindsTextSuffix, StripsPrefix, StripsSuffix, RFindsChar, SplitsAroundMatch}
use Rattle.std.proofs.lemmas.List.{reverse-append, reverse-reverse}
use Rattle.std.proofs.lemmas.Str.Pattern.{NoCharPasses-char, drop_at_char}
use Rattle.std.proofs.Math.ListN.{take-append-drop}
use Rattle.std.proofs.lemmas.Bool.{ne_eqb}
use Rattle.med_base.specs.Entries.{behind, ahead, between, cut_before, around_last}

-- two ways to read a text agree, where each finds exactly what was written into it
pub same_option : {V : Type 0} (R : V → Type 0) (r p : Option V) → ((v : V) → p ≡ Some v → R v)
    → ((v : V) → R v → p ≡ Some v) → MatchOption r ((v : V) → R v → ⊥) R → r ≡ p
same_option R None None is made h = refl
same_option R None (Some v) is made h = absurd (h v (is v refl))
same_option R (Some v) p is made h = sym (made v h)

pub behind_made : (front rest : List ℕ) → behind front (front ++ rest) ≡ Some rest
behind_made [] rest = refl
behind_made (b ∷ front) rest =
    ap (λ x. cond x (behind front (front ++ rest)) None) (eq-eqb b b refl) ∙ behind_made front rest

pub behind_is : (front text rest : List ℕ) → behind front text ≡ Some rest → text ≡ front ++ rest
behind_is [] text rest e = cc
behind_is (b ∷ front) [] rest e = absurd (cc)
behind_is (b ∷ front) (c ∷ text) rest e = go (b == c) refl (behind_is front text rest) e
  where
    go : (x : Bool) → (b == c) ≡ x → (behind front text ≡ Some rest → text ≡ front ++ rest)
        → cond x (behind front text) None ≡ Some rest → c ∷ text ≡ (b ∷ front) ++ rest
    go true is more k = let head : b ≡ c = eqb-true b c is in let tail : text ≡ front ++ rest = more
        k in cc
    go false is more k = absurd (cc)

pub ahead_made : (end rest : List ℕ) → ahead end (rest ++ end) ≡ Some rest
ahead_made end rest =
    ap (λ t. option_map reverse (behind (reverse end) t)) (reverse-append rest end)
    ∙ ap (option_map reverse) (behind_made (reverse end) (reverse rest))
    ∙ ap Some (reverse-reverse rest)

ahead_is : (end text rest : List ℕ) → ahead end text ≡ Some rest → text ≡ rest ++ end
ahead_is end text rest e = go (behind (reverse end) (reverse text)) refl e
  where
    go : (o : Option (List ℕ)) → behind (reverse end) (reverse text) ≡ o
        → option_map reverse o ≡ Some rest → text ≡ rest ++ end
    go None is k = absurd (cc)
    go (Some t) is k =
        let turned : reverse text ≡ reverse end ++ t = behind_is (reverse end) (reverse text) t
        is in
        let found : reverse t ≡ rest = cc in
        sym (reverse-reverse text)
        ∙ ap reverse turned
        ∙ reverse-append (reverse end) t
        ∙ ap (λ x. x ++ reverse (reverse end)) found
        ∙ ap (λ x. rest ++ x) (reverse-reverse end)

pub between_made : (front end rest : List ℕ)
    → between front end (front ++ (rest ++ end)) ≡ Some rest
between_made front end rest =
    ap (option_and_then (ahead end)) (behind_made front (rest ++ end)) ∙ ahead_made end rest

pub between_is : (front end text rest : List ℕ) → between front end text ≡ Some rest
    → text ≡ front ++ (rest ++ end)
between_is front end text rest e = go (behind front text) refl e
  where
    go : (o : Option (List ℕ)) → behind front text ≡ o → option_and_then (ahead end) o ≡ Some rest
        → text ≡ front ++ (rest ++ end)
    go None is k = absurd (cc)
    go (Some t) is k = behind_is front text t is ∙ ap (λ x. front ++ x) (ahead_is end t rest k)

-- what `strip_prefix` and `strip_suffix` answer
pub front_stripped : (front text : List ℕ) (r : Option (Bor (List ℕ)))
    → MatchOption r (FindsTextPrefix front text None)
    (λ x. StripsPrefix (FindsTextPrefix front) text x.now)
    → option_map (λ x. x.now) r ≡ behind front text
front_stripped front text None h =
    same_option (λ (rest : List ℕ). text ≡ front ++ rest) None (behind front text)
    (behind_is front text)
    (λ rest is. ap (behind front) is ∙ behind_made front rest) h
front_stripped front text (Some x) h =
    sym (ap (behind front) (h.1.1 ∙ ap (λ t. front ++ t) (sym h.2)) ∙ behind_made front x.now)

pub end_stripped : (end text : List ℕ) (r : Option (Bor (List ℕ)))
    → MatchOption r (FindsTextSuffix end text None)
    (λ x. StripsSuffix (FindsTextSuffix end) text x.now)
    → option_map (λ x. x.now) r ≡ ahead end text
end_stripped end text None h =
    same_option (λ (rest : List ℕ). text ≡ rest ++ end) None (ahead end text) (ahead_is end text)
    (λ rest is. ap (ahead end) is ∙ ahead_made end rest) h
end_stripped end text (Some x) h =
    sym (ap (ahead end) (h.1.1 ∙ ap (λ t. t ++ end) (sym h.2)) ∙ ahead_made end x.now)

-- no byte of the text is this one
abbrev pub Lacks : ℕ → List ℕ → Type 0
Lacks byte [] = Unit {0}
Lacks byte (b ∷ bs) = (b ≡ byte → ⊥) × Lacks byte bs

lacks_from : (byte : ℕ) (t : List ℕ) → ((i : ℕ) → i < length t → get_or t i 0 ≡ byte → ⊥)
    → Lacks byte t
lacks_from byte [] h = tt
lacks_from byte (b ∷ bs) h =
    (h 0 (omega arith), lacks_from byte bs (λ i lt. h (suc i) (omega arith)))

around_lacks : (byte : ℕ) (t : List ℕ) → Lacks byte t → around_last byte t ≡ None
around_lacks byte [] h = refl
around_lacks byte (b ∷ bs) h =
    ap (cut_before byte b bs) (around_lacks byte bs h.1)
    ∙ ap (λ x. cond x (Some ([], bs)) None) (ne_eqb b byte h.0)

pub around_made : (byte : ℕ) (a b : List ℕ) → Lacks byte b
    → around_last byte (a ++ byte ∷ b) ≡ Some (a, b)
around_made byte [] b h =
    ap (cut_before byte byte b) (around_lacks byte b h)
    ∙ ap (λ x. cond x (Some ([], b)) None) (eq-eqb byte byte refl)
around_made byte (x ∷ xs) b h = ap (cut_before byte x (xs ++ byte ∷ b)) (around_made byte xs b h)

pub around_is : (byte : ℕ) (t : List ℕ) (p : List ℕ × List ℕ) → around_last byte t ≡ Some p
    → t ≡ p.0 ++ byte ∷ p.1
around_is byte [] p e = absurd (cc)
around_is byte (b ∷ bs) p e = go (around_last byte bs) (around_is byte bs) e
  where
    here : (x : Bool) → (b == byte) ≡ x
        → cond {A = Option (List ℕ × List ℕ)} x (Some ([], bs)) None ≡ Some p
        → b ∷ bs ≡ p.0 ++ byte ∷ p.1
    here true is k =
        let both : ◌≡◌ {A = List ℕ × List ℕ} ([], bs) p = cc in
        ap (λ y. y ∷ bs) (eqb-true b byte is) ∙ ap (λ (q : List ℕ × List ℕ). q.0 ++ byte ∷ q.1) both
    here false is k = absurd (cc)

    go : (o : Option (List ℕ × List ℕ))
        → ((q : List ℕ × List ℕ) → o ≡ Some q → bs ≡ q.0 ++ byte ∷ q.1)
        → cut_before byte b bs o ≡ Some p → b ∷ bs ≡ p.0 ++ byte ∷ p.1
    go None more k = here (b == byte) refl k
    go (Some q) more k =
        let both : ◌≡◌ {A = List ℕ × List ℕ} (b ∷ q.0, q.1) p = cc in
        ap (λ t. b ∷ t) (more q refl) ∙ ap (λ (q : List ℕ × List ℕ). q.0 ++ byte ∷ q.1) both

-- what `rsplit_once` answers at an ASCII character
pub around_found : (byte : ℕ) (text : List ℕ) (r : Option (Bor (List ℕ) × Bor (List ℕ)))
    → byte < 128
    → MatchOption r (RFindsChar byte text None)
    (λ x. SplitsAroundMatch (RFindsChar byte) text x.0.now x.1.now)
    → option_map (λ p. (p.0.now, p.1.now)) r ≡ around_last byte text
around_found byte text None ascii h =
    sym (around_lacks byte text
    (lacks_from byte text (λ i lt. NoCharPasses-char byte text i h ascii lt)))
around_found byte text (Some x) ascii h =
    let (i, j, found, front, back, in_order, front_len, back_len) = h in
    let lacks : Lacks byte x.1.now = lacks_from byte x.1.now
    (λ k lt. NoCharPasses-char byte x.1.now k (rw (sym back) at found.0) ascii lt) in
    let is : text ≡ x.0.now ++ byte ∷ x.1.now = sym (take-append-drop i text)
    ∙ ap (λ t. take i text ++ t)
    (drop_at_char byte text i j found.1 ascii ∙ ap (λ t. byte ∷ t) (sym back))
    ∙ ap (λ t. t ++ byte ∷ x.1.now) (sym front) in
    sym (ap (around_last byte) is ∙ around_made byte x.0.now x.1.now lacks)
