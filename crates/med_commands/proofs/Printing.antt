-- Pieces that are written one after another.
use Rattle.std.proofs.Common.{◌≡◌, ◌<◌, ◌≤◌, ◌+◌, ◌-◌, ℕ, List, ◌++◌, take, drop, length, map, get_or, add-one, min, ◌^◌, Option, Some, None, refl, sym, ap, ◌∙◌, append_assoc, append-nil, [], ◌∷◌, zero, suc, length-append, length-drop, arith}
use Rattle.std.specs.Prelude.{option_map, codes}
use Rattle.std.specs.List.{concat}
use Rattle.std.specs.Borrow.{Bor}
use Rattle.med_outside.specs.Causes.{RoseOrFull}
use Rattle.std.proofs.lemmas.List.{take-append-le}
use Rattle.std.proofs.Math.Seq.{take-append-add, take-length}
use Rattle.med_commands.specs.Printed.{Wrote, WrotePart, complaint}
use Rattle.med_commands.specs.Texts.{taken_text}

told_on : (a b : List ℕ) (old : Option (List ℕ))
    → option_map (λ t. t ++ b) (option_map (λ t. t ++ a) old) ≡ option_map (λ t. t ++ (a ++ b)) old
told_on a b None = refl
told_on a b (Some t) = ap Some (append_assoc t a b)

pub wrote_on : (a b : List ℕ) (old mid new : Option (List ℕ)) → Wrote a old mid → Wrote b mid new
    → Wrote (a ++ b) old new
wrote_on a b old mid new first next = next ∙ ap (option_map (λ t. t ++ b)) first ∙ told_on a b old

pub wrote_none : (old : Option (List ℕ)) → Wrote [] old old
wrote_none None = refl
wrote_none (Some t) = ap Some (sym (append-nil t))

-- the first part broke off
pub broke_first : (a b : List ℕ) (old new : Option (List ℕ)) → WrotePart a old new
    → WrotePart (a ++ b) old new
broke_first a b old new (n, less, wrote) = let le : n ≤ length a = omega arith in
    (n, omega (arith, length-append a b), rw (take-append-le n a b le) wrote)

-- the first part was written, and the second broke off
pub broke_next : (a b : List ℕ) (old mid new : Option (List ℕ)) → Wrote a old mid
    → WrotePart b mid new → WrotePart (a ++ b) old new
broke_next a b old mid new first (n, less, wrote) = (
  length a + n,
  omega (arith, length-append a b),
  rw (take-append-add a b n)
      (wrote_on a (take n b) old mid new first wrote),
)

-- what a slice from k on holds
pub tail_from : (xs : List ℕ) (k : ℕ) → take (length xs - k) (drop k xs) ≡ drop k xs
tail_from xs k = rw (← length-drop k xs) (take-length (drop k xs))

abbrev shown : List (Bor (List ℕ)) → List ℕ
shown ps = concat (map (λ (x : Bor (List ℕ)). x.now) ps)

shown_next : (ps : List (Bor (List ℕ))) (i : ℕ) (d : Bor (List ℕ)) → i < length ps
    → shown (take (suc i) ps) ≡ shown (take i ps) ++ (get_or ps i d).now
shown_next [] i d lt = absurd (omega arith)
shown_next (x ∷ ps) zero d lt = append-nil x.now
shown_next (x ∷ ps) (suc i) d lt = ap (λ ys. x.now ++ ys) (shown_next ps i d (omega arith))
    ∙ sym (append_assoc x.now (shown (take i ps)) (get_or ps i d).now)

pub shown_more : (ps : List (Bor (List ℕ))) (i : ℕ) (d : Bor (List ℕ)) → i < length ps
    → shown (take (i + 1) ps) ≡ shown (take i ps) ++ (get_or ps i d).now
shown_more ps i d lt = rw add-one (shown_next ps i d lt)

shown_rest : (ps : List (Bor (List ℕ))) (i : ℕ) → shown ps ≡ shown (take i ps) ++ shown (drop i ps)
shown_rest ps zero = refl
shown_rest [] (suc i) = refl
shown_rest (x ∷ ps) (suc i) = ap (λ ys. x.now ++ ys) (shown_rest ps i)
    ∙ sym (append_assoc x.now (shown (take i ps)) (shown (drop i ps)))

-- a piece broke off, after those before it
pub broke_at : (ps : List (Bor (List ℕ))) (i : ℕ) (d : Bor (List ℕ)) (old mid new : Option (List ℕ))
    → i < length ps → Wrote (shown (take i ps)) old mid → WrotePart (get_or ps i d).now mid new
    → WrotePart (shown ps) old new
broke_at ps i d old mid new lt told broke =
    let part : WrotePart (shown (take (i + 1) ps)) old new = rw (shown_more ps i d lt)
    (broke_next _ _ old mid new told broke) in
    rw (shown_rest ps (i + 1)) (broke_first _ _ old new part)

pub wrote_more : (ps : List (Bor (List ℕ))) (i : ℕ) (d : Bor (List ℕ))
    (old mid new : Option (List ℕ)) → i < length ps → Wrote (shown (take i ps)) old mid
    → Wrote (get_or ps i d).now mid new → Wrote (shown (take (i + 1) ps)) old new
wrote_more ps i d old mid new lt told wrote = rw (shown_more ps i d lt)
    (wrote_on _ _ old mid new told wrote)

-- the count after a snapshot that failed was given up
pub read_summed : (before mid fresh snap new : ℕ) → before ≤ mid → fresh ≡ 0 → RoseOrFull fresh snap
    → new ≡ min (mid + snap) (2 ^ 64 - 1) → RoseOrFull before new
read_summed before mid fresh snap new later zero_is rose sum = omega arith

-- the pieces that tell of a taken name are its text
pub taken_said : (name path : List ℕ)
    → codes "medusa: name " ++ (name ++ (codes " is taken by " ++ (path ++ codes "\n"))) ≡ complaint
    (taken_text name path)
taken_said name path = ap (λ t. codes "medusa: name " ++ t)
    (sym (append_assoc name (codes " is taken by " ++ path) (codes "\n")))

-- the pieces that tell of a line of the config file are its text
pub line_said : (number kind : List ℕ)
    → codes "medusa: config: line " ++ (number ++ (codes ": " ++ (kind ++ codes "\n")))
    ≡ complaint (codes "config: line " ++ (number ++ (codes ": " ++ kind)))
line_said number kind = ap (λ t. codes "medusa: config: line " ++ t)
    (sym (append_assoc number (codes ": " ++ kind) (codes "\n")))

-- the pieces that tell of a token that stands twice are its text
pub twice_said : (token : List ℕ)
    → codes "medusa: ring: token " ++ (token ++ (codes " twice" ++ codes "\n"))
    ≡ complaint (codes "ring: token " ++ (token ++ codes " twice"))
twice_said token = ap (λ t. codes "medusa: ring: token " ++ t)
    (sym (append_assoc token (codes " twice") (codes "\n")))
