-- The name of an index entry tells its node and its kind.
use Rattle.std.proofs.Common.{◌≡◌, ◌⊎◌, ◌&&◌, ◌∙◌, ◌<◌, ◌≤◌, ◌^◌, ℕ, Bool, true, false, cond, nat_lt, List, [], ◌∷◌, ◌++◌, codes, decimal, bytes_eq, Option, Some, None, Result, Ok, option_map, option_and_then, refl, sym, subst, ap, ap₂, ltb-true, lt-ltb, arith, append_assoc, inl, inr}
use Rattle.std.specs.Option.{option_or}
use Rattle.std.specs.Char.{digit_value}
use Rattle.std.specs.Str.Parse.{digits_value, AllDigits, ParsesUnsigned}
use Rattle.std.proofs.lemmas.Fmt.{decimal_is_IsNumeral, parse-decimal}
use Rattle.std.proofs.lemmas.Slice.Eq.{bytes_eq-Decides}
use Rattle.std.proofs.lemmas.Bool.{and_parts}
use Rattle.med_base.specs.declared.kinds.IndexKind.{IndexKind}
use Rattle.med_base.specs.declared.kinds.IndexKind.TheVariants.{Tokenmap, Manifest, Started, Finished, Differential}
use Rattle.med_base.specs.Entries.{behind, between, around_last, second_of, with_second, timed, entry_of}
use Rattle.med_base.specs.Kinds.{HasSecond}
use Rattle.med_base.specs.Layout.{entry_file}
use Rattle.med_base.proofs.Bools.{same_bytes, bytes_same}
use Rattle.med_base.proofs.Paths.{HasNoSlash}
use Rattle.med_base.proofs.Slashes.{no_slash_by_test, no_slash-append}
use Rattle.med_base.proofs.PieceLemmas.{behind_is, ahead_made, between_is, Lacks, around_made, around_is}

-- ---- seconds

pub second_made : (n : ℕ) → n < 2 ^ 64 → second_of (decimal n) ≡ Some n
second_made n small =
    let value : digits_value 10 (decimal n) ≡ n = (decimal_is_IsNumeral n small).1 in
    ap (λ v. cond (nat_lt v (2 ^ 64) && bytes_eq (decimal v) (decimal n)) (Some v) None) value
    ∙ ap₂ (λ x y. cond (x && y) (Some n) None) (lt-ltb n (2 ^ 64) small) (bytes_same (decimal n))

pub second_is : (digits : List ℕ) (n : ℕ) → second_of digits ≡ Some n → (digits ≡ decimal n)
    × (n < 2 ^ 64)
second_is digits n e = go (nat_lt v (2 ^ 64) && bytes_eq (decimal v) digits) refl e
  where
    v : ℕ
    v = digits_value 10 digits

    go : (x : Bool) → (nat_lt v (2 ^ 64) && bytes_eq (decimal v) digits) ≡ x
        → cond x (Some v) None ≡ Some n → (digits ≡ decimal n) × (n < 2 ^ 64)
    go true is k =
        let parts = and_parts (nat_lt v (2 ^ 64)) (bytes_eq (decimal v) digits) is in
        let value : v ≡ n = cc in
        let small : v < 2 ^ 64 = ltb-true v (2 ^ 64) parts.0 in (
          sym (same_bytes (decimal v) digits parts.1) ∙ ap decimal value,
          subst (λ m. m < 2 ^ 64) value small,
        )
    go false is k = absurd (cc)

-- what reads as a number and prints as it stood
pub second_read : {E : Type 0} (digits : List ℕ) (r : Result ℕ E) (n : ℕ)
    → ParsesUnsigned 64 10 digits r → r ≡ Ok n
    → bytes_eq (decimal n) digits ≡ true → n < 2 ^ 64 → second_of digits ≡ Some n
second_read digits r n reads ok same small =
    ap second_of (sym (same_bytes (decimal n) digits same)) ∙ second_made n small

-- what does not
pub second_unread : {E : Type 0} (digits : List ℕ) (r : Result ℕ E) → ParsesUnsigned 64 10 digits r
    → ((n : ℕ) → r ≡ Ok n → bytes_eq (decimal n) digits ≡ true → ⊥) → second_of digits ≡ None
second_unread digits r reads not = go (second_of digits) refl
  where
    go : (o : Option ℕ) → second_of digits ≡ o → o ≡ None
    go None is = refl
    go (Some n) is =
        let h = second_is digits n is in
        absurd (not n (parse-decimal 64 n digits r h.1 h.1 h.0 reads)
        ((bytes_eq-Decides (decimal n) digits).1 (sym h.0)))

digits_lack : (byte : ℕ) (ds : List ℕ) → 10 ≤ digit_value byte → AllDigits 10 ds → Lacks byte ds
digits_lack byte [] high h = tt
digits_lack byte (d ∷ ds) high h = (
  (λ is. let low : digit_value byte < 10 = subst (λ x. digit_value x < 10) is h.0 in absurd
      (omega arith)),
  digits_lack byte ds high h.1,
)

decimal_lacks : (byte n : ℕ) → 10 ≤ digit_value byte → n < 2 ^ 64 → Lacks byte (decimal n)
decimal_lacks byte n high small = digits_lack byte (decimal n) high
    (decimal_is_IsNumeral n small).0.1

no_slash_from : (t : List ℕ) → Lacks 47 t → HasNoSlash t
no_slash_from [] h = tt
no_slash_from (b ∷ bs) h = (h.0, no_slash_from bs h.1)

decimal_no_slash : (n : ℕ) → n < 2 ^ 64 → HasNoSlash (decimal n)
decimal_no_slash n small = no_slash_from (decimal n) (decimal_lacks 47 n (omega arith) small)

-- ---- entries

cut_made : (f : List ℕ) (n : ℕ) → n < 2 ^ 64
    → around_last 95 (f ++ codes "_" ++ decimal n) ≡ Some (f, decimal n)
cut_made f n small =
    ap (around_last 95) (append_assoc f (codes "_") (decimal n))
    ∙ around_made 95 f (decimal n) (decimal_lacks 95 n (omega arith) small)

pub entry_made : (f : List ℕ) (kind : IndexKind) → HasSecond kind
    → entry_of (entry_file f kind) ≡ Some (f, kind)
entry_made f Tokenmap h = rw (ahead_made (codes ".json") f)
entry_made f Manifest h = rw (ahead_made (codes ".json") f)
entry_made f (Started n) h = rw
    (ahead_made (codes ".timestamp") (f ++ codes "_" ++ decimal n), cut_made f n h, second_made n h)
entry_made f (Finished n) h = rw
    (ahead_made (codes ".timestamp") (f ++ codes "_" ++ decimal n), cut_made f n h, second_made n h)
entry_made f Differential h = refl

timed_no_slash : (front f : List ℕ) (n : ℕ) → HasNoSlash front → HasNoSlash f → n < 2 ^ 64
    → HasNoSlash (front ++ f ++ codes "_" ++ decimal n ++ codes ".timestamp")
timed_no_slash front f n word h small =
    no_slash-append (front ++ f ++ codes "_" ++ decimal n) (codes ".timestamp")
    (no_slash-append (front ++ f ++ codes "_") (decimal n)
    (no_slash-append (front ++ f) (codes "_") (no_slash-append front f word h)
    (no_slash_by_test (codes "_") refl))
    (decimal_no_slash n small))
    (no_slash_by_test (codes ".timestamp") refl)

pub entry_no_slash : (f : List ℕ) (kind : IndexKind) → HasNoSlash f → HasSecond kind
    → HasNoSlash (entry_file f kind)
entry_no_slash f Tokenmap h k =
    no_slash-append (codes "tokenmap_" ++ f) (codes ".json")
    (no_slash-append (codes "tokenmap_") f (no_slash_by_test (codes "tokenmap_") refl) h)
    (no_slash_by_test (codes ".json") refl)
entry_no_slash f Manifest h k =
    no_slash-append (codes "manifest_" ++ f) (codes ".json")
    (no_slash-append (codes "manifest_") f (no_slash_by_test (codes "manifest_") refl) h)
    (no_slash_by_test (codes ".json") refl)
entry_no_slash f (Started n) h k = timed_no_slash (codes "started_") f n
    (no_slash_by_test (codes "started_") refl) h k
entry_no_slash f (Finished n) h k = timed_no_slash (codes "finished_") f n
    (no_slash_by_test (codes "finished_") refl) h k
entry_no_slash f Differential h k =
    no_slash-append (codes "differential_") f (no_slash_by_test (codes "differential_") refl) h

pub map_is : {X Y : Type 0} (g : X → Y) (o : Option X) (v : Y) → option_map g o ≡ Some v → (x : X)
    × (o ≡ Some x) × (g x ≡ v)
map_is g None v e = absurd (cc)
map_is g (Some x) v e = (x, refl, cc)

pub then_is : {X Y : Type 0} (g : X → Option Y) (o : Option X) (v : Y)
    → option_and_then g o ≡ Some v → (x : X) × (o ≡ Some x) × (g x ≡ Some v)
then_is g None v e = absurd (cc)
then_is g (Some x) v e = (x, refl, e)

or_is : {X : Type 0} (a b : Option X) (v : X) → option_or a b ≡ Some v → (a ≡ Some v) ⊎ (b ≡ Some v)
or_is None b v e = inr e
or_is (Some x) b v e = inl e

timed_is : (front name : List ℕ) (p : List ℕ × ℕ) → timed front name ≡ Some p
    → (name ≡ front ++ p.0 ++ codes "_" ++ decimal p.1 ++ codes ".timestamp") × (p.1 < 2 ^ 64)
timed_is front name p e =
    let found = between front (codes ".timestamp") name in
    let (cut, cut_found, with) = then_is with_second (option_and_then (around_last 95) found) p e in
    let (inside, inside_found, cut_inside) = then_is (around_last 95) found cut cut_found in
    let (n, n_found, same) = map_is (λ (second : ℕ). (cut.0, second)) (second_of cut.1) p with in
    let second = second_is cut.1 n n_found in
    let stands : inside ≡ cut.0 ++ 95 ∷ decimal n = around_is 95 inside cut cut_inside
    ∙ ap (λ t. cut.0 ++ 95 ∷ t) second.0 in
    let flat : front ++ ((cut.0 ++ 95 ∷ decimal n) ++ codes ".timestamp") ≡ front ++ cut.0 ++ codes
    "_" ++ decimal n ++ codes ".timestamp" = simp append_assoc in (
      between_is front (codes ".timestamp") name inside inside_found
          ∙ ap (λ t. front ++ (t ++ codes ".timestamp")) stands
          ∙ flat
          ∙ ap (λ (q : List ℕ × ℕ). front ++ q.0 ++ codes "_" ++ decimal q.1 ++ codes ".timestamp")
          same,
      subst (λ (q : List ℕ × ℕ). q.1 < 2 ^ 64) same second.1,
    )

-- the entry has this name, and its second fits
abbrev pub IsEntry : List ℕ → List ℕ × IndexKind → Type 0
IsEntry name v = (name ≡ entry_file v.0 v.1) × HasSecond v.1

plain_is : (front : List ℕ) (kind : IndexKind) (name : List ℕ) (v : List ℕ × IndexKind)
    → ((f : List ℕ) → front ++ (f ++ codes ".json") ≡ entry_file f kind) → HasSecond kind
    → option_map (λ (f : List ℕ). (f, kind)) (between front (codes ".json") name) ≡ Some v
    → IsEntry name v
plain_is front kind name v flat has e =
    let (f, found, same) = map_is (λ (f : List ℕ). (f, kind)) (between front (codes ".json") name) v
    e in
    subst (IsEntry name) same (between_is front (codes ".json") name f found ∙ flat f, has)

second_entry_is : (front : List ℕ) (kind : ℕ → IndexKind) (name : List ℕ) (v : List ℕ × IndexKind)
    → ((f : List ℕ) (n : ℕ) → front ++ f ++ codes "_" ++ decimal n ++ codes
    ".timestamp" ≡ entry_file f (kind n))
    → ((n : ℕ) → n < 2 ^ 64 → HasSecond (kind n))
    → option_map (λ (p : List ℕ × ℕ). (p.0, kind p.1)) (timed front name) ≡ Some v → IsEntry name v
second_entry_is front kind name v flat has e =
    let (p, found, same) = map_is (λ (p : List ℕ × ℕ). (p.0, kind p.1)) (timed front name) v e in
    let is = timed_is front name p found in
    subst (IsEntry name) same (is.0 ∙ flat p.0 p.1, has p.1 is.1)

pub entry_is : (name : List ℕ) (v : List ℕ × IndexKind) → entry_of name ≡ Some v → IsEntry name v
entry_is name v e = first
    (or_is (option_map (λ f. (f, Tokenmap)) (between (codes "tokenmap_") (codes ".json") name)) _ v
    e)
  where
    differential : option_map (λ (f : List ℕ). (f, Differential))
        (behind (codes "differential_") name) ≡ Some v → IsEntry name v
    differential e =
        let (f, found, same) = map_is (λ (f : List ℕ). (f, Differential))
        (behind (codes "differential_") name) v e in
        subst (IsEntry name) same (behind_is (codes "differential_") name f found, tt)

    fourth : (option_map (λ (p : List ℕ × ℕ). (p.0, Finished p.1))
        (timed (codes "finished_") name) ≡ Some v)
        ⊎ (option_map (λ (f : List ℕ). (f, Differential))
        (behind (codes "differential_") name) ≡ Some v) → IsEntry name v
    fourth (inl h) = second_entry_is (codes "finished_") (λ n. Finished n) name v (λ f n. refl)
        (λ n small. small) h
    fourth (inr h) = differential h

    third : (option_map (λ (p : List ℕ × ℕ). (p.0, Started p.1))
        (timed (codes "started_") name) ≡ Some v)
        ⊎ (option_or (option_map (λ (p : List ℕ × ℕ). (p.0, Finished p.1))
        (timed (codes "finished_") name))
        (option_map (λ (f : List ℕ). (f, Differential))
        (behind (codes "differential_") name)) ≡ Some v) → IsEntry name v
    third (inl h) = second_entry_is (codes "started_") (λ n. Started n) name v (λ f n. refl)
        (λ n small. small) h
    third (inr h) = fourth
        (or_is (option_map (λ p. (p.0, Finished p.1)) (timed (codes "finished_") name)) _ v h)

    second : (option_map (λ (f : List ℕ). (f, Manifest))
        (between (codes "manifest_") (codes ".json") name) ≡ Some v)
        ⊎ (option_or (option_map (λ (p : List ℕ × ℕ). (p.0, Started p.1))
        (timed (codes "started_") name))
        (option_or (option_map (λ (p : List ℕ × ℕ). (p.0, Finished p.1))
        (timed (codes "finished_") name))
        (option_map (λ (f : List ℕ). (f, Differential))
        (behind (codes "differential_") name))) ≡ Some v) → IsEntry name v
    second (inl h) = plain_is (codes "manifest_") Manifest name v (λ f. simp append_assoc) tt h
    second (inr h) = third
        (or_is (option_map (λ p. (p.0, Started p.1)) (timed (codes "started_") name)) _ v h)

    first : (option_map (λ (f : List ℕ). (f, Tokenmap))
        (between (codes "tokenmap_") (codes ".json") name) ≡ Some v)
        ⊎ (option_or (option_map (λ (f : List ℕ). (f, Manifest))
        (between (codes "manifest_") (codes ".json") name))
        (option_or (option_map (λ (p : List ℕ × ℕ). (p.0, Started p.1))
        (timed (codes "started_") name))
        (option_or (option_map (λ (p : List ℕ × ℕ). (p.0, Finished p.1))
        (timed (codes "finished_") name))
        (option_map (λ (f : List ℕ). (f, Differential))
        (behind (codes "differential_") name)))) ≡ Some v) → IsEntry name v
    first (inl h) = plain_is (codes "tokenmap_") Tokenmap name v (λ f. simp append_assoc) tt h
    first (inr h) = second
        (or_is (option_map (λ f. (f, Manifest)) (between (codes "manifest_") (codes ".json") name))
        _ v h)
