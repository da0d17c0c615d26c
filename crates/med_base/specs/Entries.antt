-- What the name of an index entry tells: its node and its kind.
-- This project's own rules; the last `_` of a name divides the node from the second.
use Rattle.std.specs.Prelude.{ℕ, ◌==◌, ◌^◌, ◌&&◌, nat_lt, List, [], ◌∷◌, reverse, Option, Some, None, option_map, option_and_then, if◌then◌else◌, codes, decimal, bytes_eq}
use Rattle.std.specs.Option.{option_or}
use Rattle.std.specs.Str.Parse.{digits_value}
use Rattle.med_base.specs.declared.kinds.IndexKind.{IndexKind}
use Rattle.med_base.specs.declared.kinds.IndexKind.TheVariants.{Tokenmap, Manifest, Started, Finished, Differential}

-- what stands behind the front of a text, if the text begins with it
abbrev pub behind : List ℕ → List ℕ → Option (List ℕ)
behind [] text = Some text
behind (b ∷ front) [] = None
behind (b ∷ front) (c ∷ text) = if b == c then behind front text else None

-- what stands ahead of the end of a text, if the text ends with it
abbrev pub ahead : List ℕ → List ℕ → Option (List ℕ)
ahead end text = option_map reverse (behind (reverse end) (reverse text))

-- what stands between a front and an end
abbrev pub between : List ℕ → List ℕ → List ℕ → Option (List ℕ)
between front end text = option_and_then (ahead end) (behind front text)

-- a text that begins with this byte, cut at the last such byte as the rest of it is, or else here
abbrev pub cut_before : ℕ → ℕ → List ℕ → Option (List ℕ × List ℕ) → Option (List ℕ × List ℕ)
cut_before byte b bs None = if b == byte then Some ([], bs) else None
cut_before byte b bs (Some cut) = Some (b ∷ cut.0, cut.1)

-- what stands around the last such byte
abbrev pub around_last : ℕ → List ℕ → Option (List ℕ × List ℕ)
around_last byte [] = None
around_last byte (b ∷ bs) = cut_before byte b bs (around_last byte bs)

-- the number below 2^64 whose decimal digits these are, without a leading zero
abbrev pub second_of : List ℕ → Option ℕ
second_of digits =
    if nat_lt (digits_value 10 digits) (2 ^ 64) && bytes_eq (decimal (digits_value 10 digits))
    digits
    then Some (digits_value 10 digits) else None

abbrev pub with_second : List ℕ × List ℕ → Option (List ℕ × ℕ)
with_second cut = option_map (λ second. (cut.0, second)) (second_of cut.1)

-- the node and the second of an entry whose name has both
abbrev pub timed : List ℕ → List ℕ → Option (List ℕ × ℕ)
timed front name =
    option_and_then with_second
    (option_and_then (around_last 95) (between front (codes ".timestamp") name))

-- the node and the kind of the entry with that name
abbrev pub entry_of : List ℕ → Option (List ℕ × IndexKind)
entry_of name =
    option_or (option_map (λ f. (f, Tokenmap)) (between (codes "tokenmap_") (codes ".json") name))
    (option_or (option_map (λ f. (f, Manifest)) (between (codes "manifest_") (codes ".json") name))
    (option_or (option_map (λ p. (p.0, Started p.1)) (timed (codes "started_") name))
    (option_or (option_map (λ p. (p.0, Finished p.1)) (timed (codes "finished_") name))
    (option_map (λ f. (f, Differential)) (behind (codes "differential_") name)))))
