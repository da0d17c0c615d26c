-- What a room holds after a read into its rest.
use Rattle.std.proofs.Common.{◌≡◌, ◌≤◌, ◌+◌, ◌++◌, ◌∙◌, ℕ, List, Option, length, take, refl, sym, ap, subst, arith}
use Rattle.std.proofs.KnownBytes.{Consumes-trans}
use Rattle.std.specs.Io.KnownBytes.{Consumes}
use Rattle.std.proofs.lemmas.Slice.{take-put_mid}
use borrow.Rule.Slice.PartMut.{mid_of, put_mid, same_len_mid}
use lib.Seq.{length-take-le, take_all, take-take, take-add, take_at, drop_at}

-- behind the first bytes a piece was written, of which so many were read
pub take_written : (start k count : ℕ) (room piece : List ℕ)
    → start ≤ length room → count ≤ length piece
    → take (start + count) (put_mid start k room piece) ≡ take start room ++ take count piece
take_written start k count room piece within few =
    let front = length-take-le start room within in
    let end = start + length piece in
    let whole = take-put_mid start k room piece end refl within in
    sym (take-take (start + count) end (put_mid start k room piece) (omega arith))
    ∙ ap (take (start + count)) whole
    ∙ take-add start count (take start room ++ piece)
    ∙ (λ i. take_at (take start room) piece start front i
    ++ take count (drop_at (take start room) piece start front i))

-- bytes that were filled up keep their first ones
pub first_kept : (size : ℕ) (bytes filler : List ℕ) → length bytes ≤ size
    → take (length bytes) (take size bytes ++ filler) ≡ bytes
first_kept size bytes filler within =
    let whole = take_all size bytes within in
    ap (λ l. take (length bytes) (l ++ filler)) whole ∙ take_at bytes filler (length bytes) refl

-- what was read behind bytes, as far as it was read, is what the file has lost since those
pub read_behind : (first old new : Option (List ℕ)) (start k count full : ℕ)
    (bytes now room behind : List ℕ) → length room ≡ length (mid_of start k now)
    → length now ≡ full → start ≤ length now → take start now ≡ bytes → count ≤ length room
    → Consumes first old bytes → Consumes old new (take count room)
    → Consumes first new (take (start + count) (take full (put_mid start k now room ++ behind)))
read_behind first old new start k count full bytes now room behind len all within kept few p q =
    let same = same_len_mid start k now room len in
    let whole = take_at (put_mid start k now room) behind full (same ∙ all) in
    let taken = take_written start k count now room within few in
    let is = ap (take (start + count)) whole ∙ taken ∙ ap (λ l. l ++ take count room) kept in
    subst (λ l. Consumes first new l) (sym is)
    (Consumes-trans first old new bytes (take count room) p q)
