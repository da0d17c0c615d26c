-- A strict engine of base64 reads into a slice exactly what it writes.
use Rattle.std.proofs.Common.{◌≡◌, ◌∙◌, ◌≤◌, ◌++◌, ℕ, true, List, length, Result, Ok, Option, Some, None, refl, sym, ap, ap₂, arith, ◌-◌, ◌%◌, replicate, take, drop, subst}
use Rattle.std.proofs.lemmas.List.{length-append, take_at}
use Rattle.base64.specs.declared.decode.DecodeError.{DecodeError}
use Rattle.base64.specs.declared.decode.DecodeSliceError.{DecodeSliceError}
use Rattle.base64.specs.declared.engine.general_purpose.GeneralPurpose.{GeneralPurpose}
use Rattle.base64.specs.Decode.{decode_error, decode_outcome, decoded_estimate, or_error}
use Rattle.base64.specs.GeneralPurpose.{decode_of, decode_slice_of, decoded_bytes_of, encode_of, IsBytes, IsStrict}
use Rattle.base64.specs.Rfc4648.{encode, encode_symbols}
use Rattle.base64.specs.Engines.{standard}
use Rattle.base64.proofs.Decoding.{or_error_ok, slice_result_room}
use Rattle.base64.proofs.RoundTrip.{length-encode_symbols}
use Rattle.base64.proofs.EngineFacts.{decode_of_iff}

outcome_ok : (e : Option DecodeError) (bs out : List ℕ) → decode_outcome e bs ≡ Ok out
    → (e ≡ None) × (bs ≡ out)
outcome_ok None bs out h = (refl, cc h)
outcome_ok (Some e) bs out h = cc h

abbrev error_of : GeneralPurpose → List ℕ → Option DecodeError
error_of e text =
    decode_error e.decode_table e.padding.value e.config.decode_allow_trailing_bits
    e.config.decode_padding_mode text

slice_of : (e : GeneralPurpose) (text : List ℕ) (room : ℕ)
    → decoded_estimate (length text) ≤ room
    → decode_slice_of e text room ≡ or_error (error_of e text)
    (Ok (length (decoded_bytes_of e text)))
slice_of e text room fits =
    slice_result_room e.decode_table text e.padding.value e.config.decode_allow_trailing_bits
    e.config.decode_padding_mode room fits

slice_reads : (e : GeneralPurpose) (text : List ℕ) (room n : ℕ) → IsStrict e → IsBytes text
    → IsBytes (decoded_bytes_of e text) → decoded_estimate (length text) ≤ room
    → decode_slice_of e text room ≡ Ok n
    → (text ≡ encode_of e (decoded_bytes_of e text)) × (length (decoded_bytes_of e text) ≡ n)
slice_reads e text room n strict bytes back fits ok =
    let out = decoded_bytes_of e text in
    let parts = or_error_ok (error_of e text) (length out) n
    (sym (slice_of e text room fits) ∙ ok) in
    let decodes : decode_of e text ≡ Ok out = ap (λ x. decode_outcome x out) parts.0 in
    ((decode_of_iff e text out strict bytes back).0 decodes, parts.1)

slice_writes : (e : GeneralPurpose) (text out : List ℕ) (room : ℕ) → IsStrict e → IsBytes text
    → IsBytes out → decoded_estimate (length text) ≤ room → text ≡ encode_of e out
    → decode_slice_of e text room ≡ Ok (length out)
slice_writes e text out room strict bytes back fits is =
    let decodes = (decode_of_iff e text out strict bytes back).1 is in
    let parts = outcome_ok (error_of e text) (decoded_bytes_of e text) out decodes in
    slice_of e text room fits ∙ ap₂ (λ x bs. or_error x (Ok (length bs))) parts.0 parts.1

length-encode_by : (t bs : List ℕ) (pad : ℕ) → length bs ≡ 16 → length (encode t pad true bs) ≡ 24
length-encode_by t bs pad e =
    let two : (3 - length bs % 3) % 3 ≡ 2 = omega arith in
    let padding : length (replicate ((3 - length bs % 3) % 3) pad) ≡ 2 = rw two refl in
    let whole = length-append (encode_symbols t bs) (replicate ((3 - length bs % 3) % 3) pad) in
    omega (arith, whole, length-encode_symbols t bs)

-- 16 bytes take 24 characters
pub length-encode_16 : (bs : List ℕ) → length bs ≡ 16 → length (encode_of standard bs) ≡ 24
length-encode_16 bs e = length-encode_by standard.encode_table bs 61 e

-- 24 characters that are an encoding are read into room for 18 bytes
pub all_read : (e : GeneralPurpose) (text given md5 : List ℕ) (r : Result ℕ DecodeSliceError)
    → IsStrict e → r ≡ decode_slice_of e given 18 → given ≡ text → IsBytes text
    → length text ≡ 24 → length md5 ≡ 16 → IsBytes md5 → text ≡ encode_of e md5 → r ≡ Ok 16
all_read e text given md5 r strict value same bytes len sixteen fits is =
    value
    ∙ ap (λ x. decode_slice_of e x 18) same
    ∙ slice_writes e text md5 18 strict bytes fits (omega arith) is
    ∙ ap (λ (n : ℕ). Ok n) sixteen

-- what was read from 24 characters is what encodes to them
pub read_whole : (e : GeneralPurpose) (text given room filled : List ℕ)
    (r : Result ℕ DecodeSliceError)
    → IsStrict e → r ≡ decode_slice_of e given 18 → given ≡ text → IsBytes text
    → length text ≡ 24 → r ≡ Ok 16
    → filled ≡ decoded_bytes_of e given ++ drop (length (decoded_bytes_of e given)) room
    → IsBytes (decoded_bytes_of e given) → text ≡ encode_of e (take 16 filled)
read_whole e text given room filled r strict value same bytes len ok written back =
    let out = decoded_bytes_of e given in
    let same_out : out ≡ decoded_bytes_of e text = ap (λ (x : List ℕ). decoded_bytes_of e x) same in
    let same_slice = ap (λ x. decode_slice_of e x 18) (sym same) in
    let h = slice_reads e text 18 16 strict bytes (subst (λ (x : List ℕ). IsBytes x) same_out back)
    (omega arith) (same_slice ∙ sym value ∙ ok) in
    let sixteen : length out ≡ 16 = ap (λ (x : List ℕ). length x) same_out ∙ h.1 in
    let front : take 16 filled ≡ out = ap (take 16) written
    ∙ take_at out (drop (length out) room) 16 sixteen in
    h.0 ∙ ap (encode_of e) (sym (front ∙ same_out))
