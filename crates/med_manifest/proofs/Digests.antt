-- One text spells one digest at most.
use Rattle.std.proofs.Common.{◌≡◌, ◌∙◌, ◌*◌, ℕ, List, length, Ok, inl, inr, refl, sym, ap, arith}
use Rattle.hex.specs.Hex.{decode_of as decode_hex}
use Rattle.hex.proofs.HexLemmas.{decode_of-ok, decode_of-same}
use Rattle.base64.specs.declared.engine.general_purpose.GeneralPurpose.{GeneralPurpose}
use Rattle.base64.specs.Engines.{standard}
use Rattle.base64.specs.GeneralPurpose.{decode_of, encode_of, IsBytes, IsConsistent}
use Rattle.base64.proofs.EngineFacts.{decode_of-encode_of}
use Rattle.med_base.specs.Digest.{SpellsMd5}
use Rattle.med_base.proofs.Base64Lemmas.{length-encode_16}

encoded_once : (e : GeneralPurpose) (text a b : List ℕ) → IsConsistent e → IsBytes a → IsBytes b
    → text ≡ encode_of e a → text ≡ encode_of e b → a ≡ b
encoded_once e text a b fits bytes_a bytes_b is_a is_b =
    let from_a = decode_of-encode_of e a fits bytes_a in
    let from_b = decode_of-encode_of e b fits bytes_b in
    cc (sym from_a ∙ ap (decode_of e) (sym is_a ∙ is_b) ∙ from_b)

-- no text has both spellings
one_spelling : (text a b : List ℕ) → decode_hex text ≡ Ok a → length a ≡ 16
    → text ≡ encode_of standard b → length b ≡ 16 → ⊥
one_spelling text a b hex sixteen is sixteen_too =
    let digits = decode_of-ok text a hex in
    let twice : length text ≡ 2 * length a = digits.2 in
    let four : length text ≡ 24 =
    ap (λ (t : List ℕ). length t) is ∙ length-encode_16 b sixteen_too in
    absurd (omega (arith, twice, four, sixteen))

pub digest_once : (text a b : List ℕ) → SpellsMd5 text a → SpellsMd5 text b → a ≡ b
digest_once text a b s t = elim s.form [
  | inl hex ↦ elim t.form [
    | inl other ↦ decode_of-same text a b hex other
    | inr other ↦ absurd (one_spelling text a b hex s.length other t.length)
  ]
  | inr is ↦ elim t.form [
    | inl other ↦ absurd (one_spelling text b a other t.length is s.length)
    | inr other ↦ encoded_once standard text a b refl s.bytes t.bytes is other
  ]
]
