use Rattle.std.proofs.Common.{◌≡◌, ◌∙◌, ap, sym, arith, ℕ, List, length, inl, inr}
use Rattle.std.proofs.lemmas.Result.{IfErr-weaker}
use Rattle.hex.proofs.HexLemmas.{decode_of-ok, decode_sized-twice}
use Rattle.med_base.proofs.Base64Lemmas.{length-encode_16}
use Rattle.med_base.proofs.digest.read_md5.Goals as goal

pub returns-clause-err : goal.returns-clause-err
returns-clause-err c =
    IfErr-weaker c.from_base64.result _ _ (λ e err md5 s. elim s.form [
      | inl hex ↦ let d = decode_of-ok c.args.text.now md5 hex in let l = s.length in absurd
          (omega arith)
      | inr is ↦ err md5 s.length s.bytes is
    ]) c.from_base64.ensures.err

pub returns-in-Err-clause-err : goal.returns-in-Err-clause-err
returns-in-Err-clause-err c md5 s = elim s.form [
  | inl hex ↦
      let sized = decode_sized-twice c.args.text.now 16 (omega arith) in
      cc (sym c.in-Err.is ∙ c.from_hex.ensures ∙ sized ∙ hex)
  | inr is ↦
      let l : length c.args.text.now ≡ 24 = ap (λ (t : List ℕ). length t) is
      ∙ length-encode_16 md5 s.length in
      absurd (omega arith)
]
