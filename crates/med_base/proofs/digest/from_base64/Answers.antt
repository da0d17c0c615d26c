use Rattle.std.proofs.Common.{◌∙◌, ap, sym, arith, refl, ℕ, List, Ok, length}
use Rattle.base64.specs.GeneralPurpose.{encode_of}
use Rattle.base64.specs.Engines.{standard}
use Rattle.med_base.proofs.Base64Lemmas.{all_read, read_whole, length-encode_16}
use Rattle.med_base.proofs.digest.from_base64.Goals as goal

pub returns-then-text-ne24-clause-err : goal.returns-then-text-ne24-clause-err
returns-then-text-ne24-clause-err c md5 sixteen bytes is =
    c.if-text-ne24.true (ap (λ (t : List ℕ). length t) is ∙ length-encode_16 md5 sixteen)

pub returns-in_default-clause-err : goal.returns-in_default-clause-err
returns-in_default-clause-err c md5 sixteen bytes is =
    let text = c.args.text.now in
    let call = c.decode_slice in
    let ok =
    all_read standard text c.as_bytes.result.now md5 call.result (refl, refl) call.ensures.value
    c.as_bytes.ensures.value (λ i. omega (arith, c.type_inv.text i)) (omega arith) sixteen bytes
    is in
    c.in_default.not-Ok 16 ok

pub returns-then-count-ne16-clause-err : goal.returns-then-count-ne16-clause-err
returns-then-count-ne16-clause-err c md5 sixteen bytes is =
    let text = c.args.text.now in
    let call = c.decode_slice in
    let ok =
    all_read standard text c.as_bytes.result.now md5 call.result (refl, refl) call.ensures.value
    c.as_bytes.ensures.value (λ i. omega (arith, c.type_inv.text i)) (omega arith) sixteen bytes
    is in
    c.if-count-ne16.true (cc (sym c.in-Ok.is ∙ ok))

pub returns-clause-ok : goal.returns-clause-ok
returns-clause-ok c =
    let text = c.args.text.now in
    let call = c.decode_slice in
    let sixteen = c.in-Ok.is ∙ ap (λ (n : ℕ). Ok n) c.if-count-ne16.false in
    read_whole standard text c.as_bytes.result.now _ call.new.output call.result (refl, refl)
    call.ensures.value
    c.as_bytes.ensures.value (λ i. omega (arith, c.type_inv.text i)) (omega arith) sixteen
    c.in-Ok.ensures.written c.in-Ok.ensures.bytes
    ∙ ap (encode_of standard) (sym c.copy_from_slice.ensures.after)
