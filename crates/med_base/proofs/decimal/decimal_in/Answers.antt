use Rattle.med_base.proofs.DecimalLemmas.{not_decimal}
use Rattle.med_base.proofs.decimal.decimal_in.Goals as goal

pub returns-in-Err : goal.returns-in-Err
returns-in-Err c = record {
  value =
      not_decimal c.args.places c.args.limit c.args.text.now c.in-Err.field-0
      c.ranges.limit.fits
      c.in-Err.ensures.value.0;
}
