use Rattle.std.proofs.Common.{◌≡◌, Err, ap, sym, map, string_bytes}
use Rattle.med_words.specs.declared.line.LineError.TheVariants.{Line}
use Rattle.med_words.specs.Views.{opt_view}
use Rattle.med_words.proofs.LineParts.{own_uses, line_of}
use Rattle.med_words.proofs.line.line_at.Goals as goal

pub returns-in-Ok-read_own-clause-ok : goal.returns-in-Ok-read_own-clause-ok
returns-in-Ok-read_own-clause-ok c words is =
    line_of (map string_bytes c.args.parts.now.main.now) (map string_bytes c.args.parts.now.own.now)
    (map opt_view c.in-Some.options.now)
    (record { main = c.in-Ok.main; word = c.args.parts.now.word; own = c.in-Ok-read_own.own })
    (sym c.in-Some.ensures) c.in-Ok.ensures.ok c.in-Ok-read_own.ensures.ok words is

pub returns-in-Err-read_own-clause-line : goal.returns-in-Err-read_own-clause-line
returns-in-Err-read_own-clause-line c is words main own s before after =
    let same : c.in-Err-read_own.error ≡ Line = cc is in
    c.in-Err-read_own.ensures.line (ap Err same) own
    (own_uses words (map string_bytes c.args.parts.now.own.now) main own c.args.parts.now.word.now
    (map opt_view c.in-Some.options.now) s (sym c.in-Some.ensures) after)
