use Rattle.std.proofs.Common.{◌∙◌, true, false, inl, inr}
use Rattle.clap.specs.Words.{found_of}
use Rattle.clap.proofs.WalkLemmas.{one_text-rows}
use Rattle.med_words.proofs.line.is_used.Goals as goal

pub returns : goal.returns
returns c true row =
    let text = one_text-rows (found_of c.args.matches.now) c.args.name.now in
    c.get_flag.ensures.value (text ∙ row)
returns c false (inl row) =
    let text = one_text-rows (found_of c.args.matches.now) c.args.name.now in
    c.get_flag.ensures.other (text ∙ row)
returns c false (inr row) =
    let text = one_text-rows (found_of c.args.matches.now) c.args.name.now in
    c.get_flag.ensures.none (text ∙ row)
