use Rattle.std.proofs.Common.{◌≡◌, ◌∙◌, sym, ap, subst, codes, unwrap_or, option_map, Some}
use Rattle.med_words.specs.Grammar.{Text, IsLine}
use Rattle.med_words.specs.Fields.{MainFields, said_in}
use Rattle.med_words.specs.Said.{said_by}
use Rattle.med_words.specs.Tables.{main_options, commands, word_of, action_for}
use Rattle.med_words.specs.Values.{first_bad}
use Rattle.med_words.specs.Views.{action_of}
use Rattle.med_words.proofs.ActionFor.{asks_something, line_action, of_word}
use Rattle.med_words.proofs.read.request_of.Goals as goal

pub unreachable-requires : goal.unreachable-requires
unreachable-requires c =
    asks_something c.requires.line.0 c.args.line.now c.requires.line.1 c.args.values
    c.requires.values
    (c.in_ok-command.ensures ∙ ap (option_map action_of) c.in_default.is)

pub returns : goal.returns
returns c words h =
    let action = action_of c.in-Some.command in
    let asks : action_for c.args.line.now.word.now (said_by h.own) ≡ Some action =
    line_action words c.args.line.now h ∙ c.in_ok-command.ensures
    ∙ ap (option_map action_of) c.in-Some.is in
    let word_is : c.args.line.now.word.now ≡ word_of action =
    sym (of_word c.args.line.now.word.now (said_by h.own) action asks) in
    record {
      main = h.main;
      own = h.own;
      line = subst (λ (w : Text). IsLine main_options commands words h.main w h.own) word_is h.line;
      taken = ap (λ f. first_bad (said_in f)) (sym h.own_is) ∙ c.requires.values.taken;
      main_is = record {
        config_file =
            c.in_ok-config_file.ensures
            ∙ ap (λ (m : MainFields). unwrap_or m.config_file (codes "/etc/medusa/medusa.ini"))
            h.main_is;
        bucket = c.in_ok-over.ensures.bucket ∙ ap (λ (m : MainFields). m.bucket) h.main_is;
        prefix = c.in_ok-over.ensures.prefix ∙ ap (λ (m : MainFields). m.prefix) h.main_is;
        fqdn = c.in_ok-over.ensures.fqdn ∙ ap (λ (m : MainFields). m.fqdn) h.main_is;
      };
      action_is = ap (λ (w : Text). action_for w (said_by h.own)) (sym word_is) ∙ asks;
    }
