-- A line, out of its parts.
use Rattle.std.proofs.Common.{◌≡◌, ◌∙◌, sym, ap₂, subst, List, ◌∷◌, ◌++◌, Some, None}
use Rattle.std.specs.List.{flat_map}
use Rattle.med_words.specs.Grammar.{Text, Opt, Use, options_of, spelled, IsLine}
use Rattle.med_words.specs.Matched.{IsUses}
use Rattle.med_words.specs.Tables.{main_options, commands}
use Rattle.med_words.specs.Views.{HasMain, HasOwn, HasLine}
use Rattle.med_words.specs.declared.line.Line.{Line}

-- the parts of a line spell the uses of their tables
pub main_uses : (words part : List Text) (main own : List Use) (word : Text)
    → IsLine main_options commands words main word own → part ≡ flat_map spelled main
    → IsUses main_options part main
main_uses words part main own word s is =
    record { words_are = is; fit = s.main_fit; once = s.main_once; required = s.main_required }

pub own_uses : (words part : List Text) (main own : List Use) (word : Text) (t : List Opt)
    → IsLine main_options commands words main word own → options_of commands word ≡ Some t
    → part ≡ flat_map spelled own → IsUses t part own
own_uses words part main own word t s e is =
    let same : s.options ≡ t = cc (sym s.command_is ∙ e) in
    subst (λ (u : List Opt). IsUses u part own) same
    (record { words_are = is; fit = s.own_fit; once = s.own_once; required = s.own_required })

pub no_line : (words : List Text) (main own : List Use) (word : Text)
    → IsLine main_options commands words main word own → options_of commands word ≡ None → ⊥
no_line words main own word s e = cc (sym s.command_is ∙ e)

pub line_of : (before after : List Text) (t : List Opt) (l : Line)
    → options_of commands l.word.now ≡ Some t → HasMain before l.main → HasOwn t after l.own
    → (words : List Text) → words ≡ before ++ l.word.now ∷ after → HasLine words l
line_of before after t l e m o words is = record {
  main = m.uses;
  own = o.uses;
  line = record {
    words_are = is
        ∙ ap₂ (λ (a b : List Text). a ++ l.word.now ∷ b) m.spell.words_are o.spell.words_are;
    main_fit = m.spell.fit;
    main_once = m.spell.once;
    main_required = m.spell.required;
    options = t;
    command_is = e;
    own_fit = o.spell.fit;
    own_once = o.spell.once;
    own_required = o.spell.required;
  };
  main_is = m.said;
  own_is = o.said;
}
