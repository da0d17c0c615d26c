-- Words ask for one thing at most.
use Rattle.std.proofs.Common.{◌≡◌, ◌∙◌, refl, sym, ap, List, Option, Some, None, codes, unwrap_or}
use Rattle.med_words.specs.declared.request.Usage.TheVariants.{Value}
use Rattle.med_words.specs.declared.request.Usage.TheVariants as fault
use Rattle.med_words.specs.declared.line.Line.{Line}
use Rattle.med_words.specs.Views.{said_view, HasLine}
use Rattle.med_words.specs.declared.request.WordsError.{WordsError}
use Rattle.med_words.specs.declared.request.WordsError.TheVariants.{Usage, Memory}
use Rattle.med_words.specs.Blames.{BlamesWords, AsksNothing}
use Rattle.med_words.specs.Fields.{said_in}
use Rattle.med_words.specs.Grammar.{Text, value_in}
use Rattle.med_words.specs.Reads.{BlamesValues}
use Rattle.med_words.specs.Request.{Asked, IsRequest}
use Rattle.med_words.specs.Said.{Said, said_by}
use Rattle.med_words.specs.Tables.{Action, word_of, action_for}
use Rattle.med_words.specs.Values.{first_bad}
use Rattle.med_words.proofs.OneLine.{one_line}

same_asked : (f g : Text) (b c p q n m : Option Text) (x y : Action) → f ≡ g → b ≡ c → p ≡ q
    → n ≡ m → x ≡ y
    → ◌≡◌ {A = Asked}
    (record { config_file = f; bucket = b; prefix = p; fqdn = n; action = x })
    (record { config_file = g; bucket = c; prefix = q; fqdn = m; action = y })
same_asked f g b c p q n m x y file bucket prefix node action =
    rw (file, bucket, prefix, node, action) refl

same_action : (v w : Text) (s t : Said) (x y : Action) → v ≡ w → s ≡ t
    → action_for v s ≡ Some x → action_for w t ≡ Some y → x ≡ y
same_action v w s t x y word said k l =
    cc (sym k ∙ ap (λ (u : Text). action_for u s) word
    ∙ ap (λ (r : Said). action_for w r) said ∙ l)

pub one_request : (words : List Text) (a b : Asked) → IsRequest words a → IsRequest words b
    → a ≡ b
one_request words a b k l =
    let line =
    one_line words k.main l.main (word_of a.action) (word_of b.action) k.own l.own k.line l.line in
    let own : said_by k.own ≡ said_by l.own = ap said_by line.2 in
    same_asked a.config_file b.config_file a.bucket b.bucket a.prefix b.prefix a.fqdn b.fqdn
    a.action b.action
    (k.main_is.config_file
    ∙ ap (λ us. unwrap_or (value_in (codes "config-file") us) (codes "/etc/medusa/medusa.ini"))
    line.0 ∙ sym l.main_is.config_file)
    (k.main_is.bucket ∙ ap (value_in (codes "bucket-name")) line.0 ∙ sym l.main_is.bucket)
    (k.main_is.prefix ∙ ap (value_in (codes "prefix")) line.0 ∙ sym l.main_is.prefix)
    (k.main_is.fqdn ∙ ap (value_in (codes "fqdn")) line.0 ∙ sym l.main_is.fqdn)
    (same_action (word_of a.action) (word_of b.action) (said_by k.own) (said_by l.own) a.action
    b.action line.1 own k.action_is l.action_is)

-- words that are rightly refused ask for nothing
pub asks_nothing : (words : List Text) (e : WordsError) → BlamesWords words e
    → AsksNothing words e
asks_nothing words (Usage fault.Line) no_line = λ asked r.
    no_line r.main r.own (word_of asked.action) r.line
asks_nothing words (Usage (Value option)) bad = λ asked r.
    let line =
    one_line words bad.main r.main bad.word (word_of asked.action) bad.own r.own bad.line r.line in
    let none : first_bad (said_by bad.own) ≡ None =
    ap (λ us. first_bad (said_by us)) line.2 ∙ r.taken in
    absurd (cc (sym bad.first ∙ none))
asks_nothing words Memory b = tt

-- a value of a line that is refused is one of the words
pub blames_words : (words : List Text) (l : Line) → HasLine words l → (e : WordsError)
    → BlamesValues (said_view l.own) e → BlamesWords words e
blames_words words l h (Usage fault.Line) b = absurd b
blames_words words l h (Usage (Value option)) b = record {
  main = h.main;
  word = l.word.now;
  own = h.own;
  line = h.line;
  first = ap (λ f. first_bad (said_in f)) (sym h.own_is) ∙ b;
}
blames_words words l h Memory b = tt
