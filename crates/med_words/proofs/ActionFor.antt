-- What a command word and its options ask for: each option that has to stand has a value, so
-- something is made of them, and what is made has that word.
use Rattle.std.proofs.Common.{◌≡◌, ◌∙◌, Bool, cond, true, false, true≢false, not, refl, sym, ap, subst, List, [], ◌∷◌, Option, Some, None, codes, is_some, map, option_and_then}
use Rattle.std.specs.List.{find, list_all, AllByRecursion}
use Rattle.std.specs.Option.{option_map}
use Rattle.std.specs.Str.{bytes_eq}
use Rattle.std.proofs.lemmas.Bool.{not-true}
use Rattle.med_base.proofs.Bools.{same_bytes}
use Rattle.med_words.specs.Fields.{Fields, fields_of, said_in}
use Rattle.med_words.specs.Grammar.{Text, Opt, Row, Use, Fits, IsMet, is_used, value_in, options_of}
use Rattle.med_words.specs.Matched.{has_flag}
use Rattle.med_words.specs.Reads.{Reads}
use Rattle.med_words.specs.Said.{Said, said_by}
use Rattle.med_words.specs.Settings.{Setting, Given, option_of, value_of, backup_name, mode, workers, rounds, destination, host_list, jobs_file, all_nodes, show_all}
use Rattle.med_words.specs.Tables.{Action, CommandRow, Makes, commands, word_of, made_of, action_for}
use Rattle.med_words.specs.Tables as tables
use Rattle.med_words.specs.Values.{read_name, read_rounds}
use Rattle.med_words.specs.Views.{said_view, HasLine}
use Rattle.med_words.specs.declared.line.Line.{Line}
use Rattle.med_words.specs.declared.values.Values.{Values}
use Rattle.med_words.proofs.OwnLemmas.{used_value, some_read}
use Rattle.med_words.proofs.SaidLemmas.{of_each}

pub at_word : (w word : Text) (said : Said) (a : Option Action) → word ≡ w → action_for w said ≡ a
    → action_for word said ≡ a
at_word w word said a is e = ap (λ (v : Text). action_for v said) is ∙ e

-- ---- the row of a command word

abbrev entry : CommandRow → Row
entry c = (c.word, map option_of c.settings)

record HasRow (cs : List CommandRow) (w : Text) (t : List Opt) : Type 0 where
  row : CommandRow
  found : find (λ (c : CommandRow). bytes_eq c.word w) cs ≡ Some row
  options : map option_of row.settings ≡ t

has_row : (cs : List CommandRow) (w : Text) (t : List Opt) → options_of (map entry cs) w ≡ Some t
    → HasRow cs w t
has_row [] w t e = cc e
has_row (c ∷ cs) w t e = go (bytes_eq c.word w) refl e (has_row cs w t)
  where
    go : (b : Bool) → bytes_eq c.word w ≡ b
        → option_map (λ (d : Row). d.1)
        (cond b (Some (entry c)) (find (λ (d : Row). bytes_eq d.0 w) (map entry cs))) ≡ Some t
        → (options_of (map entry cs) w ≡ Some t → HasRow cs w t) → HasRow (c ∷ cs) w t
    go true is found more = record { row = c; found = rw is refl; options = cc found }
    go false is found more = let h = more found in
        record { row = h.row; found = rw is h.found; options = h.options }

-- ---- the word of what is asked for

-- whatever the values of these options are, what they make has this word
abbrev MakesWord : Text → (settings : List Setting) → Makes settings → Type 0
MakesWord w [] action = word_of action ≡ w
MakesWord w (s ∷ settings) make = (v : Given s) → MakesWord w settings (make v)

-- what each row makes has the word of the row
rows_make : AllByRecursion (λ (c : CommandRow). MakesWord c.word c.settings c.make) tables.rows
rows_make = search

made_word : (w : Text) (said : Said) (settings : List Setting) (make : Makes settings) (a : Action)
    → MakesWord w settings make → made_of said settings make ≡ Some a → word_of a ≡ w
made_word w said [] action a makes e = cc (makes, e)
made_word w said (s ∷ settings) make a makes e =
    go (value_of s said) (λ v. made_word w said settings (make v) a (makes v)) e
  where
    go : (o : Option (Given s))
        → ((v : Given s) → made_of said settings (make v) ≡ Some a → word_of a ≡ w)
        → option_and_then (λ v. made_of said settings (make v)) o ≡ Some a → word_of a ≡ w
    go None more h = absurd (cc h)
    go (Some v) more h = more v h

found_word : (cs : List CommandRow) (w : Text) (said : Said) (a : Action)
    → AllByRecursion (λ (c : CommandRow). MakesWord c.word c.settings c.make) cs
    → option_and_then (λ (c : CommandRow). made_of said c.settings c.make)
    (find (λ (c : CommandRow). bytes_eq c.word w) cs) ≡ Some a → word_of a ≡ w
found_word [] w said a all e = absurd (cc e)
found_word (c ∷ cs) w said a all e =
    go (bytes_eq c.word w) refl e (found_word cs w said a all.1)
  where
    go : (b : Bool) → bytes_eq c.word w ≡ b
        → option_and_then (λ (d : CommandRow). made_of said d.settings d.make)
        (cond b (Some c) (find (λ (d : CommandRow). bytes_eq d.word w) cs)) ≡ Some a
        → (option_and_then (λ (d : CommandRow). made_of said d.settings d.make)
        (find (λ (d : CommandRow). bytes_eq d.word w) cs) ≡ Some a → word_of a ≡ w)
        → word_of a ≡ w
    go true is h more =
        made_word c.word said c.settings c.make a all.0 h ∙ same_bytes c.word w is
    go false is h more = more h

pub of_word : (w : Text) (said : Said) (a : Action) → action_for w said ≡ Some a → word_of a ≡ w
of_word w said a e = found_word tables.rows w said a rows_make e

-- ---- the values of its options

all_made : (said : Said) (settings : List Setting) (make : Makes settings)
    → AllByRecursion (λ s. is_some (value_of s said) ≡ true) settings
    → is_some (made_of said settings make) ≡ true
all_made said [] make all = refl
all_made said (s ∷ settings) make all =
    go (value_of s said) all.0 (λ v. all_made said settings (make v) all.1)
  where
    go : (o : Option (Given s)) → is_some o ≡ true
        → ((v : Given s) → is_some (made_of said settings (make v)) ≡ true)
        → is_some (option_and_then (λ v. made_of said settings (make v)) o) ≡ true
    go None h more = absurd (true≢false (sym h))
    go (Some v) h more = more v

module _ (w : Text) (t : List Opt) (is : options_of commands w ≡ Some t) (own : List Use)
    (fit : AllByRecursion (Fits t) own) (v : Values) (reads : Reads (said_by own) v) where
  -- an option with a value that is used has one
  stands : (n : Text) → list_all (λ (c : Row). not (has_flag n c.1)) commands ≡ true
      → is_used n own ≡ true → is_some (value_in n own) ≡ true
  stands n never used = used_value t own n fit
      (not-true (has_flag n t) (of_each (λ u. not (has_flag n u)) commands never w t is)) used

  has_value : (s : Setting) → IsMet own (option_of s) → is_some (value_of s (said_by own)) ≡ true
  has_value backup_name met =
      some_read read_name _ _ reads.name_fits refl (stands (codes "backup-name") refl met)
  has_value mode met = ap is_some reads.mode
  has_value workers met = ap is_some reads.workers
  has_value rounds met =
      some_read read_rounds _ _ reads.rounds_fit refl (stands (codes "rounds") refl met)
  has_value destination met = stands (codes "download-destination") refl met
  has_value host_list met = stands (codes "host-list") refl met
  has_value jobs_file met = stands (codes "jobs-file") refl met
  has_value all_nodes met = refl
  has_value show_all met = refl

  have_values : (settings : List Setting) → AllByRecursion (IsMet own) (map option_of settings)
      → AllByRecursion (λ s. is_some (value_of s (said_by own)) ≡ true) settings
  have_values [] met = tt
  have_values (s ∷ settings) met = (has_value s met.0, have_values settings met.1)

  something : AllByRecursion (IsMet own) t → is_some (action_for w (said_by own)) ≡ true
  something met =
      let h = has_row tables.rows w t is in
      ap (λ (o : Option CommandRow).
      is_some (option_and_then (λ c. made_of (said_by own) c.settings c.make) o)) h.found
      ∙ all_made (said_by own) h.row.settings h.row.make
      (have_values h.row.settings (subst (AllByRecursion (IsMet own)) (sym h.options) met))

-- ---- the fields of what is said, in its place

same_value : (said : Said) (s : Setting) → value_of s (said_in (fields_of said)) ≡ value_of s said
same_value said backup_name = refl
same_value said mode = refl
same_value said workers = refl
same_value said rounds = refl
same_value said destination = refl
same_value said host_list = refl
same_value said jobs_file = refl
same_value said all_nodes = refl
same_value said show_all = refl

same_made : (a b : Said) → ((s : Setting) → value_of s a ≡ value_of s b)
    → (settings : List Setting) (make : Makes settings)
    → made_of a settings make ≡ made_of b settings make
same_made a b same [] make = refl
same_made a b same (s ∷ settings) make =
    ap (option_and_then (λ v. made_of a settings (make v))) (same s)
    ∙ go (value_of s b) (λ v. same_made a b same settings (make v))
  where
    go : (o : Option (Given s))
        → ((v : Given s) → made_of a settings (make v) ≡ made_of b settings (make v))
        → option_and_then (λ v. made_of a settings (make v)) o
        ≡ option_and_then (λ v. made_of b settings (make v)) o
    go None more = refl
    go (Some v) more = more v

pub same_action : (w : Text) (said : Said)
    → action_for w (said_in (fields_of said)) ≡ action_for w said
same_action w said = go (find (λ (c : CommandRow). bytes_eq c.word w) tables.rows)
  where
    go : (o : Option CommandRow)
        → option_and_then (λ c. made_of (said_in (fields_of said)) c.settings c.make) o
        ≡ option_and_then (λ c. made_of said c.settings c.make) o
    go None = refl
    go (Some c) =
        same_made (said_in (fields_of said)) said (same_value said) c.settings c.make

-- what the fields of a line ask for, its uses ask for
pub line_action : (words : List Text) (l : Line) (h : HasLine words l)
    → action_for l.word.now (said_by h.own) ≡ action_for l.word.now (said_view l.own)
line_action words l h =
    sym (same_action l.word.now (said_by h.own))
    ∙ ap (λ (f : Fields). action_for l.word.now (said_in f)) (sym h.own_is)

line_reads : (words : List Text) (l : Line) (h : HasLine words l) (v : Values)
    → Reads (said_view l.own) v → Reads (said_by h.own) v
line_reads words l h v reads =
    let r = subst (λ (f : Fields). Reads (said_in f) v) h.own_is reads in record {
      name = r.name;
      name_fits = r.name_fits;
      mode = r.mode;
      workers = r.workers;
      rounds = r.rounds;
      rounds_fit = r.rounds_fit;
      taken = r.taken;
    }

-- a line whose options have values asks for something
pub asks_something : (words : List Text) (l : Line) → HasLine words l → (v : Values)
    → Reads (said_view l.own) v → action_for l.word.now (said_view l.own) ≡ None → ⊥
asks_something words l h v reads none =
    true≢false (sym (something l.word.now h.line.options h.line.command_is h.own h.line.own_fit v
    (line_reads words l h v reads) h.line.own_required)
    ∙ ap is_some (line_action words l h ∙ none))
