-- A line is cut at its command word.
use Rattle.std.proofs.Common.{◌≡◌, ◌∙◌, true, false, true≢false, refl, sym, ap, ◌≤◌, List, [], ◌∷◌, ◌++◌, length, take, drop, suc}
use Rattle.std.proofs.lemmas.List.{take_at, drop_at, drop_all}
use Rattle.std.specs.List.{flat_map, AllByRecursion}
use Rattle.clap.specs.Lexer.{has_byte}
use Rattle.clap.proofs.CutLemmas.{list_any-at}
use Rattle.med_words.specs.Cut.{is_plain, main_count}
use Rattle.med_words.specs.Grammar.{Text, Use, alone, joined, apart, spelled, Fits, IsLine}
use Rattle.med_words.specs.Tables.{main_options, commands}
use Rattle.med_words.proofs.Rows.{IsGoodName}
use Rattle.med_words.proofs.RowsHeld.{flag_there}
use Rattle.med_words.proofs.TheTables.{main_table, table_of, plain_name}

-- a name has no `=`
pub no_equals : (n : Text) → IsGoodName n → has_byte 61 n ≡ false
no_equals [] g = refl
no_equals (z ∷ zs) g = g

-- the words of main options are counted
main_counted : (us : List Use) → AllByRecursion (Fits main_options) us → (w : Text)
    → is_plain w ≡ true → (rest : List Text)
    → main_count false (flat_map spelled us ++ w ∷ rest) ≡ length (flat_map spelled us)
main_counted [] fit w plain rest = rw plain refl
main_counted (alone n ∷ us) fit w plain rest =
    absurd (true≢false (sym (flag_there main_options n fit.0)))
main_counted (joined n v ∷ us) fit w plain rest =
    rw (list_any-at 61 n v) (ap suc (main_counted us fit.1 w plain rest))
main_counted (apart n v ∷ us) fit w plain rest =
    rw (no_equals n ((table_of main_options main_table).names n _ fit.0.1))
    (ap (λ k. suc (suc k)) (main_counted us fit.1 w plain rest))

pub line_cut : (words : List Text) (main own : List Use) (word : Text)
    → IsLine main_options commands words main word own
    → (take (main_count false words) words ≡ flat_map spelled main)
    × (drop (main_count false words) words ≡ word ∷ flat_map spelled own)
line_cut words main own word s =
    let count : length (flat_map spelled main) ≡ main_count false words =
    sym (ap (main_count false) s.words_are ∙ main_counted main s.main_fit word
    (plain_name word s.options s.command_is) (flat_map spelled own)) in (
      ap (take (main_count false words)) s.words_are ∙ take_at (flat_map spelled main) _ _ count,
      ap (drop (main_count false words)) s.words_are ∙ drop_at (flat_map spelled main) _ _ count,
    )

module _ (words : List Text) (main own : List Use) (word : Text)
    (s : IsLine main_options commands words main word own) where
  -- words that are divided where the count says, are divided at the command word
  pub same_parts : (before after : List Text) (at : Text) → words ≡ before ++ at ∷ after
      → length before ≡ main_count false words
      → (before ≡ flat_map spelled main) × (at ≡ word) × (after ≡ flat_map spelled own)
  same_parts before after at is count =
      let cut = line_cut words main own word s in
      let ends : at ∷ after ≡ word ∷ flat_map spelled own =
      sym (ap (drop (main_count false words)) is ∙ drop_at before (at ∷ after) _ count)
      ∙ cut.1 in
      let first : at ≡ word = cc ends in
      let rest : after ≡ flat_map spelled own = cc ends in (
        sym (ap (take (main_count false words)) is ∙ take_at before (at ∷ after) _ count)
            ∙ cut.0,
        first,
        rest,
      )

  -- a word is left for the command
  pub word_left : length words ≤ main_count false words → ⊥
  word_left short =
      let none : drop (main_count false words) words ≡ [] = drop_all _ words short in
      cc (sym none ∙ (line_cut words main own word s).1)
