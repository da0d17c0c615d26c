-- A config file that is told is refused with one text, and so are words.
use Rattle.std.proofs.Common.{◌≡◌, ℕ, List, Option, Some, refl, sym, ◌∙◌, ap, ap₂, subst}
use Rattle.std.proofs.lemmas.Option.{same_Some}
use Rattle.med_ini.specs.Entries.{Entry}
use Rattle.med_ini.specs.Grammar.{FaultOn}
use Rattle.med_ini.specs.Options.{Fault, config_fault, bucket_over, prefix_over, fqdn_over}
use Rattle.med_ini.specs.declared.errors.IniKind.{IniKind}
use Rattle.med_ini.specs.declared.overrides.Overrides.{Overrides}
use Rattle.med_ini.proofs.OneFault.{one_fault_of, fault_none}
use Rattle.med_ini.proofs.OneReading.{one_reading_of}
use Rattle.med_outside.specs.World.{FileContents}
use Rattle.med_words.specs.Blames.{BlamesWords}
use Rattle.med_words.specs.Grammar.{Use}
use Rattle.med_words.specs.Request.{Asked}
use Rattle.med_words.specs.Said.{said_by}
use Rattle.med_words.specs.Values.{first_bad}
use Rattle.med_words.specs.declared.request.Usage.{Usage}
use Rattle.med_words.specs.declared.request.Usage.TheVariants as usage
use Rattle.med_words.specs.declared.request.WordsError.TheVariants as words_error
use Rattle.med_words.proofs.OneLine.{one_line}
use Rattle.med_commands.specs.Loaded.{AreOverrides, IsConfigFile, IsRefusedFor, IsRefused, no_file, no_ini, bad_option}
use Rattle.med_commands.specs.Texts.{usage_text, bad_value_text, line_text, option_text}
use Rattle.med_commands.proofs.OneNodeConfig.{same_bytes, not_absent}

-- ---- words

pub one_usage : (words : List (List ℕ)) (u v : Usage) → BlamesWords words (words_error.Usage u)
    → BlamesWords words (words_error.Usage v) → usage_text u ≡ usage_text v
one_usage words usage.Line usage.Line f g = refl
one_usage words usage.Line (usage.Value option) f g = absurd (f g.main g.own g.word g.line)
one_usage words (usage.Value option) usage.Line f g = absurd (g f.main f.own f.word f.line)
one_usage words (usage.Value option) (usage.Value other) f g =
    let line = one_line words f.main g.main f.word g.word f.own g.own f.line g.line in
    ap bad_value_text (same_Some option.now other.now
    (sym f.first ∙ ap (λ (own : List Use). first_bad (said_by own)) line.2 ∙ g.first))

-- ---- the checks of a config file

-- the checks depend on the entries and on the texts of the overrides
one_check : (asked : Asked) (a b : List Entry) (over other : Overrides) → a ≡ b
    → AreOverrides asked over → AreOverrides asked other
    → config_fault a over ≡ config_fault b other
one_check asked a b over other same f g =
    let bucket : bucket_over over ≡ bucket_over other = f.bucket ∙ sym g.bucket in
    let prefix : prefix_over over ≡ prefix_over other = f.prefix ∙ sym g.prefix in
    let fqdn : fqdn_over over ≡ fqdn_over other = f.fqdn ∙ sym g.fqdn in
    rw (same, bucket, prefix, fqdn) refl

-- ---- a config file that is told

module _ (files : FileContents) (asked : Asked) (file : Option (List ℕ))
    (told : files asked.config_file ≡ Some file) where
  not_line : (x y : List ℕ) (line : ℕ) (kind : IniKind) (over : Overrides) (fault : Fault)
      → IsConfigFile files asked (Some x) → IsConfigFile files asked (Some y)
      → FaultOn x line kind → IsRefusedFor fault over y → ⊥
  not_line x y line kind over fault f g bad r =
      fault_none y line kind
      (subst (λ (bytes : List ℕ). FaultOn bytes line kind)
      (same_bytes files asked file told x y f g) bad) r.entries r.ini

  same_line : (x y : List ℕ) (m n : ℕ) (k l : IniKind) → IsConfigFile files asked (Some x)
      → IsConfigFile files asked (Some y) → FaultOn x m k → FaultOn y n l
      → line_text m k ≡ line_text n l
  same_line x y m n k l f g bad also =
      let both = one_fault_of y m n k l
      (subst (λ (bytes : List ℕ). FaultOn bytes m k)
      (same_bytes files asked file told x y f g) bad) also in
      ap₂ line_text both.0 both.1

  same_check : (x y : List ℕ) (over other : Overrides) (p q : Fault)
      → IsConfigFile files asked (Some x) → IsConfigFile files asked (Some y)
      → AreOverrides asked over → AreOverrides asked other → IsRefusedFor p over x
      → IsRefusedFor q other y → p ≡ q
  same_check x y over other p q f g o u bad also =
      let here : IsRefusedFor p over y =
      subst (IsRefusedFor p over) (same_bytes files asked file told x y f g) bad in
      let entries = one_reading_of y here.entries also.entries here.ini also.ini in
      same_Some p q
      (sym here.first ∙ one_check asked here.entries also.entries over other entries o u
      ∙ also.first)

  pub one_text : (t u : List ℕ) → IsRefused files asked t → IsRefused files asked u → t ≡ u
  one_text t u (no_file f a) (no_file g b) = a ∙ sym b
  one_text t u (no_file f a) (no_ini y n l g bad b) =
      absurd (not_absent files asked file told y f g)
  one_text t u (no_file f a) (bad_option y other q g o bad b) =
      absurd (not_absent files asked file told y f g)
  one_text t u (no_ini x m k f bad a) (no_file g b) =
      absurd (not_absent files asked file told x g f)
  one_text t u (no_ini x m k f bad a) (no_ini y n l g also b) =
      a ∙ same_line x y m n k l f g bad also ∙ sym b
  one_text t u (no_ini x m k f bad a) (bad_option y other q g o also b) =
      absurd (not_line x y m k other q f g bad also)
  one_text t u (bad_option x over p f o bad a) (no_file g b) =
      absurd (not_absent files asked file told x g f)
  one_text t u (bad_option x over p f o bad a) (no_ini y n l g also b) =
      absurd (not_line y x n l over p g f also bad)
  one_text t u (bad_option x over p f o bad a) (bad_option y other q g r also b) =
      a ∙ ap option_text (same_check x y over other p q f g o r bad also) ∙ sym b
