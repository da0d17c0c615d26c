-- The first fault of a part of a configuration is that of all its checks.
use Rattle.std.proofs.Common.{◌≡◌, ◌∙◌, ◌++◌, List, Option, None, codes, sym, subst}
use Rattle.med_ini.specs.Entries.{Entry}
use Rattle.med_ini.specs.Options.{Fault, first_of, Blames, config_fault, provider_fault, stored, texts_of}
use Rattle.med_ini.specs.Parts.{name_checks, number_checks, folder_checks}
use Rattle.med_ini.specs.declared.config.ConfigError.{ConfigError}
use Rattle.med_ini.specs.declared.overrides.Overrides.{Overrides}
use Rattle.med_ini.proofs.CheckLemmas.{behind, behind_one, blames_before}

module _ (entries : List Entry) (over : Overrides)
    (provider : provider_fault (stored entries (codes "storage_provider")) ≡ None) where
  past_provider : config_fault entries over ≡ first_of
      (name_checks (texts_of entries over) ++ number_checks entries ++ folder_checks entries)
  past_provider =
      behind_one (provider_fault (stored entries (codes "storage_provider")))
      (name_checks (texts_of entries over) ++ number_checks entries ++ folder_checks entries)
      provider

  past_names : first_of (name_checks (texts_of entries over)) ≡ None
      → config_fault entries over ≡ first_of (number_checks entries ++ folder_checks entries)
  past_names names =
      past_provider
      ∙ behind (name_checks (texts_of entries over))
      (number_checks entries ++ folder_checks entries) names

  past_numbers : first_of (name_checks (texts_of entries over)) ≡ None
      → first_of (number_checks entries) ≡ None
      → config_fault entries over ≡ first_of (folder_checks entries)
  past_numbers names numbers =
      past_names names ∙ behind (number_checks entries) (folder_checks entries) numbers

  pub names_blamed : (error : ConfigError)
      → Blames (first_of (name_checks (texts_of entries over))) error
      → Blames (config_fault entries over) error
  names_blamed error blames =
      subst (λ (f : Option Fault). Blames f error) (sym past_provider)
      (blames_before (name_checks (texts_of entries over))
      (number_checks entries ++ folder_checks entries) error blames)

  pub numbers_blamed : (error : ConfigError)
      → first_of (name_checks (texts_of entries over)) ≡ None
      → Blames (first_of (number_checks entries)) error
      → Blames (config_fault entries over) error
  numbers_blamed error names blames =
      subst (λ (f : Option Fault). Blames f error) (sym (past_names names))
      (blames_before (number_checks entries) (folder_checks entries) error blames)

  pub folders_blamed : (error : ConfigError)
      → first_of (name_checks (texts_of entries over)) ≡ None
      → first_of (number_checks entries) ≡ None
      → Blames (first_of (folder_checks entries)) error
      → Blames (config_fault entries over) error
  folders_blamed error names numbers blames =
      subst (λ (f : Option Fault). Blames f error) (sym (past_numbers names numbers)) blames

  pub all_accepted : first_of (name_checks (texts_of entries over)) ≡ None
      → first_of (number_checks entries) ≡ None → first_of (folder_checks entries) ≡ None
      → config_fault entries over ≡ None
  all_accepted names numbers folders = past_numbers names numbers ∙ folders
