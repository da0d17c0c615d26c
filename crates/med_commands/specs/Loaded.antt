-- What a command reads of its config file, and why it has no configuration.
use Rattle.std.specs.Prelude.{◌≡◌, ℕ, List, Option, Some, None, IfSome, string_bytes}
use Rattle.med_ini.specs.Entries.{Entry}
use Rattle.med_ini.specs.Grammar.{IsIni, FaultOn, BlamesIni}
use Rattle.med_ini.specs.Options.{Fault, IsConfig, Blames, config_fault, bucket_over, prefix_over, fqdn_over}
use Rattle.med_ini.specs.declared.config.Config.{Config}
use Rattle.med_ini.specs.declared.errors.IniKind.{IniKind}
use Rattle.med_ini.specs.declared.overrides.Overrides.{Overrides}
use Rattle.med_outside.specs.Causes.{RoseOrFull}
use Rattle.med_outside.specs.World.{FileContents}
use Rattle.med_words.specs.Request.{Asked}
use Rattle.med_commands.specs.Texts.{no_file_text, line_text, option_text}
use Rattle.med_commands.specs.declared.load.LoadError.{LoadError}
use Rattle.med_commands.specs.declared.load.LoadError.TheVariants.{NoFile, Ini, Options, Files, Memory}

-- the overrides are those that are asked for
pub record AreOverrides (asked : Asked) (over : Overrides) : Type 0 where
  pub bucket : bucket_over over ≡ asked.bucket
  pub prefix : prefix_over over ≡ asked.prefix
  pub fqdn : fqdn_over over ≡ asked.fqdn

-- the config file that is asked for has these bytes, or there is none: as the files tell of it,
-- where they do
abbrev pub IsConfigFile : FileContents → Asked → Option (List ℕ) → Type 0
IsConfigFile files asked file = IfSome (files asked.config_file) (λ told. told ≡ file)

-- the bytes are a text in the ini form whose options give the configuration
pub record Gives (over : Overrides) (bytes : List ℕ) (config : Config) : Type 0 where
  pub entries : List Entry
  pub ini : IsIni bytes entries
  pub options : IsConfig entries over config

-- the config file that is asked for gives the configuration, under the overrides that are asked for
pub record IsConfigured (files : FileContents) (asked : Asked) (config : Config) : Type 0 where
  pub over : Overrides
  pub overrides : AreOverrides asked over
  pub bytes : List ℕ
  pub file : IsConfigFile files asked (Some bytes)
  pub gives : Gives over bytes config

-- the bytes are a text in the ini form, and the first of the checks that fails is this one
pub record IsRefusedFor (fault : Fault) (over : Overrides) (bytes : List ℕ) : Type 0 where
  pub entries : List Entry
  pub ini : IsIni bytes entries
  pub first : config_fault entries over ≡ Some fault

-- the config file that is asked for gives no configuration, which this text tells
pub data IsRefused (files : FileContents) (asked : Asked) (text : List ℕ) : Type 0 where
  -- there is no such file
  no_file : IsConfigFile files asked None → text ≡ no_file_text asked.config_file
      → IsRefused files asked text
  -- its bytes are not in the ini form: this is their first fault, with its line
  no_ini : (bytes : List ℕ) (line : ℕ) (kind : IniKind) → IsConfigFile files asked (Some bytes)
      → FaultOn bytes line kind → text ≡ line_text line kind → IsRefused files asked text
  -- its options are refused for this fault, under the overrides that are asked for
  bad_option : (bytes : List ℕ) (over : Overrides) (fault : Fault)
      → IsConfigFile files asked (Some bytes) → AreOverrides asked over
      → IsRefusedFor fault over bytes → text ≡ option_text fault → IsRefused files asked text

-- ---- for this crate's own clauses

-- why the bytes of a config file gave no configuration
abbrev pub BlamesReading : Overrides → List ℕ → LoadError → Type 0
BlamesReading over bytes (Ini error) = BlamesIni bytes error
BlamesReading over bytes (Options error) =
    (entries : List Entry) × IsIni bytes entries × Blames (config_fault entries over) error
BlamesReading over bytes (NoFile name) = ⊥
BlamesReading over bytes Files = ⊥
BlamesReading over bytes Memory = ⊥

-- the same of the config file that is asked for
pub record BlamesBytes (files : FileContents) (asked : Asked) (error : LoadError) : Type 0 where
  pub over : Overrides
  pub overrides : AreOverrides asked over
  pub bytes : List ℕ
  pub file : IsConfigFile files asked (Some bytes)
  pub blames : BlamesReading over bytes error

-- why there is no configuration; the count of the files rose where the config file wasn't read
abbrev pub BlamesLoad : FileContents → Asked → (before now : ℕ) → LoadError → Type 0
BlamesLoad files asked before now (NoFile name) =
    (string_bytes name ≡ asked.config_file) × IsConfigFile files asked None
BlamesLoad files asked before now (Ini error) = BlamesBytes files asked (Ini error)
BlamesLoad files asked before now (Options error) = BlamesBytes files asked (Options error)
BlamesLoad files asked before now Files = RoseOrFull before now
BlamesLoad files asked before now Memory = Unit {0}
