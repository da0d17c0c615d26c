-- The options that the commands read, with their checks in order. A text is the list of its bytes.
use Rattle.std.specs.Prelude.{◌≡◌, ℕ, Bool, ◌||◌, ◌==◌, List, [], ◌∷◌, Option, Some, None, is_some, option_map, unwrap_or, string_bytes, codes, if◌then◌else◌}
use Rattle.std.specs.List.{list_any}
use Rattle.std.specs.Option.{option_or}
use Rattle.std.specs.Str.{bytes_eq}
use Rattle.std.specs.Str.Parse.{digits_value}
use Rattle.med_base.specs.Decimal.{is_decimal}
use Rattle.med_base.specs.Names.{component_fault, begins_with_dot, fqdn_fault}
use Rattle.med_base.specs.Prefix.{prefix_fault, before_of}
use Rattle.med_ini.specs.Entries.{Entry, value_of}
use Rattle.med_ini.specs.declared.overrides.Overrides.{Overrides}
use Rattle.med_ini.specs.declared.config.Config.{Config}
use Rattle.med_ini.specs.declared.config.ConfigError.{ConfigError}
use Rattle.med_ini.specs.declared.config.ConfigError.TheVariants.{MissingOption, BadNumber, BadName, UnsupportedProvider, Memory}

-- why an option is refused; the first three carry the option's name, the last one the provider
pub data Fault : Type 0 where
  missing : List ℕ → Fault
  bad_number : List ℕ → Fault
  bad_name : List ℕ → Fault
  unsupported : List ℕ → Fault

-- an empty text counts as absent
abbrev pub filled : Option (List ℕ) → Option (List ℕ)
filled None = None
filled (Some []) = None
filled (Some (b ∷ bs)) = Some (b ∷ bs)

-- the text of an option: what stands in its place where that is given, else its value
abbrev pub text_at : List Entry → Option (List ℕ) → List ℕ → List ℕ → Option (List ℕ)
text_at entries over section option = filled (option_or over (value_of entries section option))

-- the text has a NUL
abbrev pub has_nul : List ℕ → Bool
has_nul text = list_any (λ b. b == 0) text

-- no component, or one that begins with a dot
abbrev pub is_bad_bucket : List ℕ → Bool
is_bad_bucket text = is_some (component_fault text) || begins_with_dot text

-- no prefix of a layout
abbrev pub is_bad_prefix : List ℕ → Bool
is_bad_prefix text = is_some (prefix_fault text)

-- no name of a node
abbrev pub is_bad_node : List ℕ → Bool
is_bad_node text = is_some (fqdn_fault text)

-- 1 to 10 decimal digits with a value of at most 4294967295; zeros may lead
abbrev pub is_number : List ℕ → Bool
is_number text = is_decimal 10 4294967295 text

-- the only provider is `local`
abbrev pub provider_fault : Option (List ℕ) → Option Fault
provider_fault None = Some (missing (codes "storage_provider"))
provider_fault (Some text) =
    if bytes_eq text (codes "local") then None else Some (unsupported text)

-- an option that must be there, and must not be bad
abbrev pub required_fault : List ℕ → (List ℕ → Bool) → Option (List ℕ) → Option Fault
required_fault option is_bad None = Some (missing option)
required_fault option is_bad (Some text) = if is_bad text then Some (bad_name option) else None

-- an option that may be absent, and must not be bad
abbrev pub optional_fault : List ℕ → (List ℕ → Bool) → Option (List ℕ) → Option Fault
optional_fault option is_bad None = None
optional_fault option is_bad (Some text) = if is_bad text then Some (bad_name option) else None

-- an option that may be absent, and else is a number
abbrev pub number_fault : List ℕ → Option (List ℕ) → Option Fault
number_fault option None = None
number_fault option (Some text) = if is_number text then None else Some (bad_number option)

-- the number of an option, or the one that an absent option stands for
abbrev pub number_or : ℕ → Option (List ℕ) → ℕ
number_or absent None = absent
number_or absent (Some text) = digits_value 10 text

-- the texts that the overrides give
abbrev pub bucket_over : Overrides → Option (List ℕ)
bucket_over over = option_map string_bytes over.bucket

abbrev pub prefix_over : Overrides → Option (List ℕ)
prefix_over over = option_map string_bytes over.prefix

abbrev pub fqdn_over : Overrides → Option (List ℕ)
fqdn_over over = option_map string_bytes over.fqdn

-- an option of the section `storage` that nothing overrides, and one of the section `folders`
abbrev pub stored : List Entry → List ℕ → Option (List ℕ)
stored entries option = text_at entries None (codes "storage") option

abbrev pub foldered : List Entry → List ℕ → Option (List ℕ)
foldered entries option = text_at entries None (codes "folders") option

-- the ten texts that are read, in the order of their checks
pub record Texts : Type 0 where
  pub provider : Option (List ℕ)
  pub base : Option (List ℕ)
  pub bucket : Option (List ℕ)
  pub before : Option (List ℕ)
  pub node : Option (List ℕ)
  pub age : Option (List ℕ)
  pub count : Option (List ℕ)
  pub grace : Option (List ℕ)
  pub nodes : Option (List ℕ)
  pub targets : Option (List ℕ)

-- the texts of a file under some overrides
abbrev pub texts_of : List Entry → Overrides → Texts
texts_of entries over = record {
  provider = stored entries (codes "storage_provider");
  base = stored entries (codes "base_path");
  bucket = text_at entries (bucket_over over) (codes "storage") (codes "bucket_name");
  before = text_at entries (prefix_over over) (codes "storage") (codes "prefix");
  node = text_at entries (fqdn_over over) (codes "storage") (codes "fqdn");
  age = stored entries (codes "max_backup_age");
  count = stored entries (codes "max_backup_count");
  grace = stored entries (codes "backup_grace_period_in_days");
  nodes = foldered entries (codes "nodes");
  targets = foldered entries (codes "targets");
}

-- the checks, in order
abbrev pub checks : Texts → List (Option Fault)
checks t =
    provider_fault t.provider
    ∷ required_fault (codes "base_path") has_nul t.base
    ∷ required_fault (codes "bucket_name") is_bad_bucket t.bucket
    ∷ optional_fault (codes "prefix") is_bad_prefix t.before
    ∷ required_fault (codes "fqdn") is_bad_node t.node
    ∷ number_fault (codes "max_backup_age") t.age
    ∷ number_fault (codes "max_backup_count") t.count
    ∷ number_fault (codes "backup_grace_period_in_days") t.grace
    ∷ optional_fault (codes "nodes") has_nul t.nodes
    ∷ optional_fault (codes "targets") has_nul t.targets
    ∷ []

-- the first of the checks that tells a fault
abbrev pub first_of : List (Option Fault) → Option Fault
first_of [] = None
first_of (None ∷ rest) = first_of rest
first_of (Some fault ∷ rest) = Some fault

-- why the options of a file are refused, if they are
abbrev pub config_fault : List Entry → Overrides → Option Fault
config_fault entries over = first_of (checks (texts_of entries over))

-- each field is its text or number, or what an absent option stands for
pub record IsRead (t : Texts) (config : Config) : Type 0 where
  pub base : Some (string_bytes config.base) ≡ t.base
  pub bucket : Some (string_bytes config.bucket) ≡ t.bucket
  pub layout : config.layout ≡ before_of (unwrap_or t.before [])
  pub node : Some config.node ≡ t.node
  pub age_days : config.age_days ≡ number_or 0 t.age
  pub count : config.count ≡ number_or 0 t.count
  pub grace_days : config.grace_days ≡ number_or 10 t.grace
  pub nodes_root : string_bytes config.nodes_root
      ≡ unwrap_or t.nodes (codes "/var/lib/medusa/nodes")
  pub targets_root : string_bytes config.targets_root
      ≡ unwrap_or t.targets (codes "/var/lib/medusa/targets")

-- no check tells a fault, and the configuration is read of the texts
pub record IsConfig (entries : List Entry) (over : Overrides) (config : Config) : Type 0 where
  pub accepted : config_fault entries over ≡ None
  pub read : IsRead (texts_of entries over) config

-- the refusal tells the fault; of want of memory nothing is said
abbrev pub Blames : Option Fault → ConfigError → Type 0
Blames fault (MissingOption option) = fault ≡ Some (missing option.now)
Blames fault (BadNumber option) = fault ≡ Some (bad_number option.now)
Blames fault (BadName option) = fault ≡ Some (bad_name option.now)
Blames fault (UnsupportedProvider name) = fault ≡ Some (unsupported (string_bytes name))
Blames fault Memory = Unit {0}
