-- The three parts of a configuration, each with its checks, for this crate's own clauses.
use Rattle.std.specs.Prelude.{◌≡◌, List, [], ◌∷◌, Option, Some, None, unwrap_or, string_bytes, codes}
use Rattle.med_base.specs.Prefix.{before_of}
use Rattle.med_ini.specs.Entries.{Entry}
use Rattle.med_ini.specs.Options.{Fault, Texts, has_nul, is_bad_bucket, is_bad_prefix, is_bad_node, required_fault, optional_fault, number_fault, number_or, stored, foldered, first_of}
use Rattle.med_ini.specs.declared.parts.Names.{Names}
use Rattle.med_ini.specs.declared.parts.Numbers.{Numbers}
use Rattle.med_ini.specs.declared.parts.Folders.{Folders}

-- the checks of the path and of the names, in order
abbrev pub name_checks : Texts → List (Option Fault)
name_checks t =
    required_fault (codes "base_path") has_nul t.base
    ∷ required_fault (codes "bucket_name") is_bad_bucket t.bucket
    ∷ optional_fault (codes "prefix") is_bad_prefix t.before
    ∷ required_fault (codes "fqdn") is_bad_node t.node
    ∷ []

-- the checks of the numbers, in order
abbrev pub number_checks : List Entry → List (Option Fault)
number_checks entries =
    number_fault (codes "max_backup_age") (stored entries (codes "max_backup_age"))
    ∷ number_fault (codes "max_backup_count") (stored entries (codes "max_backup_count"))
    ∷ number_fault (codes "backup_grace_period_in_days")
    (stored entries (codes "backup_grace_period_in_days"))
    ∷ []

-- the checks of the folders, in order
abbrev pub folder_checks : List Entry → List (Option Fault)
folder_checks entries =
    optional_fault (codes "nodes") has_nul (foldered entries (codes "nodes"))
    ∷ optional_fault (codes "targets") has_nul (foldered entries (codes "targets"))
    ∷ []

-- no check of the names tells a fault, and each is read of its text
pub record AreNames (t : Texts) (names : Names) : Type 0 where
  pub accepted : first_of (name_checks t) ≡ None
  pub base : Some (string_bytes names.base) ≡ t.base
  pub bucket : Some (string_bytes names.bucket) ≡ t.bucket
  pub layout : names.layout ≡ before_of (unwrap_or t.before [])
  pub node : Some names.node ≡ t.node

-- no check of the numbers tells a fault, and each is read of its text
pub record AreNumbers (entries : List Entry) (numbers : Numbers) : Type 0 where
  pub accepted : first_of (number_checks entries) ≡ None
  pub age_days : numbers.age_days ≡ number_or 0 (stored entries (codes "max_backup_age"))
  pub count : numbers.count ≡ number_or 0 (stored entries (codes "max_backup_count"))
  pub grace_days : numbers.grace_days
      ≡ number_or 10 (stored entries (codes "backup_grace_period_in_days"))

-- no check of the folders tells a fault, and each is read of its text
pub record AreFolders (entries : List Entry) (folders : Folders) : Type 0 where
  pub accepted : first_of (folder_checks entries) ≡ None
  pub nodes_root : string_bytes folders.nodes_root
      ≡ unwrap_or (foldered entries (codes "nodes")) (codes "/var/lib/medusa/nodes")
  pub targets_root : string_bytes folders.targets_root
      ≡ unwrap_or (foldered entries (codes "targets")) (codes "/var/lib/medusa/targets")
