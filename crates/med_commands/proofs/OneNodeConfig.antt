-- A config file that is told gives one site at most, and none where it is refused.
use Rattle.std.proofs.Common.{◌≡◌, ℕ, List, Option, Some, None, IfSome, refl, sym, ◌∙◌, ap, subst, string_bytes, codes}
use Rattle.std.proofs.lemmas.Option.{same_Some}
use Rattle.med_ini.specs.Entries.{Entry}
use Rattle.med_ini.specs.Grammar.{FaultOn}
use Rattle.med_ini.specs.Options.{Fault, Texts, texts_of, checks, first_of, config_fault, IsRead, text_at, stored, foldered, bucket_over, prefix_over, fqdn_over}
use Rattle.med_ini.specs.declared.config.Config.{Config}
use Rattle.med_ini.specs.declared.overrides.Overrides.{Overrides}
use Rattle.med_ini.proofs.OneFault.{fault_none}
use Rattle.med_ini.proofs.OneReading.{one_reading_of}
use Rattle.med_words.specs.Request.{Asked}
use Rattle.med_commands.specs.Loaded.{AreOverrides, IsConfigFile, Gives, IsConfigured, IsRefusedFor, IsRefused, no_file, no_ini, bad_option}
use Rattle.med_commands.specs.NodeConfig.{NodeConfig, node_config_of}
use Rattle.med_outside.specs.World.{FileContents}

-- ---- the texts of a file depend on its entries and on the bytes of the overrides

abbrev texts_with : List Entry → (bucket prefix fqdn : Option (List ℕ)) → Texts
texts_with entries bucket prefix fqdn = record {
  provider = stored entries (codes "storage_provider");
  base = stored entries (codes "base_path");
  bucket = text_at entries bucket (codes "storage") (codes "bucket_name");
  before = text_at entries prefix (codes "storage") (codes "prefix");
  node = text_at entries fqdn (codes "storage") (codes "fqdn");
  age = stored entries (codes "max_backup_age");
  count = stored entries (codes "max_backup_count");
  grace = stored entries (codes "backup_grace_period_in_days");
  nodes = foldered entries (codes "nodes");
  targets = foldered entries (codes "targets");
}

texts_same : (asked : Asked) (a b : List Entry) (over other : Overrides) → a ≡ b
    → AreOverrides asked over → AreOverrides asked other
    → texts_of a over ≡ texts_of b other
texts_same asked a b over other same f g =
    ap (λ (es : List Entry). texts_with es (bucket_over over) (prefix_over over) (fqdn_over over))
    same
    ∙ ap (λ (x : Option (List ℕ)). texts_with b x (prefix_over over) (fqdn_over over))
    (f.bucket ∙ sym g.bucket)
    ∙ ap (λ (x : Option (List ℕ)). texts_with b (bucket_over other) x (fqdn_over over))
    (f.prefix ∙ sym g.prefix)
    ∙ ap (λ (x : Option (List ℕ)). texts_with b (bucket_over other) (prefix_over other) x)
    (f.fqdn ∙ sym g.fqdn)

-- ---- the site of a configuration is read of the texts

same_node_config : (a b c d n m k l r s : List ℕ) → a ≡ b → c ≡ d → n ≡ m → k ≡ l → r ≡ s
    → ◌≡◌ {A = NodeConfig} (record { base = a; bucket = c; before = n; node = k; nodes_root = r })
    (record { base = b; bucket = d; before = m; node = l; nodes_root = s })
same_node_config a b c d n m k l r s base bucket before node root =
    rw (base, bucket, before, node, root) refl

node_config_read : (t : Texts) (c d : Config) → IsRead t c → IsRead t d → node_config_of c
    ≡ node_config_of d
node_config_read t c d f g =
    same_node_config (string_bytes c.base) (string_bytes d.base) (string_bytes c.bucket)
    (string_bytes d.bucket) c.layout d.layout c.node d.node (string_bytes c.nodes_root)
    (string_bytes d.nodes_root)
    (same_Some (string_bytes c.base) (string_bytes d.base) (f.base ∙ sym g.base))
    (same_Some (string_bytes c.bucket) (string_bytes d.bucket) (f.bucket ∙ sym g.bucket))
    (f.layout ∙ sym g.layout)
    (same_Some c.node d.node (f.node ∙ sym g.node))
    (f.nodes_root ∙ sym g.nodes_root)

-- ---- a config file that is told

module _ (files : FileContents) (asked : Asked) (file : Option (List ℕ))
    (told : files asked.config_file ≡ Some file) where
  pub told_is : (other : Option (List ℕ)) → IsConfigFile files asked other → file ≡ other
  told_is other is =
      subst (λ (held : Option (Option (List ℕ))). IfSome held (λ f. f ≡ other)) told is

  pub same_bytes : (x y : List ℕ) → IsConfigFile files asked (Some x)
      → IsConfigFile files asked (Some y) → x ≡ y
  same_bytes x y f g = same_Some x y (sym (told_is (Some x) f) ∙ told_is (Some y) g)

  pub not_absent : (x : List ℕ) → IsConfigFile files asked None
      → IsConfigFile files asked (Some x) → ⊥
  not_absent x f g = let bad : Some x ≡ None = sym (told_is (Some x) g) ∙ told_is None f in cc bad

  pub one_node_config : (c d : Config) → IsConfigured files asked c → IsConfigured files asked d
      → node_config_of c ≡ node_config_of d
  one_node_config c d f g =
      let bytes : g.bytes ≡ f.bytes = same_bytes g.bytes f.bytes g.file f.file in
      let given : Gives g.over f.bytes d =
      subst (λ (b : List ℕ). Gives g.over b d) bytes g.gives in
      let entries = one_reading_of f.bytes f.gives.entries given.entries f.gives.ini given.ini in
      let texts = texts_same asked f.gives.entries given.entries f.over g.over entries f.overrides
      g.overrides in
      node_config_read (texts_of given.entries g.over) c d
      (subst (λ (t : Texts). IsRead t c) texts f.gives.options.read) given.options.read

  -- no check fails where the file gives a configuration
  not_for : (bytes : List ℕ) (over : Overrides) (fault : Fault) (config : Config)
      → IsConfigured files asked config → IsConfigFile files asked (Some bytes)
      → AreOverrides asked over → IsRefusedFor fault over bytes → ⊥
  not_for bytes over fault config c file_is overrides refused =
      let same : bytes ≡ c.bytes = same_bytes bytes c.bytes file_is c.file in
      let again : IsRefusedFor fault over c.bytes = subst (IsRefusedFor fault over) same
      refused in
      let entries = one_reading_of c.bytes c.gives.entries again.entries c.gives.ini again.ini in
      let texts = texts_same asked c.gives.entries again.entries c.over over entries c.overrides
      overrides in
      let none : config_fault again.entries over ≡ None =
      ap (λ (t : Texts). first_of (checks t)) (sym texts) ∙ c.gives.options.accepted in
      let bad : Some fault ≡ None = sym again.first ∙ none in
      cc bad

  pub not_refused : (text : List ℕ) (config : Config) → IsConfigured files asked config
      → IsRefused files asked text → ⊥
  not_refused text config c (no_file is e) = not_absent c.bytes is c.file
  not_refused text config c (no_ini bytes line kind is bad e) =
      fault_none c.bytes line kind
      (subst (λ (b : List ℕ). FaultOn b line kind) (same_bytes bytes c.bytes is c.file) bad)
      c.gives.entries c.gives.ini
  not_refused text config c (bad_option bytes over fault is overrides refused e) =
      not_for bytes over fault config c is overrides refused
