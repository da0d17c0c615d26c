-- Which paths are those of data objects: of files that backups hold, their own or shared ones.
-- `is_data` finds it; here it is told by the builders. The law `builders_and_data` says both.
use Rattle.std.specs.Prelude.{◌≡◌, ◌↔◌, ℕ, List, true, false}
use Rattle.med_base.specs.declared.key.FileKey.{FileKey}
use Rattle.med_base.specs.declared.layout.MetaKind.{MetaKind}
use Rattle.med_base.specs.declared.kinds.IndexKind.{IndexKind}
use Rattle.med_base.specs.declared.kinds.LatestKind.{LatestKind}
use Rattle.med_base.specs.Classify.{is_data}
use Rattle.med_base.specs.Key.{IsKey}
use Rattle.med_base.specs.Kinds.{Shared, Own, IsFqdn, IsBackupName, HasSecond, IsBuilt}
use Rattle.med_base.specs.Layout.{shared_path, own_path, meta_path, entry_path, latest_path}

-- the builder of a shared file or that of a backup's own file gives the path
pub data IsDataPath (before path : List ℕ) : Type 0 where
  is_shared : (f : List ℕ) (key : FileKey) → IsBuilt before path (Shared f key)
      → IsDataPath before path
  is_own : (f n : List ℕ) (key : FileKey) → IsBuilt before path (Own f n key)
      → IsDataPath before path

-- a path is data exactly where one of these two builders gives it
abbrev pub DataIsTold : Type 0
DataIsTold = (before path : List ℕ) → (is_data before path ≡ true) ↔ IsDataPath before path

-- for each builder of a path: what it gives is data, or it isn't
pub record BuildersOfData : Type 0 where
  pub shared : (before f : List ℕ) (key : FileKey) → IsFqdn f → IsKey key
      → is_data before (shared_path before f key) ≡ true
  pub own : (before f n : List ℕ) (key : FileKey) → IsFqdn f → IsBackupName n → IsKey key
      → is_data before (own_path before f n key) ≡ true
  pub meta : (before f n : List ℕ) (kind : MetaKind) → IsFqdn f → IsBackupName n
      → is_data before (meta_path before f n kind) ≡ false
  pub entry : (before f n : List ℕ) (kind : IndexKind) → IsFqdn f → IsBackupName n
      → HasSecond kind → is_data before (entry_path before f n kind) ≡ false
  pub latest : (before f : List ℕ) (kind : LatestKind) → IsFqdn f
      → is_data before (latest_path before f kind) ≡ false
