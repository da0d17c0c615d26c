-- The keys of a snapshot as names of files, and the first that is none.
use Rattle.std.specs.Prelude.{◌≡◌, ◌≢◌, ℕ, List, [], ◌∷◌, take, slice_get, Some}
use Rattle.std.specs.List.{AllByRecursion}
use Rattle.std.specs.FinMap.{FinMap, insert}
use Rattle.med_base.specs.declared.key.FileKey.{FileKey}
use Rattle.med_base.specs.Key.{IsKey, key_cmp}
use Rattle.med_outside.specs.Snapshot.{Snapshot}
use Rattle.med_backup.specs.declared.keys.WalkError.{WalkError}
use Rattle.med_backup.specs.declared.keys.WalkError.TheVariants.{NoSnapshot, BadFileName, Snap, Memory}

-- the key at this place of the list is the first with a part that is no component
pub record IsFirstBad (at : ℕ) (order : List FileKey) : Type 0 where
  pub key : FileKey
  pub stands : slice_get order at ≡ Some key
  pub bad : IsKey key → ⊥
  pub before : AllByRecursion IsKey (take at order)

-- the snapshot has a key, and each part of each key is a component
pub record CanBeWalked (s : Snapshot) : Type 0 where
  pub some : s.order ≢ []
  pub names : AllByRecursion IsKey s.order

-- why the keys of a snapshot are no names of files
abbrev pub BlamesWalk : Snapshot → WalkError → Type 0
BlamesWalk s NoSnapshot = s.order ≡ []
BlamesWalk s (BadFileName at) = IsFirstBad at s.order
BlamesWalk s Snap = Unit {0}
BlamesWalk s Memory = Unit {0}

-- the same of a list of keys that isn't empty
abbrev pub BlamesKeys : List FileKey → WalkError → Type 0
BlamesKeys order NoSnapshot = ⊥
BlamesKeys order (BadFileName at) = IsFirstBad at order
BlamesKeys order Snap = ⊥
BlamesKeys order Memory = Unit {0}

-- the map with these keys added, one after another
abbrev pub added : FinMap key_cmp (Unit {0}) → List FileKey → FinMap key_cmp (Unit {0})
added m [] = m
added m (k ∷ ks) = added (insert m k tt) ks
