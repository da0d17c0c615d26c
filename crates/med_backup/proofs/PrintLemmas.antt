-- The fingerprints of the records of a finish are those of the files of the snapshot.
use Rattle.std.proofs.Common.{◌≡◌, ℕ, Bool, true, false, List, [], ◌∷◌, Option, Some, None, refl, sym, subst, if◌then◌else◌}
use Rattle.std.specs.FinMap.{get}
use Rattle.std.specs.List.{AllByRecursion}
use Rattle.med_base.specs.declared.key.FileKey.{FileKey}
use Rattle.med_base.specs.Content.{Content, Object}
use Rattle.med_base.specs.Effects.{applied}
use Rattle.med_base.specs.Fingerprint.{fingerprint_of}
use Rattle.med_base.specs.Layout.{shared_path}
use Rattle.med_core.specs.declared.records.Record.{Record}
use Rattle.med_core.specs.Finish.{Fresh, is_stored_as, placed_again, rechecked}
use Rattle.med_core.specs.Place.{is_same_print, placed_record, placing_over, reused, stored_own}
use Rattle.med_outside.specs.Sent.{IsWholeFile}
use Rattle.med_outside.specs.Snapshot.{Snapshot}
use Rattle.med_backup.specs.Backups.{ArePrints}

module _ (before f n : List ℕ) where
  placed_over : (key : FileKey) (bytes : List ℕ) (o : Option Object)
      → ((placing_over before f n key bytes 0 o).file.key ≡ key)
      × ((placing_over before f n key bytes 0 o).file.fingerprint ≡ fingerprint_of bytes)
  placed_over key bytes None = (refl, refl)
  placed_over key bytes (Some o) = go (is_same_print (fingerprint_of o.bytes) (fingerprint_of bytes))
    where
      go : (same : Bool)
          → ((if same then reused before f key bytes
          else stored_own before f n key bytes 0).file.key ≡ key)
          × ((if same then reused before f key bytes
          else stored_own before f n key bytes 0).file.fingerprint ≡ fingerprint_of bytes)
      go true = (refl, refl)
      go false = (refl, refl)

  -- the record of a place has its key and its fingerprint
  pub placed_so : (d : Bool) (key : FileKey) (bytes : List ℕ) (c : Content)
      → ((placed_record before f n d key bytes c).file.key ≡ key)
      × ((placed_record before f n d key bytes c).file.fingerprint ≡ fingerprint_of bytes)
  placed_so true key bytes c = placed_over key bytes (get c (shared_path before f key))
  placed_so false key bytes c = (refl, refl)

  module _ (d : Bool) (held : Option Snapshot) (fresh : Fresh) where
    -- the records behind a look have the fingerprints of their files where those before it have
    pub prints_behind : (rs : List Record) → ArePrints held rs
        → AllByRecursion (λ (r : Record). IsWholeFile held r.file.key (fresh.bytes r.file.key)) rs
        → (c : Content) → ArePrints held (rechecked before f n d fresh c rs)
    prints_behind [] prints whole c = tt
    prints_behind (r ∷ rs) prints whole c =
        go (is_stored_as r.file.fingerprint (get c r.file.path))
        (prints_behind rs prints.1 whole.1 c)
        (prints_behind rs prints.1 whole.1
        (applied (placed_again before f n d fresh c r.file).changes c))
      where
        go : (kept : Bool) → ArePrints held (rechecked before f n d fresh c rs)
            → ArePrints held (rechecked before f n d fresh
            (applied (placed_again before f n d fresh c r.file).changes c) rs)
            → ArePrints held (if kept then r ∷ rechecked before f n d fresh c rs
            else placed_record before f n d r.file.key (fresh.bytes r.file.key) c
            ∷ rechecked before f n d fresh
            (applied (placed_again before f n d fresh c r.file).changes c) rs)
        go true stay again = (prints.0, stay)
        go false stay again =
            let (key_is, print_is) = placed_so d r.file.key (fresh.bytes r.file.key) c in (
              record {
                bytes = fresh.bytes r.file.key;
                file_is = subst (λ (k : FileKey). IsWholeFile held k (fresh.bytes r.file.key))
                    (sym key_is) whole.0;
                print_is = print_is;
              },
              again,
            )
