-- The changes of a finish: files that aren't stored as recorded are placed again, then the manifest
-- is put, then its entries in the index, and the latest entry is mended.
use Rattle.std.specs.Prelude.{ℕ, Bool, false, ◌+◌, List, [], ◌∷◌, ◌++◌, Option, Some, None, if◌then◌else◌}
use Rattle.std.specs.FinMap.{get}
use Rattle.med_base.specs.declared.fingerprint.Fingerprint.{Fingerprint}
use Rattle.med_base.specs.declared.key.FileKey.{FileKey}
use Rattle.med_base.specs.declared.layout.MetaKind.TheVariants.{Manifest}
use Rattle.med_base.specs.Content.{Content, Object}
use Rattle.med_base.specs.Effects.{Effect, Stores, applied}
use Rattle.med_base.specs.Fingerprint.{fingerprint_of}
use Rattle.med_base.specs.Layout.{meta_path}
use Rattle.med_manifest.specs.declared.manifest.FileRecord.{FileRecord}
use Rattle.med_manifest.specs.EntryPuts.{finish_puts}
use Rattle.med_manifest.specs.Mend.{changes_of_mend}
use Rattle.med_core.specs.declared.records.Record.{Record}
use Rattle.med_core.specs.Place.{Placing, is_same_print, placing, placed_record}

-- the object has this fingerprint
abbrev pub is_stored_as : Fingerprint → Option Object → Bool
is_stored_as print None = false
is_stored_as print (Some o) = is_same_print (fingerprint_of o.bytes) print

-- what a look at the records changes, and the records afterwards
pub record Checked : Type 0 where
  pub changes : List Effect
  pub files : List FileRecord

-- the bytes of the files in the snapshot, and the seconds of their puts
pub record Fresh : Type 0 where
  pub bytes : FileKey → List ℕ
  pub second : FileKey → ℕ

-- one more record that stays
abbrev pub with_record : FileRecord → Checked → Checked
with_record r rest = record { changes = rest.changes; files = r ∷ rest.files }

-- one more file that is placed again, before the others
abbrev pub with_placing : Placing → Checked → Checked
with_placing p rest =
    record { changes = p.changes ++ rest.changes; files = p.file ∷ rest.files }

-- the file of a record is placed again
abbrev pub placed_again : (before f n : List ℕ) (is_differential : Bool) → Fresh → Content
    → FileRecord → Placing
placed_again before f n is_differential fresh c r =
    placing before f n is_differential r.key (fresh.bytes r.key) (fresh.second r.key) c

-- a record stays whose path has its fingerprint, and the file of another one is placed again
abbrev pub checked : (before f n : List ℕ) (is_differential : Bool) → Fresh → Content
    → List FileRecord → Checked
checked before f n is_differential fresh c [] = record { changes = []; files = [] }
checked before f n is_differential fresh c (r ∷ rs) =
    if is_stored_as r.fingerprint (get c r.path)
    then with_record r (checked before f n is_differential fresh c rs)
    else with_placing (placed_again before f n is_differential fresh c r)
    (checked before f n is_differential fresh
    (applied (placed_again before f n is_differential fresh c r).changes c) rs)

-- the records after such a look, each with how its file came to its path
abbrev pub rechecked : (before f n : List ℕ) (is_differential : Bool) → Fresh → Content
    → List Record → List Record
rechecked before f n is_differential fresh c [] = []
rechecked before f n is_differential fresh c (r ∷ rs) =
    if is_stored_as r.file.fingerprint (get c r.file.path)
    then r ∷ rechecked before f n is_differential fresh c rs
    else placed_record before f n is_differential r.file.key (fresh.bytes r.file.key) c
    ∷ rechecked before f n is_differential fresh
    (applied (placed_again before f n is_differential fresh c r.file).changes c) rs

-- the manifest is put, then its entries, with its second; `seconds` are those of the puts
abbrev pub manifest_puts : (before f n manifest : List ℕ) (seconds : ℕ → ℕ) → List Effect
manifest_puts before f n manifest seconds =
    Stores (meta_path before f n Manifest) manifest (seconds 0)
    ∷ finish_puts before f n manifest (seconds 0) (λ i. seconds (1 + i))

-- these records were looked at, and this is the text of their manifest; the mend is over what the
-- puts before it leave
abbrev pub changes_of_finish : (before f n : List ℕ) → Content → Checked → (manifest : List ℕ)
    (of_puts of_mend : ℕ → ℕ) → List Effect
changes_of_finish before f n c found manifest of_puts of_mend =
    found.changes ++ (manifest_puts before f n manifest of_puts
    ++ changes_of_mend before
    (applied (manifest_puts before f n manifest of_puts) (applied found.changes c)) f [] of_mend)
