-- The lists of a look at records: they need the bytes and the seconds of the keys of the records
-- alone, and such a look at two lists in a row is one at both.
use Rattle.std.proofs.Common.{◌≡◌, ◌∙◌, ℕ, Bool, true, false, List, [], ◌∷◌, ◌++◌, append_assoc, Option, Some, None, refl, sym, ap, if◌then◌else◌}
use Rattle.std.specs.FinMap.{get}
use Rattle.std.specs.List.{AllByRecursion}
use Rattle.med_base.specs.declared.key.FileKey.{FileKey}
use Rattle.med_base.specs.Content.{Content, Object}
use Rattle.med_base.specs.Effects.{applied}
use Rattle.med_base.specs.Fingerprint.{fingerprint_of}
use Rattle.med_base.specs.Layout.{shared_path}
use Rattle.med_core.specs.declared.records.Record.{Record}
use Rattle.med_core.specs.Finish.{Fresh, checked, is_stored_as, placed_again, rechecked, with_placing, with_record}
use Rattle.med_core.specs.Place.{is_same_print, placed_record, placing, placing_over, reused, stored_own}
use Rattle.med_manifest.specs.declared.manifest.FileRecord.{FileRecord}
use Rattle.med_outside.proofs.Passing.{applied-append}
use Rattle.med_shelf.specs.Records.{files_of}

module _ (before f n : List ℕ) (d : Bool) where
  -- ---- which bytes and seconds they need

  module _ (x y : Fresh) where
    -- the two have the same of the key of the file
    abbrev pub IsSameOf : FileRecord → Type 0
    IsSameOf r = (x.bytes r.key ≡ y.bytes r.key) × (x.second r.key ≡ y.second r.key)

    pub checked_same : (rs : List FileRecord) → AllByRecursion IsSameOf rs → (c : Content)
        → checked before f n d x c rs ≡ checked before f n d y c rs
    checked_same [] all c = refl
    checked_same (r ∷ rs) all c =
        let p : placed_again before f n d x c r ≡ placed_again before f n d y c r =
        λ i. placing before f n d r.key (all.0.0 i) (all.0.1 i) c in
        let stay = checked_same rs all.1 c in
        let again = checked_same rs all.1 (applied (placed_again before f n d x c r).changes c)
        ∙ ap (λ q. checked before f n d y (applied q.changes c) rs) p in
        λ i. if is_stored_as r.fingerprint (get c r.path) then with_record r (stay i)
        else with_placing (p i) (again i)

    pub rechecked_same : (rs : List Record) → AllByRecursion (λ (r : Record). IsSameOf r.file) rs
        → (c : Content) → rechecked before f n d x c rs ≡ rechecked before f n d y c rs
    rechecked_same [] all c = refl
    rechecked_same (r ∷ rs) all c =
        let p : placed_again before f n d x c r.file ≡ placed_again before f n d y c r.file =
        λ i. placing before f n d r.file.key (all.0.0 i) (all.0.1 i) c in
        let stay = rechecked_same rs all.1 c in
        let again = rechecked_same rs all.1
        (applied (placed_again before f n d x c r.file).changes c)
        ∙ ap (λ q. rechecked before f n d y (applied q.changes c) rs) p in
        λ i. if is_stored_as r.file.fingerprint (get c r.file.path) then r ∷ stay i
        else placed_record before f n d r.file.key (all.0.0 i) c ∷ again i

  -- ---- lists in a row

  module _ (x : Fresh) where
    pub checked_on : (front back : List FileRecord) (c : Content)
        → (checked before f n d x c (front ++ back)).changes
        ≡ (checked before f n d x c front).changes
        ++ (checked before f n d x (applied (checked before f n d x c front).changes c) back).changes
    checked_on [] back c = refl
    checked_on (r ∷ front) back c =
        go (is_stored_as r.fingerprint (get c r.path)) (checked_on front back c)
        (checked_on front back (applied (placed_again before f n d x c r).changes c))
      where
        go : (kept : Bool)
            → ((checked before f n d x c (front ++ back)).changes
            ≡ (checked before f n d x c front).changes
            ++ (checked before f n d x (applied (checked before f n d x c front).changes c) back).changes)
            → ((checked before f n d x (applied (placed_again before f n d x c r).changes c)
            (front ++ back)).changes
            ≡ (checked before f n d x (applied (placed_again before f n d x c r).changes c)
            front).changes
            ++ (checked before f n d x
            (applied (checked before f n d x (applied (placed_again before f n d x c r).changes c)
            front).changes (applied (placed_again before f n d x c r).changes c)) back).changes)
            → (if kept then with_record r (checked before f n d x c (front ++ back))
            else with_placing (placed_again before f n d x c r)
            (checked before f n d x (applied (placed_again before f n d x c r).changes c)
            (front ++ back))).changes
            ≡ (if kept then with_record r (checked before f n d x c front)
            else with_placing (placed_again before f n d x c r)
            (checked before f n d x (applied (placed_again before f n d x c r).changes c)
            front)).changes
            ++ (checked before f n d x
            (applied (if kept then with_record r (checked before f n d x c front)
            else with_placing (placed_again before f n d x c r)
            (checked before f n d x (applied (placed_again before f n d x c r).changes c)
            front)).changes c) back).changes
        go true stay again = stay
        go false stay again =
            let p = placed_again before f n d x c r in
            let later = (checked before f n d x (applied p.changes c) front).changes in
            ap (λ l. p.changes ++ l) again
            ∙ sym (append_assoc p.changes later
            (checked before f n d x (applied later (applied p.changes c)) back).changes)
            ∙ ap (λ e. (p.changes ++ later) ++ (checked before f n d x e back).changes)
            (sym (applied-append p.changes later c))

    pub rechecked_on : (front back : List Record) (c : Content)
        → rechecked before f n d x c (front ++ back)
        ≡ rechecked before f n d x c front
        ++ rechecked before f n d x (applied (checked before f n d x c (files_of front)).changes c) back
    rechecked_on [] back c = refl
    rechecked_on (r ∷ front) back c =
        go (is_stored_as r.file.fingerprint (get c r.file.path)) (rechecked_on front back c)
        (rechecked_on front back (applied (placed_again before f n d x c r.file).changes c))
      where
        go : (kept : Bool)
            → (rechecked before f n d x c (front ++ back)
            ≡ rechecked before f n d x c front
            ++ rechecked before f n d x (applied (checked before f n d x c (files_of front)).changes c)
            back)
            → (rechecked before f n d x (applied (placed_again before f n d x c r.file).changes c)
            (front ++ back)
            ≡ rechecked before f n d x (applied (placed_again before f n d x c r.file).changes c) front
            ++ rechecked before f n d x
            (applied (checked before f n d x
            (applied (placed_again before f n d x c r.file).changes c) (files_of front)).changes
            (applied (placed_again before f n d x c r.file).changes c)) back)
            → (if kept then r ∷ rechecked before f n d x c (front ++ back)
            else placed_record before f n d r.file.key (x.bytes r.file.key) c
            ∷ rechecked before f n d x (applied (placed_again before f n d x c r.file).changes c)
            (front ++ back))
            ≡ (if kept then r ∷ rechecked before f n d x c front
            else placed_record before f n d r.file.key (x.bytes r.file.key) c
            ∷ rechecked before f n d x (applied (placed_again before f n d x c r.file).changes c)
            front)
            ++ rechecked before f n d x
            (applied (if kept then with_record r.file (checked before f n d x c (files_of front))
            else with_placing (placed_again before f n d x c r.file)
            (checked before f n d x (applied (placed_again before f n d x c r.file).changes c)
            (files_of front))).changes c) back
        go true stay again = ap (λ l. r ∷ l) stay
        go false stay again =
            let p = placed_again before f n d x c r.file in
            let later = (checked before f n d x (applied p.changes c) (files_of front)).changes in
            let anew = placed_record before f n d r.file.key (x.bytes r.file.key) c in
            ap (λ l. anew ∷ l) again
            ∙ ap (λ e. anew ∷ (rechecked before f n d x (applied p.changes c) front
            ++ rechecked before f n d x e back)) (sym (applied-append p.changes later c))

    -- ---- the files of the records

    file_over : (key : FileKey) (bytes : List ℕ) (second : ℕ) (o : Option Object)
        → (placing_over before f n key bytes second o).file
        ≡ (placing_over before f n key bytes 0 o).file
    file_over key bytes second None = refl
    file_over key bytes second (Some o) =
        go (is_same_print (fingerprint_of o.bytes) (fingerprint_of bytes))
      where
        go : (same : Bool) → (if same then reused before f key bytes
            else stored_own before f n key bytes second).file
            ≡ (if same then reused before f key bytes else stored_own before f n key bytes 0).file
        go true = refl
        go false = refl

    file_placed : (d : Bool) (key : FileKey) (bytes : List ℕ) (second : ℕ) (c : Content)
        → (placing before f n d key bytes second c).file
        ≡ (placing before f n d key bytes 0 c).file
    file_placed false key bytes second c = refl
    file_placed true key bytes second c =
        file_over key bytes second (get c (shared_path before f key))

    pub files_are : (rs : List Record) (c : Content) → files_of (rechecked before f n d x c rs)
        ≡ (checked before f n d x c (files_of rs)).files
    files_are [] c = refl
    files_are (r ∷ rs) c =
        go (is_stored_as r.file.fingerprint (get c r.file.path)) (files_are rs c)
        (files_are rs (applied (placed_again before f n d x c r.file).changes c))
      where
        go : (kept : Bool)
            → (files_of (rechecked before f n d x c rs)
            ≡ (checked before f n d x c (files_of rs)).files)
            → (files_of (rechecked before f n d x
            (applied (placed_again before f n d x c r.file).changes c) rs)
            ≡ (checked before f n d x (applied (placed_again before f n d x c r.file).changes c)
            (files_of rs)).files)
            → files_of (if kept then r ∷ rechecked before f n d x c rs
            else placed_record before f n d r.file.key (x.bytes r.file.key) c
            ∷ rechecked before f n d x (applied (placed_again before f n d x c r.file).changes c) rs)
            ≡ (if kept then with_record r.file (checked before f n d x c (files_of rs))
            else with_placing (placed_again before f n d x c r.file)
            (checked before f n d x (applied (placed_again before f n d x c r.file).changes c)
            (files_of rs))).files
        go true stay again = ap (λ l. r.file ∷ l) stay
        go false stay again =
            λ i. sym (file_placed d r.file.key (x.bytes r.file.key) (x.second r.file.key) c) i
            ∷ again i
