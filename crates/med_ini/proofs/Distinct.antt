-- The entries of labels that fit their lines: no key stands twice in a section.
use Rattle.std.proofs.Common.{◌≡◌, ◌∙◌, ◌||◌, ◌++◌, ◌∷◌, [], Bool, false, List, refl, sym, ap₂}
use Rattle.std.proofs.lemmas.List.Folds.{list_any-append}
use Rattle.std.specs.List.{list_any, AllByRecursion}
use Rattle.std.proofs.lemmas.Bool.{or_parts}
use Rattle.med_ini.specs.Document.{entries_in}
use Rattle.med_ini.specs.Entries.{Entry, stands_twice}
use Rattle.med_ini.specs.Labels.{Label, quiet, more, header, option, Named, Place, Reads, after, is_named, section_name}
use Rattle.med_ini.specs.Lines.{Line}

-- none of the entries is an option of the list
abbrev AreNew : List Named → List Entry → Type 0
AreNew options = AllByRecursion
    (λ (e : Entry). list_any (is_named e.section e.key) options ≡ false)

neither : (a b c : Bool) → (a || (b || c)) ≡ false → (a ≡ false) × (b ≡ false)
neither a b c e = let parts = or_parts a (b || c) e in (parts.0, (or_parts b c parts.1).0)

-- entries that are new behind one option more are new before it, and are not that option
earlier : (options : List Named) (n : Named) (entries : List Entry)
    → AreNew (options ++ n ∷ []) entries
    → AreNew options entries
    × (list_any (λ (x : Entry). is_named x.section x.key n) entries ≡ false)
earlier options n [] new = (tt, refl)
earlier options n (e ∷ entries) new =
    let both = neither (list_any (is_named e.section e.key) options) (is_named e.section e.key n)
    false (sym (list_any-append (is_named e.section e.key) options (n ∷ [])) ∙ new.0) in
    let rest = earlier options n entries new.1 in
    ((both.0, rest.0), ap₂ (λ (a b : Bool). a || b) both.1 rest.1)

-- the entries are new behind the lines before, and no key stands twice among them
distinct_in : (p q : Place) (lines : List Line) (labels : List Label) → Reads p lines labels q
    → AreNew p.options (entries_in (section_name p) labels)
    × (stands_twice (entries_in (section_name p) labels) ≡ false)
distinct_in p q [] [] reads = (tt, refl)
distinct_in p q [] (l ∷ labels) reads = absurd reads
distinct_in p q (line ∷ lines) [] reads = absurd reads
distinct_in p q (line ∷ lines) (quiet ∷ labels) reads = distinct_in p q lines labels reads.1
distinct_in p q (line ∷ lines) (more t ∷ labels) reads = distinct_in p q lines labels reads.1
distinct_in p q (line ∷ lines) (header n ∷ labels) reads =
    distinct_in (after p line (header n)) q lines labels reads.1
distinct_in p q (line ∷ lines) (option k v ∷ labels) reads =
    let rest = distinct_in (after p line (option k v)) q lines labels reads.1 in
    let named : Named = record { section = section_name p; key = k } in
    let behind = earlier p.options named (entries_in (section_name p) labels) rest.0 in (
      (reads.0.1.new_key, behind.0),
      ap₂ (λ (a b : Bool). a || b) behind.1 rest.1,
    )

pub distinct : (p q : Place) (lines : List Line) (labels : List Label) → Reads p lines labels q
    → stands_twice (entries_in (section_name p) labels) ≡ false
distinct p q lines labels reads = (distinct_in p q lines labels reads).1
