-- The tables of files that stand in order are cut off one after another.
use Rattle.std.proofs.Common.{◌≡◌, ◌<◌, ◌+◌, zero, suc, ℕ, ◌-◌, ◌&&◌, ◌≤◌, Bool, true, false, List, [], ◌∷◌, ◌++◌, map, take, drop, length, get_or, append_assoc, subst, refl, ap, sym, ◌∙◌, arith}
use Rattle.std.proofs.Math.Numerals.{one-add, sub-one}
use Rattle.std.proofs.Math.Seq.{take-length}
use Rattle.std.specs.List.{prefix_len}
use Rattle.std.proofs.lemmas.List.{take_more}
use Rattle.std.specs.Str.{bytes_eq}
use Rattle.std.proofs.lemmas.Bool.{and_parts}
use Rattle.serde_json.specs.Data.{Data}
use Rattle.med_base.proofs.Bools.{same_bytes}
use Rattle.med_manifest.specs.declared.manifest.FileRecord.{FileRecord}
use Rattle.med_manifest.specs.Written.{IsFingerprint, HaveFingerprints, Table, tables, with_file, is_same_table, table_data}

-- two files of one table have its names
pub same_names : (f g : FileRecord) → is_same_table f g ≡ true
    → (f.key.keyspace ≡ g.key.keyspace) × (f.key.table ≡ g.key.table)
same_names f g e =
    let parts = and_parts _ _ e in
    (same_bytes f.key.keyspace g.key.keyspace parts.0, same_bytes f.key.table g.key.table parts.1)

-- whether the file is of the table with this keyspace and name
is_of : List ℕ → List ℕ → FileRecord → Bool
is_of keyspace table g = bytes_eq keyspace g.key.keyspace && bytes_eq table g.key.table

-- files of the table of g are those of the table of f, where g is one of these
same_run : (f g : FileRecord) → is_same_table f g ≡ true → (fs : List FileRecord)
    → prefix_len (is_same_table g) fs ≡ prefix_len (is_same_table f) fs
unfolding is_of
same_run f g e fs =
    let names = same_names f g e in
    λ i. prefix_len (is_of (sym names.0 i) (sym names.1 i)) fs

-- the first table of files, cut off after n of those that follow the first file
abbrev cut_after : FileRecord → List FileRecord → ℕ → List Table
cut_after f fs n = record { first = f; files = f ∷ take n fs } ∷ tables (drop n fs)

cut_by : (f g : FileRecord) (gs : List FileRecord) (b : Bool) → is_same_table f g ≡ b
    → tables (g ∷ gs) ≡ cut_after g gs (prefix_len (is_same_table g) gs)
    → tables (f ∷ g ∷ gs) ≡ cut_after f (g ∷ gs) (prefix_len (is_same_table f) (g ∷ gs))
cut_by f g gs true e ih =
    let run = same_run f g e gs in ap (with_file f) ih ∙ rw (e, run, one-add) refl
cut_by f g gs false e ih =
    let first_alone = λ (ts : List Table). record { first = f; files = f ∷ [] } ∷ ts in
    ap (with_file f) ih ∙ rw e (ap first_alone (sym ih))

cut_off : (f : FileRecord) (fs : List FileRecord)
    → tables (f ∷ fs) ≡ cut_after f fs (prefix_len (is_same_table f) fs)
cut_off f [] = refl
cut_off f (g ∷ gs) = cut_by f g gs (is_same_table f g) refl (cut_off g gs)

cut_at : (xs : List FileRecord) (f : FileRecord) → 1 ≤ length xs → f ≡ get_or xs 0 f
    → tables xs ≡ cut_after f (drop 1 xs) (prefix_len (is_same_table f) (drop 1 xs))
cut_at [] f le e = absurd (omega arith)
cut_at (x ∷ xs) f le e =
    subst (λ (g : FileRecord). tables (x ∷ xs) ≡ cut_after g xs (prefix_len (is_same_table g) xs))
    (sym e) (cut_off x xs)

pub whole_tail : (xs : List FileRecord) → take (length xs - 1) (drop 1 xs) ≡ drop 1 xs
whole_tail [] = refl
whole_tail (x ∷ xs) = rw sub-one (take-length xs)

-- one more table told
pub next_table : (told next : List Data) (d : Data) (xs after others left : List FileRecord)
    (f : FileRecord) (n : ℕ) → 1 ≤ length xs → f ≡ get_or xs 0 f → after ≡ drop 1 xs
    → n ≡ prefix_len (is_same_table f) after → others ≡ take n after → left ≡ drop n after
    → d ≡ table_data (record { first = f; files = f ∷ others }) → next ≡ told ++ d ∷ []
    → next ++ map table_data (tables left) ≡ told ++ map table_data (tables xs)
next_table told next d xs after others left f n le is tail count front back shown more =
    let cut = cut_at xs f le is in
    rw (more, shown, front, back, count, tail, cut, append_assoc) refl

-- ---- digests

pub digests_more : (xs : List FileRecord) (i : ℕ) (x : FileRecord) → i < length xs
    → x ≡ get_or xs i x → HaveFingerprints (take i xs) → IsFingerprint x.fingerprint
    → HaveFingerprints (take (i + 1) xs)
digests_more xs i x lt at all is =
    subst HaveFingerprints
    (sym (take_more xs i x lt ∙ ap (λ (y : FileRecord). take i xs ++ y ∷ []) (sym at)))
    (join (take i xs) (x ∷ []) all (is, tt))
  where
    join : (us bs : List FileRecord) → HaveFingerprints us → HaveFingerprints bs → HaveFingerprints (us ++ bs)
    join [] bs p q = q
    join (a ∷ us) bs p q = (p.0, join us bs p.1 q)

digests_join : (n : ℕ) (xs : List FileRecord) → HaveFingerprints (take n xs)
    → HaveFingerprints (drop n xs) → HaveFingerprints xs
digests_join n [] p q = tt
digests_join zero (x ∷ xs) p q = q
digests_join (suc n) (x ∷ xs) p q = (p.0, digests_join n xs p.1 q)

-- the files of a table, and those that are left
pub digests_rest : (xs after others left : List FileRecord) (f : FileRecord) (n : ℕ)
    → 1 ≤ length xs → f ≡ get_or xs 0 f → after ≡ drop 1 xs → others ≡ take n after
    → left ≡ drop n after → HaveFingerprints (f ∷ others) → HaveFingerprints left → HaveFingerprints xs
digests_rest [] after others left f n le is tail front back here more = tt
digests_rest (x ∷ xs) after others left f n le is tail front back here more =
    let first : IsFingerprint x.fingerprint =
    subst (λ (g : FileRecord). IsFingerprint g.fingerprint) is here.0 in
    let taken : HaveFingerprints (take n xs) =
    subst HaveFingerprints (front ∙ ap (take n) tail) here.1 in
    let dropped : HaveFingerprints (drop n xs) = subst HaveFingerprints (back ∙ ap (drop n) tail) more in
    (first, digests_join n xs taken dropped)
