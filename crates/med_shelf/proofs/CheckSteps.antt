-- The lists of a look at records with one record more, and the bytes that they have.
use Rattle.std.proofs.Common.{◌≡◌, ◌∙◌, arith, ℕ, Bool, true, false, List, [], ◌∷◌, ◌++◌, append-nil, Option, Some, None, IfSome, refl, sym, ap, subst, if◌then◌else◌}
use Rattle.std.specs.Prelude.{is_some, IsTrue}
use Rattle.std.specs.FinMap.{get}
use Rattle.std.specs.Cmp.{Equal-is, eq_by_cmp_equiv}
use Rattle.std.specs.List.{AllByRecursion, Contains}
use Rattle.std.specs.declared.cmp.Ordering.TheVariants.{Less}
use Rattle.std.proofs.lemmas.List.{map-append}
use Rattle.std.proofs.lemmas.List.Elements.{Contains-append_right}
use Rattle.med_base.specs.declared.key.FileKey.{FileKey}
use Rattle.med_base.specs.Content.{Content}
use Rattle.med_base.specs.Effects.{Effect, applied, after_all}
use Rattle.med_base.specs.Key.{AreRising, key_cmp, key_eq}
use Rattle.med_base.specs.KeyOrder.{key_total}
use Rattle.med_base.proofs.Lists.{all_split, all_with}
use Rattle.med_core.specs.declared.records.Record.{Record}
use Rattle.med_core.specs.Finish.{Fresh, checked, placed_again, rechecked, with_placing, with_record}
use Rattle.med_core.specs.Place.{placed_record, placing}
use Rattle.med_manifest.proofs.RecordLemmas.{same_key}
use Rattle.med_outside.specs.Sent.{IsWholeFile}
use Rattle.med_outside.specs.Snapshot.{HasKey, Snapshot}
use Rattle.med_shelf.specs.Checks.{AreFresh, changes_of_check, checked_record, is_kept}
use Rattle.med_shelf.specs.Records.{files_of, keys_of}
use Rattle.med_shelf.proofs.CheckedLists.{IsSameOf, checked_on, checked_same, rechecked_on, rechecked_same}

-- ---- the bytes of files, and the seconds of their puts

pub bytes_in : Option (List ℕ) → List ℕ
bytes_in None = []
bytes_in (Some bytes) = bytes

has_bytes : (o : Option (List ℕ)) → IsTrue (is_some o) → o ≡ Some (bytes_in o)
unfolding bytes_in
has_bytes None some = absurd (cc some)
has_bytes (Some bytes) some = refl

-- those of the snapshot, where it is told
abbrev pub first_fresh : Option Snapshot → Fresh
first_fresh None = record { bytes = λ k. []; second = λ k. 0 }
first_fresh (Some s) = record { bytes = λ k. bytes_in (get s.files k); second = λ k. 0 }

pub fresh_first : (held : Option Snapshot) (rs : List Record)
    → IfSome held (λ s. AllByRecursion (λ (r : Record). HasKey r.file.key s) rs)
    → AreFresh held rs (first_fresh held)
fresh_first None rs has = tt
fresh_first (Some s) rs has =
    all_with (λ (r : Record). HasKey r.file.key s)
    (λ (r : Record). get s.files r.file.key ≡ Some (bytes_in (get s.files r.file.key)))
    (λ r some. has_bytes (get s.files r.file.key) some) rs has

-- the same but for one key
abbrev pub with_fresh : FileKey → (bytes : List ℕ) (second : ℕ) → Fresh → Fresh
with_fresh key bytes second x = record {
  bytes = λ k. if key_eq k key then bytes else x.bytes k;
  second = λ k. if key_eq k key then second else x.second k;
}

key_itself : (key : FileKey) → key_eq key key ≡ true
key_itself key = (eq_by_cmp_equiv key_total).refl key

key_apart : (a b : FileKey) → key_cmp a b ≡ Less → key_eq a b ≡ false
key_apart a b less = go (key_eq a b) refl
  where
    go : (same : Bool) → key_eq a b ≡ same → same ≡ false
    go true e = let is = (Equal-is (key_cmp a b)).0 e in absurd (cc (less, is))
    go false e = refl

pub fresh_next : (held : Option Snapshot) (rs : List Record) (x : Fresh) (key : FileKey)
    (bytes : List ℕ) (second : ℕ) → AreFresh held rs x → IsWholeFile held key bytes
    → AreFresh held rs (with_fresh key bytes second x)
fresh_next None rs x key bytes second are whole = tt
fresh_next (Some s) rs x key bytes second are whole =
    all_with (λ (r : Record). get s.files r.file.key ≡ Some (x.bytes r.file.key))
    (λ (r : Record). get s.files r.file.key
    ≡ Some ((with_fresh key bytes second x).bytes r.file.key))
    (λ r is. one r.file.key is) rs are
  where
    one : (k : FileKey) → get s.files k ≡ Some (x.bytes k)
        → get s.files k ≡ Some ((with_fresh key bytes second x).bytes k)
    one k is = go (key_eq k key) refl
      where
        go : (same : Bool) → key_eq k key ≡ same
            → get s.files k ≡ Some (if key_eq k key then bytes else x.bytes k)
        go true e =
            ap (get s.files) (same_key k key e) ∙ whole
            ∙ ap (λ same. Some (if same then bytes else x.bytes k)) (sym e)
        go false e = is ∙ ap (λ same. Some (if same then bytes else x.bytes k)) (sym e)

pub whole_in : (held : Option Snapshot) (rs : List Record) (x : Fresh) → AreFresh held rs x
    → AllByRecursion (λ (r : Record). IsWholeFile held r.file.key (x.bytes r.file.key)) rs
whole_in None rs x are = any rs
  where
    any : (rs : List Record) → AllByRecursion (λ (r : Record). Unit {0}) rs
    any [] = tt
    any (r ∷ rs) = (tt, any rs)
whole_in (Some s) rs x are = are

-- ---- places in a list

pub at_cut : (P : Record → Type 0) (all front : List Record) (r : Record) (rest : List Record)
    → all ≡ front ++ r ∷ rest → AllByRecursion P all → P r
at_cut P all front r rest is each =
    (all_split P front (r ∷ rest) (subst (AllByRecursion P) is each)).1.0

pub key_at_cut : (held : Option Snapshot) (all front : List Record) (r : Record)
    (rest : List Record) → all ≡ front ++ r ∷ rest
    → IfSome held (λ s. AllByRecursion (λ (q : Record). HasKey q.file.key s) all)
    → IfSome held (HasKey r.file.key)
key_at_cut None all front r rest is has = tt
key_at_cut (Some s) all front r rest is has =
    at_cut (λ (q : Record). HasKey q.file.key s) all front r rest is has

behind_key : (P : FileKey → Type 0) (front : List Record) (r : Record) (rest : List Record)
    → AllByRecursion P (keys_of (front ++ r ∷ rest)) → P r.file.key
behind_key P [] r rest each = each.0
behind_key P (q ∷ front) r rest each = behind_key P front r rest each.1

pub below_key : (front : List Record) (r : Record) (rest : List Record)
    → AreRising (keys_of (front ++ r ∷ rest))
    → AllByRecursion (λ (q : Record). key_cmp q.file.key r.file.key ≡ Less) front
below_key [] r rest rising = tt
below_key (q ∷ front) r rest rising = (
  behind_key (λ k. key_cmp q.file.key k ≡ Less) front r rest rising.0,
  below_key front r rest rising.1,
)

pub has_at_cut : (all front : List Record) (r : Record) (rest : List Record)
    → all ≡ front ++ r ∷ rest → Contains all r
has_at_cut all front r rest is =
    subst (λ l. Contains l r) (sym is)
    (Contains-append_right front (r ∷ rest) r (0, omega arith, refl))

-- ---- the lists with one record more

module _ (before f n : List ℕ) (d : Bool) (x : Fresh) (front : List Record) (r : Record)
    (bytes : List ℕ) (second : ℕ)
    (below : AllByRecursion (λ (q : Record). key_cmp q.file.key r.file.key ≡ Less) front) where
  abbrev y : Fresh
  y = with_fresh r.file.key bytes second x

  bytes_there : y.bytes r.file.key ≡ bytes
  bytes_there = ap (λ same. if same then bytes else x.bytes r.file.key) (key_itself r.file.key)

  second_there : y.second r.file.key ≡ second
  second_there = ap (λ same. if same then second else x.second r.file.key) (key_itself r.file.key)

  same_before : AllByRecursion (λ (q : Record). IsSameOf before f n d y x q.file) front
  same_before =
      all_with (λ (q : Record). key_cmp q.file.key r.file.key ≡ Less)
      (λ (q : Record). IsSameOf before f n d y x q.file)
      (λ q less. (
        ap (λ same. if same then bytes else x.bytes q.file.key)
            (key_apart q.file.key r.file.key less),
        ap (λ same. if same then second else x.second q.file.key)
            (key_apart q.file.key r.file.key less),
      )) front below

  same_files : (rs : List Record)
      → AllByRecursion (λ (q : Record). IsSameOf before f n d y x q.file) rs
      → AllByRecursion (IsSameOf before f n d y x) (files_of rs)
  same_files [] each = tt
  same_files (q ∷ rs) each = (each.0, same_files rs each.1)

  one_list : (c : Content) → (checked before f n d y c (r.file ∷ [])).changes
      ≡ changes_of_check before f n d r bytes second c
  one_list c = go (is_kept c r)
    where
      go : (kept : Bool) → (if kept then with_record r.file (checked before f n d y c [])
          else with_placing (placed_again before f n d y c r.file)
          (checked before f n d y (applied (placed_again before f n d y c r.file).changes c)
          [])).changes
          ≡ (if kept then [] else (placing before f n d r.file.key bytes second c).changes)
      go true = refl
      go false =
          append-nil (placed_again before f n d y c r.file).changes
          ∙ (λ i. (placing before f n d r.file.key (bytes_there i) (second_there i) c).changes)

  one_record : (c : Content) → rechecked before f n d y c (r ∷ [])
      ≡ checked_record before f n d r bytes c ∷ []
  one_record c = go (is_kept c r)
    where
      go : (kept : Bool) → (if kept then r ∷ rechecked before f n d y c []
          else placed_record before f n d r.file.key (y.bytes r.file.key) c
          ∷ rechecked before f n d y (applied (placed_again before f n d y c r.file).changes c) [])
          ≡ (if kept then r else placed_record before f n d r.file.key bytes c) ∷ []
      go true = refl
      go false = λ i. placed_record before f n d r.file.key (bytes_there i) c ∷ []

  pub list_next : (xs ys : List Effect) (told : Option Content)
      → IfSome told (λ c. xs ≡ (checked before f n d x c (files_of front)).changes)
      → IfSome (after_all xs told) (λ c. ys ≡ changes_of_check before f n d r bytes second c)
      → IfSome told
      (λ c. xs ++ ys ≡ (checked before f n d y c (files_of (front ++ r ∷ []))).changes)
  list_next xs ys None so next = tt
  list_next xs ys (Some c) so next =
      let same = checked_same before f n d y x (files_of front) (same_files front same_before) c in
      let made : xs ≡ (checked before f n d y c (files_of front)).changes =
      so ∙ ap (λ q. q.changes) (sym same) in
      ap (λ l. xs ++ l) (next ∙ sym (one_list (applied xs c)))
      ∙ ap (λ l. l ++ (checked before f n d y (applied l c) (r.file ∷ [])).changes) made
      ∙ sym (checked_on before f n d y (files_of front) (r.file ∷ []) c)
      ∙ ap (λ l. (checked before f n d y c l).changes)
      (sym (map-append (λ (q : Record). q.file) front (r ∷ [])))

  pub records_next : (xs : List Effect) (kept : List Record) (one : Record) (told : Option Content)
      → IfSome told (λ c. xs ≡ (checked before f n d x c (files_of front)).changes)
      → IfSome told (λ c. kept ≡ rechecked before f n d x c front)
      → IfSome (after_all xs told) (λ c. one ≡ checked_record before f n d r bytes c)
      → IfSome told (λ c. kept ++ one ∷ [] ≡ rechecked before f n d y c (front ++ r ∷ []))
  records_next xs kept one None so are next = tt
  records_next xs kept one (Some c) so are next =
      let same = checked_same before f n d y x (files_of front) (same_files front same_before) c in
      let made : xs ≡ (checked before f n d y c (files_of front)).changes =
      so ∙ ap (λ q. q.changes) (sym same) in
      ap (λ l. kept ++ l) (ap (λ q. q ∷ []) next ∙ sym (one_record (applied xs c)))
      ∙ ap (λ l. kept ++ rechecked before f n d y (applied l c) (r ∷ [])) made
      ∙ ap (λ l. l ++ rechecked before f n d y
      (applied (checked before f n d y c (files_of front)).changes c) (r ∷ []))
      (are ∙ sym (rechecked_same before f n d y x front same_before c))
      ∙ sym (rechecked_on before f n d y front (r ∷ []) c)
