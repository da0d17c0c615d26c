-- What the place of the first file of a key tells of the files.
use Rattle.std.proofs.Common.{◌≡◌, ◌∙◌, ◌≤◌, ◌<◌, ◌+◌, ◌||◌, ℕ, zero, suc, Bool, true, false, cond, List, [], ◌∷◌, take, drop, length, get_or, slice_get, Option, Some, None, option_map, refl, sym, ap, arith, nat_lt, lt-ltb}
use Rattle.std.specs.BTreeMap.{BTreeMap, get}
use Rattle.std.specs.FinMap.{find}
use Rattle.std.specs.Cmp.{eq_by_cmp_equiv}
use Rattle.std.specs.List.{list_any}
use Rattle.std.specs.Map.{keys_of}
use Rattle.std.proofs.lemmas.List.{drop_more}
use Rattle.med_base.specs.declared.key.FileKey.{FileKey}
use Rattle.med_base.specs.Key.{key_cmp, key_eq}
use Rattle.med_base.specs.KeyOrder.{key_total}
use Rattle.med_outside.specs.Snapshot.{key_of_raw}
use Rattle.med_mem.specs.declared.snapshot.MemFile.{MemFile}
use Rattle.med_mem.specs.FirstPlaces.{places, IsIndex, is_before}
use Rattle.med_mem.specs.Snaps.{files_of}

not_lower : (n at : ℕ) → at ≤ n → nat_lt n at ≡ false
not_lower n at le = grind arith

-- no place is before the first one
none_before : (key : FileKey) (at n : ℕ) (fs : List MemFile) → at ≤ n
    → is_before at (find key_cmp key (places n fs)) ≡ false
none_before key at n [] le = refl
none_before key at n (f ∷ fs) le =
    go (key_eq key (key_of_raw f.key)) (none_before key at (n + 1) fs (omega (arith, le)))
  where
    go : (b : Bool) → is_before at (find key_cmp key (places (n + 1) fs)) ≡ false
        → is_before at (cond b (Some n) (find key_cmp key (places (n + 1) fs))) ≡ false
    go true rest = not_lower n at le
    go false rest = rest

-- the first place is before another exactly where one of the files before it has the key
pub earlier : (key : FileKey) (i n : ℕ) (fs : List MemFile)
    → is_before (n + i) (find key_cmp key (places n fs))
    ≡ list_any (key_eq key) (keys_of (files_of (take i fs)))
earlier key zero n fs = none_before key (n + 0) n fs (omega arith)
earlier key (suc i) n [] = refl
earlier key (suc i) n (f ∷ fs) =
    go (key_eq key (key_of_raw f.key))
    (ap (λ (m : ℕ). is_before m (find key_cmp key (places (n + 1) fs))) moved
    ∙ earlier key i (n + 1) fs)
  where
    moved : ◌≡◌ {A = ℕ} (n + suc i) (n + 1 + i)
    moved = omega arith

    rest : Bool
    rest = list_any (key_eq key) (keys_of (files_of (take i fs)))

    go : (b : Bool) → is_before (n + suc i) (find key_cmp key (places (n + 1) fs)) ≡ rest
        → is_before (n + suc i) (cond b (Some n) (find key_cmp key (places (n + 1) fs)))
        ≡ (b || rest)
    go true e = lt-ltb n (n + suc i) (omega arith)
    go false e = e

-- the bytes of the file at a place
abbrev pub file_at : List MemFile → ℕ → Option (List ℕ)
file_at fs at = option_map (λ (f : MemFile). f.bytes.items) (slice_get fs at)

-- what a place of the first file tells, or that there is none
abbrev IsFound : FileKey → ℕ → List MemFile → Option ℕ → Type 0
IsFound key n fs None = find key_cmp key (files_of fs) ≡ None
IsFound key n fs (Some at) =
    (i : ℕ) × (at ≡ n + i) × (find key_cmp key (files_of fs) ≡ file_at fs i)

first_place_found : (key : FileKey) (n : ℕ) (fs : List MemFile)
    → IsFound key n fs (find key_cmp key (places n fs))
first_place_found key n [] = refl
first_place_found key n (f ∷ fs) =
    go (key_eq key (key_of_raw f.key)) (find key_cmp key (places (n + 1) fs))
    (first_place_found key (n + 1) fs)
  where
    -- the same at a list whose head has the key or not
    IsFoundIf : Bool → Option ℕ → Type 0
    IsFoundIf b None = cond b (Some f.bytes.items) (find key_cmp key (files_of fs)) ≡ None
    IsFoundIf b (Some at) =
        (i : ℕ) × (at ≡ n + i)
        × (cond b (Some f.bytes.items) (find key_cmp key (files_of fs)) ≡ file_at (f ∷ fs) i)

    go : (b : Bool) (o : Option ℕ) → IsFound key (n + 1) fs o → IsFoundIf b (cond b (Some n) o)
    go true o e = (0, omega arith, refl)
    go false None e = e
    go false (Some at) (i, is, same) = (suc i, omega (arith, is), same)

-- where a map is the index of files
module _ (index : BTreeMap FileKey ℕ) (fs : List MemFile) (is : IsIndex index fs) where
  pub earlier_index : (key : FileKey) (i : ℕ)
      → is_before i (get key_cmp index key)
      ≡ list_any (key_eq key) (keys_of (files_of (take i fs)))
  earlier_index key i =
      let same : ◌≡◌ {A = ℕ} i (0 + i) = omega arith in
      ap (λ (o : Option ℕ). is_before i o) (is key)
      ∙ ap (λ (m : ℕ). is_before m (find key_cmp key (places 0 fs))) same
      ∙ earlier key i 0 fs

  pub found_none : (key : FileKey) → get key_cmp index key ≡ None
      → find key_cmp key (files_of fs) ≡ None
  found_none key none =
      go (find key_cmp key (places 0 fs)) (sym (is key) ∙ none) (first_place_found key 0 fs)
    where
      go : (o : Option ℕ) → o ≡ None → IsFound key 0 fs o → find key_cmp key (files_of fs) ≡ None
      go None e f = f
      go (Some at) e f = absurd (cc e)

  pub found_some : (key : FileKey) (at : ℕ) → get key_cmp index key ≡ Some at
      → find key_cmp key (files_of fs) ≡ file_at fs at
  found_some key at some =
      go (find key_cmp key (places 0 fs)) (sym (is key) ∙ some) (first_place_found key 0 fs)
    where
      go : (o : Option ℕ) → o ≡ Some at → IsFound key 0 fs o
          → find key_cmp key (files_of fs) ≡ file_at fs at
      go None e f = absurd (cc e)
      go (Some n) e (i, is_i, same) =
          let n_is : ◌≡◌ {A = ℕ} n at = cc e in
          let at_is : ◌≡◌ {A = ℕ} i at = omega (arith, is_i, n_is) in
          same ∙ ap (λ (j : ℕ). file_at fs j) at_is

-- the index of one file more at the front
pub one_more_place : (old new : FileKey → Option ℕ) (files : List MemFile) (at : ℕ) (f : MemFile)
    → at < length files → f ≡ get_or files at f
    → ((key : FileKey) → old key ≡ find key_cmp key (places (at + 1) (drop (at + 1) files)))
    → ((key : FileKey) → new key ≡ cond (key_eq (key_of_raw f.key) key) (Some at) (old key))
    → (key : FileKey) → new key ≡ find key_cmp key (places at (drop at files))
one_more_place old new files at f lt is before put key =
    put key
    ∙ ap (λ (b : Bool). cond b (Some at) (old key))
    ((eq_by_cmp_equiv key_total).symm (key_of_raw f.key) key)
    ∙ ap (λ (o : Option ℕ). cond (key_eq key (key_of_raw f.key)) (Some at) o) (before key)
    ∙ ap (λ (fs : List MemFile). find key_cmp key (places at fs)) (sym cut)
  where
    cut : drop at files ≡ f ∷ drop (at + 1) files
    cut = drop_more files at f lt ∙ ap (λ (g : MemFile). g ∷ drop (at + 1) files) (sym is)
