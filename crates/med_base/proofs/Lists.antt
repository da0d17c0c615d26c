-- Lists: one around one of its items, what holds of each item, and two lists item by item.
use Rattle.std.proofs.Common.{◌≡◌, ◌∙◌, ◌<◌, ◌≤◌, ◌+◌, ℕ, zero, suc, refl, sym, ap, ap₂, subst, arith, List, [], ◌∷◌, ◌++◌, map, length, take, drop, get_or, slice_get, Some, Contains, add-one}
use Rattle.std.specs.List.{AllZip, AllByRecursion}
use Rattle.std.proofs.lemmas.List.{map-append, take-map, take_more}

-- ---- a list around one of its items

pub cut_around : {V : Type 0} (xs : List V) (i : ℕ) (x : V) → i < length xs → x ≡ get_or xs i x
    → xs ≡ take i xs ++ x ∷ drop (suc i) xs
cut_around [] i x lt at = absurd (omega arith)
cut_around {V} (v ∷ xs) zero x lt at = ap (λ (w : V). w ∷ xs) (sym at)
cut_around {V} (v ∷ xs) (suc i) x lt at =
    ap (λ (ws : List V). v ∷ ws) (cut_around xs i x (omega arith) at)

-- the same, by the place behind it
pub split_at : {V : Type 0} (xs : List V) (i : ℕ) (x : V) → i < length xs → x ≡ get_or xs i x
    → xs ≡ take i xs ++ x ∷ drop (i + 1) xs
split_at xs i x lt at = rw add-one (cut_around xs i x lt at)

-- the same, seen through a function
pub map_around : {V A : Type 0} (f : V → A) (xs : List V) (i : ℕ) (x : V) → i < length xs
    → x ≡ get_or xs i x → map f xs ≡ map f (take i xs) ++ f x ∷ map f (drop (suc i) xs)
map_around f xs i x lt at =
    ap (map f) (cut_around xs i x lt at) ∙ map-append f (take i xs) (x ∷ drop (suc i) xs)

-- what stands before an item, and the item
pub take_next : {V : Type 0} (xs : List V) (i : ℕ) (x : V) → i < length xs → x ≡ get_or xs i x
    → take (i + 1) xs ≡ take i xs ++ x ∷ []
take_next xs i x lt at = take_more xs i x lt ∙ ap (λ v. take i xs ++ v ∷ []) (sym at)

pub map_next : {V A : Type 0} (f : V → A) (xs : List V) (i : ℕ) (x : V) → i < length xs
    → x ≡ get_or xs i x → map f (take (i + 1) xs) ≡ map f (take i xs) ++ f x ∷ []
map_next f xs i x lt at =
    ap (map f) (take_next xs i x lt at) ∙ map-append f (take i xs) (x ∷ [])

pub take_map : {V A : Type 0} (f : V → A) (xs : List V) (i : ℕ) (x : V) → i < length xs
    → x ≡ get_or xs i x → take (i + 1) (map f xs) ≡ take i (map f xs) ++ f x ∷ []
take_map f xs i x lt at =
    take-map f (i + 1) xs ∙ map_next f xs i x lt at
    ∙ ap (λ vs. vs ++ f x ∷ []) (sym (take-map f i xs))

pub length_front : {V A : Type 0} (f : V → A) (xs : List V) (i : ℕ) → i ≤ length xs
    → length (map f (take i xs)) ≡ i
length_front f [] zero le = refl
length_front f [] (suc i) le = absurd (omega arith)
length_front f (x ∷ xs) zero le = refl
length_front f (x ∷ xs) (suc i) le = ap suc (length_front f xs i (omega arith))

-- the item at a place, seen through a function
pub get_map : {V A : Type 0} (f : V → A) (xs : List V) (i : ℕ) (x : V) → i < length xs
    → x ≡ get_or xs i x → slice_get (map f xs) i ≡ Some (f x)
get_map f [] i x lt at = absurd (omega arith)
get_map f (v ∷ xs) zero x lt at = ap (λ w. Some (f w)) (sym at)
get_map f (v ∷ xs) (suc i) x lt at = get_map f xs i x (omega arith) at

pub contains_map : {V A : Type 0} (f : V → A) (xs : List V) (i : ℕ) (x : V) → i < length xs
    → x ≡ get_or xs i x → Contains (map f xs) (f x)
contains_map f [] i x lt at = absurd (omega arith)
contains_map f (v ∷ xs) zero x lt at = (0, omega arith, ap f (sym at))
contains_map f (v ∷ xs) (suc i) x lt at =
    let later = contains_map f xs i x (omega arith) at in
    (suc later.0, omega (arith, later.1), later.2)

-- ---- what holds of each item

pub all_push : {A : Type 0} (P : A → Type 0) (xs : List A) (x : A) → AllByRecursion P xs → P x
    → AllByRecursion P (xs ++ x ∷ [])
all_push P [] x all p = (p, tt)
all_push P (y ∷ xs) x all p = (all.0, all_push P xs x all.1 p)

pub all_append : {A : Type 0} (P : A → Type 0) (xs ys : List A) → AllByRecursion P xs
    → AllByRecursion P ys → AllByRecursion P (xs ++ ys)
all_append P [] ys p q = q
all_append P (x ∷ xs) ys p q = (p.0, all_append P xs ys p.1 q)

pub all_split : {A : Type 0} (P : A → Type 0) (xs ys : List A) → AllByRecursion P (xs ++ ys)
    → AllByRecursion P xs × AllByRecursion P ys
all_split P [] ys all = (tt, all)
all_split P (x ∷ xs) ys all =
    let rest = all_split P xs ys all.1 in ((all.0, rest.0), rest.1)

pub all_at : {A : Type 0} (P : A → Type 0) (xs : List A) (i : ℕ) (x : A) → i < length xs
    → x ≡ get_or xs i x → AllByRecursion P xs → P x
all_at P [] i x lt at all = absurd (omega arith)
all_at P (y ∷ ys) zero x lt at all = subst P (sym at) all.0
all_at P (y ∷ ys) (suc i) x lt at all = all_at P ys i x (omega arith) at all.1

pub all_with : {A : Type 0} (P Q : A → Type 0) → ((x : A) → P x → Q x) → (xs : List A)
    → AllByRecursion P xs → AllByRecursion Q xs
all_with P Q f [] all = tt
all_with P Q f (x ∷ xs) all = (f x all.0, all_with P Q f xs all.1)

pub all_unmap : {A B : Type 0} (f : A → B) (P : B → Type 0) (xs : List A)
    → AllByRecursion P (map f xs) → AllByRecursion (λ x. P (f x)) xs
all_unmap f P [] all = tt
all_unmap f P (x ∷ xs) all = (all.0, all_unmap f P xs all.1)

-- an item of which it doesn't hold
pub not_all : {A : Type 0} (P : A → Type 0) (xs : List A) (at : ℕ) (x : A)
    → slice_get xs at ≡ Some x → (P x → ⊥) → AllByRecursion P xs → ⊥
not_all P [] at x e no_p all = cc e
not_all {A} P (a ∷ xs) zero x e no_p all = let is : a ≡ x = cc e in no_p (subst P is all.0)
not_all P (a ∷ xs) (suc at) x e no_p all = not_all P xs at x e no_p all.1

-- ---- two lists, of which each item stands in a relation to that at the same place

module _ {A B : Type 0} (R : A → B → Type 0) where
  pub zip_push : (xs : List A) (ys : List B) (x : A) (y : B) → AllZip R xs ys → R x y
      → AllZip R (xs ++ x ∷ []) (ys ++ y ∷ [])
  zip_push [] [] x y z r = (r, tt)
  zip_push [] (b ∷ ys) x y z r = absurd z
  zip_push (a ∷ xs) [] x y z r = absurd z
  zip_push (a ∷ xs) (b ∷ ys) x y z r = (z.0, zip_push xs ys x y z.1 r)

  pub zip_once : ((x : A) (y z : B) → R x y → R x z → y ≡ z) → (xs : List A) (ys zs : List B)
      → AllZip R xs ys → AllZip R xs zs → ys ≡ zs
  zip_once one [] [] [] a b = refl
  zip_once one [] [] (z ∷ zs) a b = absurd b
  zip_once one [] (y ∷ ys) zs a b = absurd a
  zip_once one (x ∷ xs) [] zs a b = absurd a
  zip_once one (x ∷ xs) (y ∷ ys) [] a b = absurd b
  zip_once one (x ∷ xs) (y ∷ ys) (z ∷ zs) a b =
      ap₂ (λ (v : B) (vs : List B). v ∷ vs) (one x y z a.0 b.0) (zip_once one xs ys zs a.1 b.1)

  -- the item in the middle, and what stands before and behind it
  pub record IsCut (xs : List A) (x : A) (zs : List A) (ys : List B) : Type 0 where
    pub before : List B
    pub here : B
    pub behind : List B
    pub parts : ys ≡ before ++ here ∷ behind
    pub front : AllZip R xs before
    pub is : R x here

  pub zip_cut : (xs : List A) (x : A) (zs : List A) (ys : List B) → AllZip R (xs ++ x ∷ zs) ys
      → IsCut xs x zs ys
  zip_cut [] x zs [] a = absurd a
  zip_cut [] x zs (y ∷ ys) a =
      record { before = []; here = y; behind = ys; parts = refl; front = tt; is = a.0 }
  zip_cut (w ∷ xs) x zs [] a = absurd a
  zip_cut (w ∷ xs) x zs (y ∷ ys) a =
      let rest = zip_cut xs x zs ys a.1 in
      record {
        before = y ∷ rest.before;
        here = rest.here;
        behind = rest.behind;
        parts = ap (λ (v : List B). y ∷ v) rest.parts;
        front = (a.0, rest.front);
        is = rest.is;
      }

  -- an item that stands in the relation to nothing
  pub no_zip : (xs : List A) (ys : List B) (at : ℕ) (x : A) → slice_get xs at ≡ Some x
      → ((y : B) → R x y → ⊥) → AllZip R xs ys → ⊥
  no_zip [] ys at x e none z = cc e
  no_zip (a ∷ xs) [] at x e none z = z
  no_zip (a ∷ xs) (y ∷ ys) zero x e none z =
      let is : a ≡ x = cc e in none y (subst (λ (v : A). R v y) is z.0)
  no_zip (a ∷ xs) (y ∷ ys) (suc at) x e none z = no_zip xs ys at x e none z.1

  -- the same where the list is cut at the item
  pub no_zip_cut : (xs : List A) (x : A) (zs : List A) (ys : List B) → ((y : B) → R x y → ⊥)
      → AllZip R (xs ++ x ∷ zs) ys → ⊥
  no_zip_cut xs x zs ys none z =
      let cut = zip_cut xs x zs ys z in none cut.here cut.is

  pub length_zip : (xs : List A) (ys : List B) → AllZip R xs ys → length xs ≡ length ys
  length_zip [] [] a = refl
  length_zip [] (y ∷ ys) a = absurd a
  length_zip (x ∷ xs) [] a = absurd a
  length_zip (x ∷ xs) (y ∷ ys) a = ap suc (length_zip xs ys a.1)

  pub each_has : (xs : List A) (ys : List B) → AllZip R xs ys
      → AllByRecursion (λ (x : A). (y : B) × R x y) xs
  each_has [] [] a = tt
  each_has [] (y ∷ ys) a = absurd a
  each_has (x ∷ xs) [] a = absurd a
  each_has (x ∷ xs) (y ∷ ys) a = ((y, a.0), each_has xs ys a.1)

  -- one more item of each
  pub zip_next : {V : Type 0} (f : V → A) (xs : List V) (ys zs : List B) (i : ℕ) (x : V) (y : B)
      → i < length xs → x ≡ get_or xs i x → AllZip R (map f (take i xs)) ys → R (f x) y
      → zs ≡ ys ++ y ∷ [] → AllZip R (map f (take (i + 1) xs)) zs
  zip_next f xs ys zs i x y lt at z r is =
      rw (map_next f xs i x lt at, is) (zip_push (map f (take i xs)) ys (f x) y z r)
