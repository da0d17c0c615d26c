-- What a list contains, and the keys of a content.
use Rattle.std.proofs.Common.{◌≡◌, ◌||◌, bytes_eq, nat_cmp, ◌⊎◌, zero, suc, Bool, true, false, cond, List, [], ◌∷◌, ◌++◌, filter, Some, None, Option, refl, sym, ◌∙◌, ap, subst, inl, inr, arith, Contains, is_some, true≢false, ⊎_elim}
use Rattle.std.specs.List.{AllByRecursion, list_any}
use Rattle.std.proofs.lemmas.List.Elements.{All-contains, All-contains_itself, All-filter, recursion_from_All, Contains-get_or}
use Rattle.std.proofs.lemmas.Map.Views.{list_any-from_Contains, Contains-from_any}
use Rattle.std.specs.Cmp.{eq_by_cmp_equiv}
use Rattle.std.specs.Cmp.Lexicographic.{slice_cmp, nat_list_cmp_total}
use Rattle.std.proofs.Common.{◌≡◌, ◌⊎◌, Bool, true, false, cond, ◌||◌, List, [], ◌∷◌, ◌++◌, Some, None, Option, refl, sym, ◌∙◌, ap, subst, inl, inr, arith, Contains, is_some, ⊎_elim, bytes_eq, nat_cmp}
use Rattle.std.specs.List.{AllByRecursion, flat_map, list_any}
use Rattle.std.proofs.lemmas.List.Elements.{All-contains, All-contains_itself, Contains-append_left, Contains-append_right}
use Rattle.std.specs.Cmp.Lexicographic.{nat_list_cmp_total}
use Rattle.std.specs.FinMap as fin
use Rattle.med_base.specs.Classify.{kind_of}
use Rattle.med_base.specs.Content.{Content, Object}
use Rattle.med_base.specs.Kinds.{Kind}
use Rattle.med_manifest.proofs.ByKind.{Text}
use Rattle.med_manifest.proofs.Gets.{cmp_is, cmp_same, from_cmp, from_same, same_itself}
use Rattle.med_manifest.specs.Listed.{paths_of}

pub contains_nothing : {X : Type 0} (x : X) → ¬ (Contains [] x)
contains_nothing x (k, lt, e) = absurd (omega arith)

pub contains_first : {X : Type 0} (y x : X) (ys : List X) → Contains (y ∷ ys) x → (y ≡ x)
    ⊎ Contains ys x
contains_first y x ys (zero, lt, e) = inl e
contains_first y x ys (suc k, lt, e) = inr (k, omega arith, e)

pub contains_more : {X : Type 0} (y x : X) (ys : List X) → Contains ys x → Contains (y ∷ ys) x
contains_more y x ys (k, lt, e) = (suc k, omega arith, e)

pub contains_head : {X : Type 0} (x : X) (ys : List X) → Contains (x ∷ ys) x
contains_head x ys = (zero, omega arith, refl)

pub contains_filtered : {X : Type 0} (p : X → Bool) (r : List X) (x : X) → Contains (filter p r) x
    → Contains r x
contains_filtered p r x h = All-contains (Contains r) (filter p r) x (All-filter p (Contains r) r
    (All-contains_itself r)) h

pub passes_filter : {X : Type 0} (p : X → Bool) (x : X) (xs : List X) → p x ≡ true → Contains xs x
    → Contains (filter p xs) x
passes_filter p x [] holds h = absurd (contains_nothing x h)
passes_filter p x (y ∷ ys) holds h = go (p y) refl (⊎_elim (λ e. inl e)
    (λ k. inr (passes_filter p x ys holds k)) (contains_first y x ys h))
  where
    go : (b : Bool) → p y ≡ b → (y ≡ x) ⊎ Contains (filter p ys) x
        → Contains (cond b (y ∷ filter p ys) (filter p ys)) x
    go true e (inl is) = subst (λ z. Contains (z ∷ filter p ys) x) (sym is)
        (contains_head x (filter p ys))
    go true e (inr k) = contains_more y x (filter p ys) k
    go false e (inl is) = let none : p x ≡ false = subst (λ z. p z ≡ false) is e in absurd (cc)
    go false e (inr k) = k

pub keys_stand : (c : Content) (p : Text) → Contains (fin.keys c) p → (o : Object)
    × (fin.get c p ≡ Some o)
keys_stand c p h = go (fin.get c p) (fin.contains_key-keys c p ∙ list_any-from_Contains
    (eq_by_cmp_equiv nat_list_cmp_total) p (fin.keys c) h)
  where
    go : (o : Option Object) → is_some o ≡ true → (x : Object) × (o ≡ Some x)
    go None e = absurd (true≢false (sym e))
    go (Some x) e = (x, refl)

pub stands_in_keys : (c : Content) (p : Text) (o : Object) → fin.get c p ≡ Some o
    → Contains (fin.keys c) p
stands_in_keys c p o e =
    let holds : fin.contains_key c p ≡ true = ap is_some e in
    Contains-from_any from_cmp p (fin.keys c) (sym (fin.contains_key-keys c p) ∙ holds)

-- each path that is listed by a test passes it and stands
abbrev pub IsListed : Text → Content → (Kind → Bool) → Text → Type 0
IsListed before c test p = (test (kind_of before p) ≡ true)
    × ((o : Object) × (fin.get c p ≡ Some o))

pub get_kept : (c : Content) (p : Text → Bool) (q : Text) → fin.get (fin.retain_keys c p) q
    ≡ cond (p q) (fin.get c q) None
get_kept c p q = fin.get-retain_keys c p q
    (λ x e. ap p (sym (fin.slice_cmp-IsAntisymmetric fin.nat_cmp-IsAntisymmetric q x e)))

pub listed_by : (b : Bool) (x : Option Object) (o : Object) → cond b x None ≡ Some o → (b ≡ true)
    × (x ≡ Some o)
listed_by true x o e = (refl, e)
listed_by false x o e = absurd (cc)

pub listed : (before : Text) (c : Content) (test : Kind → Bool) (p : Text)
    → Contains (paths_of before c test) p → IsListed before c test p
listed before c test p h =
    let (o, e) = keys_stand (fin.retain_keys c (λ q. test (kind_of before q))) p h in
    let both : (test (kind_of before p) ≡ true) × (fin.get c p ≡ Some o) = listed_by
    (test (kind_of before p)) (fin.get c p) o (sym (get_kept c (λ q. test (kind_of before q)) p)
    ∙ e) in
    (both.0, (o, both.1))

pub all_listed : (before : Text) (c : Content) (test : Kind → Bool)
    → AllByRecursion (IsListed before c test) (paths_of before c test)
all_listed before c test = recursion_from_All (IsListed before c test) (paths_of before c test)
    (λ k d lt. listed before c test _ (Contains-get_or (paths_of before c test) k d lt))

pub is_listed : (before : Text) (c : Content) (test : Kind → Bool) (p : Text) (o : Object)
    → test (kind_of before p) ≡ true → fin.get c p ≡ Some o → Contains (paths_of before c test) p
is_listed before c test p o passes e = stands_in_keys
    (fin.retain_keys c (λ q. test (kind_of before q))) p o
    (get_kept c (λ q. test (kind_of before q)) p ∙ ap (λ b. cond b (fin.get c p) None) passes ∙ e)

-- what holds of each element of one list holds by another reason of each
pub all_so : {X : Type 0} (P Q : X → Type 0) → ((x : X) → P x → Q x) → (xs : List X)
    → AllByRecursion P xs → AllByRecursion Q xs
all_so P Q so [] h = tt
all_so P Q so (x ∷ xs) h = (so x h.0, all_so P Q so xs h.1)

pub all_filtered : {X : Type 0} (P Q : X → Type 0) (test : X → Bool) → ((x : X) → test x ≡ true
    → P x → Q x) → (xs : List X) → AllByRecursion P xs → AllByRecursion Q (filter test xs)
all_filtered P Q test so [] h = tt
all_filtered P Q test so (x ∷ xs) h = go (test x) refl (all_filtered P Q test so xs h.1)
  where
    go : (b : Bool) → test x ≡ b → AllByRecursion Q (filter test xs) → AllByRecursion Q
        (cond b (x ∷ filter test xs) (filter test xs))
    go true e more = (so x e h.0, more)
    go false e more = more

pub append_all : {X : Type 0} (P : X → Type 0) (xs ys : List X) → AllByRecursion P xs
    → AllByRecursion P ys → AllByRecursion P (xs ++ ys)
append_all P [] ys h k = k
append_all P (x ∷ xs) ys h k = (h.0, append_all P xs ys h.1 k)

-- a list has a text exactly where a test finds it
pub any_same : (n : Text) (names : List Text) → Contains names n → list_any (bytes_eq n) names
    ≡ true
any_same n [] h = absurd (contains_nothing n h)
any_same n (m ∷ ms) h = go (bytes_eq n m) refl (⊎_elim (λ e. inl e) (λ k. inr (any_same n ms k))
    (contains_first m n ms h))
  where
    go : (b : Bool) → bytes_eq n m ≡ b → (m ≡ n) ⊎ (list_any (bytes_eq n) ms ≡ true)
        → (b || list_any (bytes_eq n) ms) ≡ true
    go true e k = refl
    go false e (inl is) = let same : bytes_eq n m ≡ true = subst (λ x. bytes_eq n x ≡ true) (sym is)
        (same_itself n) in absurd (cc)
    go false e (inr k) = k

pub same_any : (n : Text) (names : List Text) → list_any (bytes_eq n) names ≡ true
    → Contains names n
same_any n [] h = absurd (cc)
same_any n (m ∷ ms) h = go (λ k. same_any n ms k) (bytes_eq n m) refl h
  where
    go : (list_any (bytes_eq n) ms ≡ true → Contains ms n) → (b : Bool) → bytes_eq n m ≡ b
        → (b || list_any (bytes_eq n) ms) ≡ true → Contains (m ∷ ms) n
    go more true e k = subst (λ x. Contains (x ∷ ms) n) (from_same n m e) (contains_head n ms)
    go more false e k = contains_more m n ms (more k)

any_cmp : (p : Text) (ps : List Text) → list_any (cmp_same p) ps ≡ list_any (bytes_eq p) ps
any_cmp p [] = refl
any_cmp p (q ∷ qs) = λ i. cmp_is p q i || any_cmp p qs i

-- the keys of a map, by the test on texts
pub keys_any : {X : Type 0} (m : fin.FinMap (slice_cmp nat_cmp) X) (p : Text) → fin.contains_key m p
    ≡ list_any (bytes_eq p) (fin.keys m)
keys_any m p = fin.contains_key-keys m p ∙ any_cmp p (fin.keys m)

pub flat_map_contains : {X Y : Type 0} (g : X → List Y) (xs : List X) (x : X) (y : Y)
    → Contains xs x → Contains (g x) y → Contains (flat_map g xs) y
flat_map_contains g [] x y (k, lt, e) h = absurd (omega arith)
flat_map_contains g (z ∷ zs) x y among h = go (contains_first z x zs among)
    (λ k. flat_map_contains g zs x y k h)
  where
    go : (z ≡ x) ⊎ Contains zs x → (Contains zs x → Contains (flat_map g zs) y)
        → Contains (g z ++ flat_map g zs) y
    go (inl e) more = Contains-append_left (g z) (flat_map g zs) y (subst (λ v. Contains (g v) y)
        (sym e) h)
    go (inr k) more = Contains-append_right (g z) (flat_map g zs) y (more k)
