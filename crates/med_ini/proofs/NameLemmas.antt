-- What the sets of headers and options have, told as the lists of the grammar.
use Rattle.std.proofs.Common.{◌≡◌, ◌∙◌, ◌&&◌, ◌||◌, ◌++◌, ◌∷◌, [], ℕ, Bool, true, false, List, map, refl, sym, ap, ap₂}
use Rattle.std.proofs.lemmas.List.Folds.{list_any-append}
use Rattle.std.proofs.lemmas.Map.Lookups.{exact_bytes, exact_pairs}
use Rattle.std.proofs.lemmas.Map.Text.{is_eq-slice_cmp}
use Rattle.std.specs.BTreeMap.{is_at}
use Rattle.std.specs.BTreeSet.{insert_key}
use Rattle.std.specs.Borrow.{Bor}
use Rattle.std.specs.Cmp.Lexicographic.{slice_cmp, nat_list_eq_equiv}
use Rattle.std.specs.List.{list_any}
use Rattle.std.specs.Ordering.{is_eq, match_ordering, nat_cmp, ordering_then}
use Rattle.std.specs.Str.{bytes_eq}
use Rattle.std.specs.declared.cmp.Ordering.{Ordering}
use Rattle.std.specs.declared.cmp.Ordering.TheVariants.{Less, Equal, Greater}
use Rattle.med_ini.specs.LabelViews.{named_view}
use Rattle.med_ini.specs.Labels.{is_named, is_taken}
use Rattle.med_ini.specs.Lines.{Line}
use Rattle.med_ini.specs.NameOrder.{lower_key, name_cmp}
use Rattle.med_ini.specs.declared.names.Name.{Name}

any_map : {X Y : Type 0} (f : Y → Bool) (g : X → Y) (xs : List X)
    → list_any f (map g xs) ≡ list_any (λ (x : X). f (g x)) xs
any_map f g [] = refl
any_map f g (x ∷ xs) = ap (λ (b : Bool). f (g x) || b) (any_map f g xs)

any_same : {X : Type 0} (f g : X → Bool) → ((x : X) → f x ≡ g x) → (xs : List X)
    → list_any f xs ≡ list_any g xs
any_same f g same [] = refl
any_same f g same (x ∷ xs) = ap₂ (λ (a b : Bool). a || b) (same x) (any_same f g same xs)

is_eq_then : (a b : Ordering) → is_eq (ordering_then a b) ≡ (is_eq a && is_eq b)
is_eq_then Less b = refl
is_eq_then Equal b = refl
is_eq_then Greater b = refl

is_eq_bytes : (a b : Line) → is_eq (slice_cmp nat_cmp a b) ≡ bytes_eq b a
is_eq_bytes a b = is_eq-slice_cmp a b ∙ nat_list_eq_equiv.symm a b

-- a set of headers has a name where the list has it
pub header_held : (keys : List (Bor (List ℕ))) (name : Line)
    → list_any (is_at (λ (k : Bor (List ℕ)). slice_cmp nat_cmp name k.now)) keys
    ≡ list_any (λ seen. bytes_eq seen name) (map (λ (s : Bor (List ℕ)). s.now) keys)
header_held keys name =
    any_same (is_at (λ (k : Bor (List ℕ)). slice_cmp nat_cmp name k.now))
    (λ (k : Bor (List ℕ)). bytes_eq k.now name) (λ (k : Bor (List ℕ)). is_eq_bytes name k.now) keys
    ∙ sym (any_map (λ seen. bytes_eq seen name) (λ (s : Bor (List ℕ)). s.now) keys)

-- a set of options has a name where the list has it
pub option_held : (keys : List Name) (n : Name) → list_any (is_at (name_cmp n)) keys
    ≡ is_taken n.section.now (map named_view keys) (lower_key n)
option_held keys n =
    any_same (is_at (name_cmp n))
    (λ (x : Name). is_named n.section.now (lower_key n) (named_view x))
    (λ (x : Name).
    is_eq_then (slice_cmp nat_cmp n.section.now x.section.now)
    (slice_cmp nat_cmp (lower_key n) (lower_key x))
    ∙ ap₂ (λ (a b : Bool). a && b) (is_eq_bytes n.section.now x.section.now)
    (is_eq_bytes (lower_key n) (lower_key x))) keys
    ∙ sym (any_map (is_named n.section.now (lower_key n)) named_view keys)

first_last : (a b : Bool) → (a || b) ≡ (b || a)
first_last true true = refl
first_last true false = refl
first_last false true = refl
first_last false false = refl

once_more : (a b c : Bool) → c ≡ a → (a || b) ≡ ((a || b) || c)
once_more true b c e = refl
once_more false true c e = refl
once_more false false c e = sym e

behind_both : (a b c : Bool) → (a || (b || c)) ≡ ((a || b) || c)
behind_both true b c = refl
behind_both false b c = refl

-- a test that answers alike of equal keys, behind a key more
insert_step : {K : Type 0} (f : K → Bool) (k x : K) (keys rest : List K) (r : Ordering)
    → (r ≡ Equal → f k ≡ f x) → list_any f rest ≡ (list_any f keys || f k)
    → list_any f (match_ordering r (k ∷ x ∷ keys) (x ∷ keys) (x ∷ rest))
    ≡ ((f x || list_any f keys) || f k)
insert_step f k x keys rest Less same more = first_last (f k) (f x || list_any f keys)
insert_step f k x keys rest Equal same more =
    once_more (f x) (list_any f keys) (f k) (same refl)
insert_step f k x keys rest Greater same more =
    ap (λ (b : Bool). f x || b) more ∙ behind_both (f x) (list_any f keys) (f k)

any_insert : {K : Type 0} (cmp : K → K → Ordering) (f : K → Bool) (k : K)
    → ((x : K) → cmp k x ≡ Equal → f k ≡ f x) → (keys : List K)
    → list_any f (insert_key cmp keys k) ≡ (list_any f keys || f k)
any_insert cmp f k same [] = first_last (f k) false
any_insert cmp f k same (x ∷ keys) =
    insert_step f k x keys (insert_key cmp keys k) (cmp k x) (same x)
    (any_insert cmp f k same keys)

-- the same, with the key at the end of a list
any_pushed : {K V : Type 0} (cmp : K → K → Ordering) (view : K → V) (f : V → Bool) (k : K)
    → ((x : K) → cmp k x ≡ Equal → view k ≡ view x) → (old new : List K)
    → new ≡ insert_key cmp old k
    → list_any f (map view old ++ view k ∷ []) ≡ list_any f (map view new)
any_pushed {K} cmp view f k same old new is =
    list_any-append f (map view old) (view k ∷ [])
    ∙ ap₂ (λ (a b : Bool). a || b) (any_map f view old) (first_last (f (view k)) false)
    ∙ sym (any_insert cmp (λ (x : K). f (view x)) k
    (λ (x : K) e. ap f (same x e)) old)
    ∙ sym (any_map f view (insert_key cmp old k))
    ∙ ap (λ (ks : List K). list_any f (map view ks)) (sym is)

pub header_pushed : (old new : List (Bor (List ℕ))) (k : Bor (List ℕ))
    → new ≡ insert_key (λ (x y : Bor (List ℕ)). slice_cmp nat_cmp x.now y.now) old k
    → (name : Line)
    → list_any (λ seen. bytes_eq seen name) (map (λ (s : Bor (List ℕ)). s.now) old ++ k.now ∷ [])
    ≡ list_any (λ seen. bytes_eq seen name) (map (λ (s : Bor (List ℕ)). s.now) new)
header_pushed old new k is name =
    any_pushed (λ (x y : Bor (List ℕ)). slice_cmp nat_cmp x.now y.now)
    (λ (s : Bor (List ℕ)). s.now) (λ seen. bytes_eq seen name) k
    (λ (x : Bor (List ℕ)) e. exact_bytes k.now x.now e) old new is

pub option_pushed : (old new : List Name) (n : Name) → new ≡ insert_key name_cmp old n
    → (section key : Line)
    → is_taken section (map named_view old ++ named_view n ∷ []) key
    ≡ is_taken section (map named_view new) key
option_pushed old new n is section key =
    any_pushed name_cmp named_view (is_named section key) n
    (λ (x : Name) e. ap (λ (p : Line × Line). record { section = p.0; key = p.1 })
    (exact_pairs (slice_cmp nat_cmp) (slice_cmp nat_cmp) exact_bytes exact_bytes
    (n.section.now, lower_key n) (x.section.now, lower_key x) e)) old new is
