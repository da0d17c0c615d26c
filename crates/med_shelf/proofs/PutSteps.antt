-- The puts of a claim in a row.
use Rattle.std.proofs.Common.{◌≡◌, ◌<◌, ◌^◌, ◌+◌, zero, suc, ℕ, Bool, true, false, List, [], ◌∷◌, ◌++◌, length, inr, refl, sym, ap, subst, arith, append_assoc}
use Rattle.std.specs.Prelude.{if◌then◌else◌}
use Rattle.med_base.specs.declared.layout.MetaKind.TheVariants.{Schema, Differential, Tokenmap}
use Rattle.med_base.specs.Effects.{Effect, Stores}
use Rattle.med_base.specs.Layout.{meta_path}
use Rattle.med_core.specs.Claim.{changes_of_claim}
use Rattle.med_manifest.specs.EntryPuts.{start_puts}
use Rattle.med_outside.specs.declared.trace.Trace.{Trace}
use Rattle.med_outside.specs.Makes.{IsShort, Makes}
use Rattle.med_outside.specs.State.{State, History}
use Rattle.med_outside.proofs.Making.{cut_short, gained, gained_all, in_turn, short_behind, told_as}

-- the seconds of the puts in a row
abbrev seconds_of : (first mark last : ℕ) (entries : ℕ → ℕ) → ℕ → ℕ
seconds_of first mark last entries zero = first
seconds_of first mark last entries (suc zero) = mark
seconds_of first mark last entries (suc (suc zero)) = last
seconds_of first mark last entries (suc (suc (suc i))) = entries i

-- how many puts a claim has, and how many of them are entries
abbrev pub size : Bool → ℕ
size d = if d then 6 else 4

abbrev pub entry_size : Bool → ℕ
entry_size d = if d then 3 else 2

module _ (before f n : List ℕ) (d : Bool) (schema ring : List ℕ) where
  -- the puts of what tells of the backup
  abbrev pub objects : (first mark last : ℕ) → List Effect
  objects first mark last =
      Stores (meta_path before f n Schema) schema first
      ∷ ((if d then Stores (meta_path before f n Differential) [] mark ∷ [] else [])
      ++ Stores (meta_path before f n Tokenmap) ring last ∷ [])

  list_is : (first mark last : ℕ) (entries : ℕ → ℕ)
      → changes_of_claim before f n d schema ring (seconds_of first mark last entries)
      ≡ objects first mark last ++ start_puts before f n d ring first entries
  list_is first mark last entries =
      ap (λ l. Stores (meta_path before f n Schema) schema first ∷ l)
      (sym (append_assoc
      (if d then Stores (meta_path before f n Differential) [] mark ∷ [] else [])
      (Stores (meta_path before f n Tokenmap) ring last ∷ [])
      (start_puts before f n d ring first entries)))

  -- a Makes of a claim's list, with the seconds of its puts
  abbrev pub MakesClaim : (fine fault : Type 0) (s0 s1 : State) (p0 p1 : History) (t0 t1 : Trace)
      → Type 0
  MakesClaim fine fault s0 s1 p0 p1 t0 t1 =
      (seconds : ℕ → ℕ) × (seconds 0 < 2 ^ 64)
      × Makes fine fault (changes_of_claim before f n d schema ring seconds) s0 s1 p0 p1 t0 t1

  module _ (first mark last : ℕ) (fits : first < 2 ^ 64) (fine fault : Type 0) (s0 s1 : State)
      (p0 p1 : History) (t0 t1 : Trace)
      (told : Makes fine fault (objects first mark last) s0 s1 p0 p1 t0 t1) where
    -- what tells of the backup wasn't put
    pub objects_refused : (fine' fault' : Type 0) → (fine' → ⊥) → (fault → fault')
        → MakesClaim fine' fault' s0 s1 p0 p1 t0 t1
    objects_refused fine' fault' not_fine blames = (
      seconds_of first mark last (λ i. 0),
      fits,
      subst (λ (l : List Effect). Makes fine' fault' l s0 s1 p0 p1 t0 t1)
          (sym (list_is first mark last (λ i. 0)))
          (cut_short fine fault fine' fault' (objects first mark last)
          (start_puts before f n d ring first (λ i. 0)) s0 s1 p0 p1 t0 t1 not_fine blames told),
    )

    -- it was, and then the entries were put or not
    pub entries_behind : fine → (fine' fault' fine'' fault'' : Type 0) → (fine'' → fine')
        → (fault' → fault'') → (s2 : State) (p2 : History) (t2 : Trace) (second : ℕ)
        → second ≡ first → (entries : ℕ → ℕ)
        → Makes fine' fault' (start_puts before f n d ring second entries) s1 s2 p1 p2 t1 t2
        → MakesClaim fine'' fault'' s0 s2 p0 p2 t0 t2
    entries_behind ok fine' fault' fine'' fault'' back blames s2 p2 t2 second same entries more = (
      seconds_of first mark last entries,
      fits,
      subst (λ (l : List Effect). Makes fine'' fault'' l s0 s2 p0 p2 t0 t2)
          (sym (list_is first mark last entries))
          (in_turn fine fault fine'' fault'' (objects first mark last)
          (start_puts before f n d ring first entries) s0 s1 s2 p0 p1 p2 t0 t1 t2 ok told
          (told_as fine' fault' fine'' fault'' (start_puts before f n d ring first entries) s1 s2
          p1 p2 t1 t2 back blames
          (subst (λ (m : ℕ). Makes fine' fault' (start_puts before f n d ring m entries) s1 s2 p1
          p2 t1 t2) same more))),
    )

-- what tells of the backup and the entries are all puts of a claim
all_counted : (before f n : List ℕ) (d : Bool) (schema ring : List ℕ) (first mark last : ℕ)
    → length (objects before f n d schema ring first mark last) + entry_size d ≡ size d
all_counted before f n true schema ring first mark last = refl
all_counted before f n false schema ring first mark last = refl

some_entries : (d : Bool) → 0 < entry_size d
some_entries true = omega arith
some_entries false = omega arith

module _ (before f n : List ℕ) (d : Bool) (schema ring : List ℕ) (first mark last : ℕ)
    (fine fault : Type 0) (s0 s1 : State) (p0 p1 : History) (t0 t1 : Trace)
    (told : Makes fine fault (objects before f n d schema ring first mark last) s0 s1 p0 p1 t0 t1)
  where
    -- fewer were recorded than a claim has
    pub objects_short : IsShort (size d) t0 t1
    objects_short =
        inr (omega (
          arith,
          gained fine fault (objects before f n d schema ring first mark last) s0 s1
              p0 p1 t0 t1 told,
          all_counted before f n d schema ring first mark last,
          some_entries d,
        ))

    pub entries_short : fine → (t2 : Trace) → IsShort (entry_size d) t1 t2 → IsShort (size d) t0 t2
    entries_short ok t2 short =
        short_behind (size d) t0 t1 t2
        (length (objects before f n d schema ring first mark last)) (entry_size d)
        (gained_all fine fault (objects before f n d schema ring first mark last) s0 s1 p0 p1 t0 t1
        ok told) (omega (arith, all_counted before f n d schema ring first mark last)) short
