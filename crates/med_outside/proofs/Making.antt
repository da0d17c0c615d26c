-- Calls in a row that change a storage: which list they make together.
use Rattle.std.proofs.Common.{◌≡◌, ◌⊎◌, inl, inr, ◌≤◌, ◌<◌, ◌+◌, ◌^◌, ℕ, Bool, true, false, List, [], ◌∷◌, ◌++◌, map, length, length-append, Option, Some, None, Result, Ok, Err, IsOk, refl, sym, ap, ◌∙◌, arith, append_assoc, append-nil, subst}
use Rattle.std.proofs.lemmas.List.{length-map}
use Rattle.med_base.specs.Effects.{Effect, Stores, Removes, after_all}
use Rattle.med_outside.specs.State.{State, ChangesWithin, ChangesOnce, History}
use Rattle.med_outside.specs.Storage.{Put, MayPut, Delete, MayDelete}
use Rattle.med_outside.specs.Makes.{IsShort, Last, Sure, Unsure, tried, took, is_unsure, seen, seen_unsure, Records, Makes}
use Rattle.med_outside.specs.declared.trace.Trace.{Trace}
use Rattle.med_outside.specs.declared.trace.Change.{Change}
use Rattle.med_outside.proofs.Passing.{moves_on}

map-append : {A B : Type 0} (f : A → B) (xs ys : List A) → map f (xs ++ ys) ≡ map f xs ++ map f ys
map-append f [] ys = refl
map-append f (x ∷ xs) ys = ap (λ l. f x ∷ l) (map-append f xs ys)

module _ (layout : List ℕ) where
  records_on : (xs ys : List Effect) (last : Last) (t0 t1 t2 : Trace) → Records layout xs Sure t0 t1
      → Records layout ys last t1 t2 → Records layout (xs ++ ys) last t0 t2
  records_on xs ys last t0 t1 t2 a b = record {
    changes =
        let first = a.changes
        ∙ ap (λ l. t0.changes.items ++ l) (append-nil (map (seen layout) xs)) in
        let end = map (seen_unsure layout) (tried last) in
        b.changes
        ∙ ap (λ l. l ++ (map (seen layout) ys ++ end)) first
        ∙ append_assoc t0.changes.items (map (seen layout) xs) (map (seen layout) ys ++ end)
        ∙ ap (λ l. t0.changes.items ++ l)
        (sym (append_assoc (map (seen layout) xs) (map (seen layout) ys) end)
        ∙ ap (λ l. l ++ end) (sym (map-append (seen layout) xs ys)));
    unsure = b.unsure;
  }

  records_nothing : (t0 t1 : Trace) → t1.changes.items ≡ t0.changes.items → t1.unsure ≡ false
      → Records layout [] Sure t0 t1
  records_nothing t0 t1 same sure =
      record { changes = same ∙ sym (append-nil t0.changes.items); unsure = sure }

-- how many changes were recorded, and how many are left
pub gained : (fine fault : Type 0) (xs : List Effect) (s0 s1 : State) (p0 p1 : History)
    (t0 t1 : Trace) → (m : Makes fine fault xs s0 s1 p0 p1 t0 t1)
    → length t1.changes.items + length m.rest ≡ length t0.changes.items + length xs
gained fine fault xs s0 s1 p0 p1 t0 t1 m =
    let layout = s0.terms.bucket.layout in
    let done = map (seen layout) m.done in
    let unsure = map (seen_unsure layout) (tried m.last) in
    omega (
      arith,
      ap length m.records.changes,
      length-append t0.changes.items (done ++ unsure),
      length-append done unsure,
      length-map m.done (seen layout),
      length-map (tried m.last) (seen_unsure layout),
      ap length m.split,
      length-append m.done (tried m.last ++ m.rest),
      length-append (tried m.last) m.rest,
    )

-- a refused call behind one that recorded so many changes
pub short_behind : (size : ℕ) (t0 t1 t2 : Trace) (first later : ℕ)
    → length t1.changes.items ≡ length t0.changes.items + first → first + later ≤ size
    → IsShort later t1 t2 → IsShort size t0 t2
short_behind size t0 t1 t2 first later gain fits short = elim short [
  | inl unsure ↦ inl unsure
  | inr less ↦ inr (omega (arith, less, gain, fits))
]

-- a call that is fine made the whole list
pub all_made : (fine fault : Type 0) (xs : List Effect) (s0 s1 : State) (p0 p1 : History)
    (t0 t1 : Trace) → fine → (m : Makes fine fault xs s0 s1 p0 p1 t0 t1) → xs ≡ m.done
all_made fine fault xs s0 s1 p0 p1 t0 t1 ok m =
    let ended = m.whole ok in
    m.split ∙ ap (λ l. m.done ++ (tried l ++ m.rest)) ended.0 ∙ ap (λ l. m.done ++ l) ended.1
    ∙ append-nil m.done

-- a call that is fine recorded the whole list
pub gained_all : (fine fault : Type 0) (xs : List Effect) (s0 s1 : State) (p0 p1 : History)
    (t0 t1 : Trace) → fine → Makes fine fault xs s0 s1 p0 p1 t0 t1
    → length t1.changes.items ≡ length t0.changes.items + length xs
gained_all fine fault xs s0 s1 p0 p1 t0 t1 ok m =
    omega (arith, gained fine fault xs s0 s1 p0 p1 t0 t1 m, ap length (m.whole ok).1)

-- a call that is fine, and a call after it
pub in_turn : (fine fault fine' fault' : Type 0) (xs ys : List Effect) (s0 s1 s2 : State)
    (p0 p1 p2 : History) (t0 t1 t2 : Trace) → fine → Makes fine fault xs s0 s1 p0 p1 t0 t1
    → Makes fine' fault' ys s1 s2 p1 p2 t1 t2 → Makes fine' fault' (xs ++ ys) s0 s2 p0 p2 t0 t2
in_turn fine fault fine' fault' xs ys s0 s1 s2 p0 p1 p2 t0 t1 t2 ok a b =
    let ended = a.whole ok in
    let all = all_made fine fault xs s0 s1 p0 p1 t0 t1 ok a in
    let moved : ChangesWithin a.done s0 s1 p0 p1 = rw (← append-nil a.done) (rw ended.0 at a.moves) in
    let noted : Records s0.terms.bucket.layout a.done Sure t0 t1 = rw ended.0 at a.records in
    record {
      done = a.done ++ b.done;
      last = b.last;
      rest = b.rest;
      split = ap (λ l. l ++ ys) all ∙ ap (λ l. a.done ++ l) b.split
          ∙ sym (append_assoc a.done b.done (tried b.last ++ b.rest));
      moves = rw (append_assoc a.done b.done (took b.last))
          (moves_on a.done (b.done ++ took b.last) s0 s1 s2 p0 p1 p2 moved b.moves);
      records = records_on s0.terms.bucket.layout a.done b.done b.last t0 t1 t2 noted
          (rw a.moves.terms at b.records);
      whole = b.whole;
      cause = b.cause;
    }

-- a call that isn't fine, in place of a longer list
pub cut_short : (fine fault fine' fault' : Type 0) (xs ys : List Effect) (s0 s1 : State)
    (p0 p1 : History) (t0 t1 : Trace) → (fine' → ⊥) → (fault → fault')
    → Makes fine fault xs s0 s1 p0 p1 t0 t1 → Makes fine' fault' (xs ++ ys) s0 s1 p0 p1 t0 t1
cut_short fine fault fine' fault' xs ys s0 s1 p0 p1 t0 t1 not_fine blames a = record {
  done = a.done;
  last = a.last;
  rest = a.rest ++ ys;
  split = ap (λ l. l ++ ys) a.split ∙ append_assoc a.done (tried a.last ++ a.rest) ys
      ∙ ap (λ l. a.done ++ l) (append_assoc (tried a.last) a.rest ys);
  moves = a.moves;
  records = a.records;
  whole = λ fine. absurd (not_fine fine);
  cause = λ unsure. blames (a.cause unsure);
}

-- the same changes, under another answer
pub told_as : (fine fault fine' fault' : Type 0) (xs : List Effect) (s0 s1 : State)
    (p0 p1 : History) (t0 t1 : Trace) → (fine' → fine) → (fault → fault')
    → Makes fine fault xs s0 s1 p0 p1 t0 t1 → Makes fine' fault' xs s0 s1 p0 p1 t0 t1
told_as fine fault fine' fault' xs s0 s1 p0 p1 t0 t1 back blames a = record {
  done = a.done;
  last = a.last;
  rest = a.rest;
  split = a.split;
  moves = a.moves;
  records = a.records;
  whole = λ fine. a.whole (back fine);
  cause = λ unsure. blames (a.cause unsure);
}

module _ (fine fault : Type 0) (s0 s1 : State) (p0 p1 : History) (t0 t1 : Trace) where
  -- a call that changed nothing, in place of any list that isn't made
  pub nothing_yet : (xs : List Effect) → (fine → xs ≡ [])
      → t1.changes.items ≡ t0.changes.items → t1.unsure ≡ false → ChangesWithin [] s0 s1 p0 p1
      → Makes fine fault xs s0 s1 p0 p1 t0 t1
  nothing_yet xs none same sure m = record {
    done = [];
    last = Sure;
    rest = xs;
    split = refl;
    moves = m;
    records = records_nothing s0.terms.bucket.layout t0 t1 same sure;
    whole = λ fine. (refl, none fine);
    cause = λ unsure. absurd (cc);
  }

  -- one change that was made
  pub one_made : (x : Effect)
      → t1.changes.items ≡ t0.changes.items ++ seen s0.terms.bucket.layout x ∷ []
      → t1.unsure ≡ false → ChangesWithin (x ∷ []) s0 s1 p0 p1
      → Makes fine fault (x ∷ []) s0 s1 p0 p1 t0 t1
  one_made x more sure m = record {
    done = x ∷ [];
    last = Sure;
    rest = [];
    split = refl;
    moves = m;
    records = record { changes = more; unsure = sure };
    whole = λ fine. (refl, refl);
    cause = λ unsure. absurd (cc);
  }

  -- one change that answered `Failed`
  pub one_unsure : (x : Effect) (took_effect : Bool) → (fine → ⊥) → fault
      → t1.changes.items ≡ t0.changes.items ++ seen_unsure s0.terms.bucket.layout x ∷ []
      → t1.unsure ≡ true → ChangesWithin (took (Unsure x took_effect)) s0 s1 p0 p1
      → Makes fine fault (x ∷ []) s0 s1 p0 p1 t0 t1
  one_unsure x took_effect not_fine blame more unsure m = record {
    done = [];
    last = Unsure x took_effect;
    rest = [];
    split = refl;
    moves = m;
    records = record { changes = more; unsure = unsure };
    whole = λ fine. absurd (not_fine fine);
    cause = λ e. blame;
  }

  -- a put that answered `Failed`
  pub put_unsure : (path bytes : List ℕ) → (fine → ⊥) → fault
      → ((at : ℕ) → t1.changes.items
      ≡ t0.changes.items ++ seen_unsure s0.terms.bucket.layout (Stores path bytes at) ∷ [])
      → t1.unsure ≡ true → MayPut path bytes s0 s1 p0 p1
      → (at : ℕ) × (at < 2 ^ 64)
      × Makes fine fault (Stores path bytes at ∷ []) s0 s1 p0 p1 t0 t1
  put_unsure path bytes not_fine blame more unsure may = elim may [
    | inl m ↦ (
      0,
      omega arith,
      one_unsure (Stores path bytes 0) false not_fine blame (more 0) unsure m.moves,
    )
    | inr (at, fits, p) ↦ (
      at,
      fits,
      one_unsure (Stores path bytes at) true not_fine blame (more at) unsure p.moves,
    )
  ]

  -- a delete that answered `Failed`
  pub delete_unsure : (path : List ℕ) → (fine → ⊥) → fault
      → t1.changes.items
      ≡ t0.changes.items ++ seen_unsure s0.terms.bucket.layout (Removes path) ∷ []
      → t1.unsure ≡ true → MayDelete path s0 s1 p0 p1
      → Makes fine fault (Removes path ∷ []) s0 s1 p0 p1 t0 t1
  delete_unsure path not_fine blame more unsure may = elim may [
    | inl m ↦ one_unsure (Removes path) false not_fine blame more unsure m.moves
    | inr d ↦ one_unsure (Removes path) true not_fine blame more unsure d.moves
  ]
