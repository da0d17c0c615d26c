-- What a caller of a shelf knows behind a claim and a place.
use Rattle.std.proofs.Common.{◌≡◌, ◌∙◌, zero, suc, ℕ, Bool, List, [], ◌∷◌, map, Option, Result, Ok, Err, refl, sym, ap, subst, arith}
use Rattle.std.specs.List.{Contains}
use Rattle.med_base.specs.declared.key.FileKey.{FileKey}
use Rattle.med_base.specs.Content.{Content}
use Rattle.med_base.proofs.Lists.{contains_map}
use Rattle.med_core.specs.declared.records.How.{How}
use Rattle.med_core.specs.Run.{running_after}
use Rattle.med_core.specs.Section.{Call, Claim, Ending}
use Rattle.med_index.specs.Modes.{is_differential}
use Rattle.med_outside.specs.declared.copy_fault.CopyFault.{CopyFault}
use Rattle.med_outside.specs.declared.mode.Mode.{Mode}
use Rattle.med_outside.specs.declared.trace.Trace.{Trace}
use Rattle.med_outside.specs.Makes.{Last, Sure, Unsure, is_unsure}
use Rattle.med_outside.specs.Snapshot.{Snapshot}
use Rattle.med_outside.specs.State.{State, History, IsReady}
use Rattle.med_outside.proofs.Passing.{ready_on}
use Rattle.med_shelf.specs.declared.errors.ClaimError.{ClaimError}
use Rattle.med_shelf.specs.declared.errors.ClaimError.TheVariants as error
use Rattle.med_shelf.specs.Acts.{Acts, ActsAsClaim}
use Rattle.med_shelf.specs.Claims.{claimed}
use Rattle.med_shelf.specs.Endings.{claim_ending}
use Rattle.med_shelf.specs.Places.{Places, RecordsFile}
use Rattle.med_shelf.specs.Shelf.{ClaimState, IsClaimOf, MayAct, ShelfState, running_of}
use Rattle.med_shelf.proofs.Acting.{place_runs}

-- ---- names and pairs

abbrev Pairs : Type 0
Pairs = List (List ℕ × List ℕ)

paired : (f : List ℕ) (names : List (List ℕ)) (n : List ℕ) → Contains names n
    → Contains {X = List ℕ × List ℕ} (map (λ m. (f, m)) names) (f, n)
paired f names n (i, less, is) =
    let pair : List ℕ → List ℕ × List ℕ = λ m. (f, m) in contains_map pair names i n less (sym is)

unpaired : (f : List ℕ) (names : List (List ℕ)) (n : List ℕ)
    → Contains {X = List ℕ × List ℕ} (map (λ m. (f, m)) names) (f, n) → Contains names n
unpaired f [] n (i, less, is) = absurd (omega (arith, less))
unpaired f (m ∷ names) n (zero, less, is) =
    (0, omega arith, ap (λ (p : List ℕ × List ℕ). p.1) is)
unpaired f (m ∷ names) n (suc i, less, is) =
    let (k, small, at) = unpaired f names n (i, omega (arith, less), is) in
    (suc k, omega (arith, small), at)

behind : {X : Type 0} (x y : X) (xs : List X) → Contains xs y → Contains (x ∷ xs) y
behind x y xs (i, less, is) = (suc i, omega (arith, less), is)

-- ---- any call

module _ (shelf shelf_now : ShelfState) (call : Call) (ending : Last → Ending)
    (fine fault : Type 0) (s0 s1 : State) (p0 p1 : History) (t0 t1 : Trace)
    (acts : Acts shelf shelf_now call ending fine fault s0 s1 p0 p1 t0 t1) where
  pub ready_after : IsReady shelf.layout s0 → IsReady shelf_now.layout s1
  ready_after ready =
      subst (λ layout. IsReady layout s1) (sym acts.layout_is)
      (ready_on shelf.layout _ s0 s1 p0 p1 acts.makes.moves ready)

  pub may_after : fine → MayAct shelf s0 t0 → MayAct shelf_now s1 t1
  may_after ok may = record {
    ready = ready_after may.ready;
    sure = acts.makes.records.unsure ∙ ap is_unsure (acts.makes.whole ok).0;
  }

-- a claim of a shelf is one of another shelf of the node on which as much runs
pub is_of : (a b : ShelfState) → b.layout ≡ a.layout → b.node ≡ a.node
    → ((m : List ℕ) → Contains (running_of a) (a.node, m) → Contains (running_of b) (a.node, m))
    → (claim : ClaimState) → IsClaimOf a claim → IsClaimOf b claim
is_of a b layout node on claim is = record {
  layout_is = is.layout_is ∙ sym layout;
  node_is = is.node_is ∙ sym node;
  runs = unpaired b.node b.running claim.name
      (subst (λ f. Contains (running_of b) (f, claim.name)) (sym node)
      (on claim.name (paired a.node a.running claim.name is.runs)));
}

-- ---- a claim

module _ (shelf shelf_now : ShelfState) (n : List ℕ) (d : Bool) (schema ring : List ℕ) where
  more_run : {T : Type 0} (result : Result T ClaimError) (last : Last)
      → running_of shelf_now
      ≡ running_after (running_of shelf) shelf.node (Claim n d schema ring)
      (claim_ending result last)
      → (m : List ℕ) → Contains (running_of shelf) (shelf.node, m)
      → Contains (running_of shelf_now) (shelf.node, m)
  more_run (Ok x) last is m runs =
      subst (λ (l : Pairs). Contains l (shelf.node, m)) (sym is)
      (behind (shelf.node, n) (shelf.node, m) (running_of shelf) runs)
  more_run (Err (error.Running name)) last is m runs =
      subst (λ (l : Pairs). Contains l (shelf.node, m)) (sym is) runs
  more_run (Err (error.Taken path)) last is m runs =
      subst (λ (l : Pairs). Contains l (shelf.node, m)) (sym is) runs
  more_run (Err error.Store) Sure is m runs =
      subst (λ (l : Pairs). Contains l (shelf.node, m)) (sym is) runs
  more_run (Err error.Store) (Unsure x took_effect) is m runs =
      subst (λ (l : Pairs). Contains l (shelf.node, m)) (sym is) runs
  more_run (Err error.Memory) last is m runs =
      subst (λ (l : Pairs). Contains l (shelf.node, m)) (sym is) runs

  module _ {T : Type 0} (s0 s1 : State) (p0 p1 : History) (t0 t1 : Trace) where
    -- the claims of the shelf stay claims of it
    pub others_stay : (result : Result T ClaimError)
        → ActsAsClaim shelf shelf_now (Claim n d schema ring) result s0 s1 p0 p1 t0 t1
        → (claim : ClaimState) → IsClaimOf shelf claim → IsClaimOf shelf_now claim
    others_stay result acts claim is =
        is_of shelf shelf_now acts.layout_is acts.node_is
        (more_run result acts.makes.last acts.running_is) claim is

-- a new claim is one of the shelf on which its name runs now
pub new_is_of : (shelf shelf_now : ShelfState) (n : List ℕ) (mode : Mode)
    → shelf_now.layout ≡ shelf.layout → shelf_now.node ≡ shelf.node
    → running_of shelf_now ≡ (shelf.node, n) ∷ running_of shelf → (claim : ClaimState)
    → claim ≡ claimed shelf n mode → IsClaimOf shelf_now claim
new_is_of shelf shelf_now n mode layout node runs claim is = record {
  layout_is = ap (λ (c : ClaimState). c.layout) is ∙ sym layout;
  node_is = ap (λ (c : ClaimState). c.node) is ∙ sym node;
  runs = subst (Contains shelf_now.running) (sym (ap (λ (c : ClaimState). c.name) is))
      (unpaired shelf_now.node shelf_now.running n
      (subst (λ f. Contains (running_of shelf_now) (f, n)) (sym node)
      (subst (λ (l : Pairs). Contains l (shelf.node, n)) (sym runs) (0, omega arith, refl))));
}

-- ---- a place

-- the claim is of the backup that it was
same_claim : (bytes : List ℕ) (told : Option Content) (key : FileKey) (claim now : ClaimState)
    (result : Result How CopyFault) → RecordsFile bytes told key claim now result
    → (now.layout ≡ claim.layout) × (now.node ≡ claim.node) × (now.name ≡ claim.name)
same_claim bytes told key claim now (Ok how) (r, how_is, is, recorded) = (
  ap (λ (c : ClaimState). c.layout) is,
  ap (λ (c : ClaimState). c.node) is,
  ap (λ (c : ClaimState). c.name) is,
)
same_claim bytes told key claim now (Err fault) is = (
  ap (λ (c : ClaimState). c.layout) is,
  ap (λ (c : ClaimState). c.node) is,
  ap (λ (c : ClaimState). c.name) is,
)

module _ (shelf shelf_now : ShelfState) (claim claim_now : ClaimState) (key : FileKey)
    (held : Option Snapshot) (result : Result How CopyFault) (s0 s1 : State) (p0 p1 : History)
    (t0 t1 : Trace)
    (places : Places shelf shelf_now claim claim_now key held result s0 s1 p0 p1 t0 t1) where
  pub ready_behind : IsReady shelf.layout s0 → IsReady shelf_now.layout s1
  ready_behind = ready_after shelf shelf_now _ _ _ _ s0 s1 p0 p1 t0 t1 places.acts

  -- the claim stays a claim of the shelf
  pub stays_of : IsClaimOf shelf claim → IsClaimOf shelf_now claim_now
  stays_of is =
      let (layout, node, name) =
      same_claim places.bytes s0.content key claim claim_now result places.records in
      let runs : running_of shelf_now ≡ running_of shelf =
      places.acts.running_is
      ∙ place_runs (running_of shelf) shelf.node claim.name (is_differential claim.mode) key places.bytes result
      places.acts.makes.last in
      let stays = is_of shelf shelf_now places.acts.layout_is places.acts.node_is
      (λ m there. subst (λ (l : Pairs). Contains l (shelf.node, m)) (sym runs) there) claim is in
      record {
        layout_is = layout ∙ stays.layout_is;
        node_is = node ∙ stays.node_is;
        runs = subst (Contains shelf_now.running) (sym name) stays.runs;
      }
