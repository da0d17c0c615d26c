-- Calls of a shelf in a row, with one call more.
use Rattle.std.proofs.Common.{◌≡◌, ◌∙◌, ◌++◌, ℕ, true, false, List, [], ◌∷◌, append_assoc, append-nil, Some, None, Result, Ok, Err, IsOk, refl, sym, ap, subst}
use Rattle.med_base.specs.Classify.{kind_of}
use Rattle.med_base.specs.Content.{Content}
use Rattle.med_base.specs.Effects.{Effect, Removes, Stores, applied}
use Rattle.med_base.specs.Kinds.{Entry, Kind, Latest, Meta, Other, Own, Shared, Stray}
use Rattle.med_base.specs.Part.{node_part}
use Rattle.med_base.proofs.Lists.{all_with}
use Rattle.med_core.specs.Reach.{AreWithin, MayChange, MayRemove, Removing}
use Rattle.med_core.specs.Run.{IsRun, effects, effects_of, next_content, next_running}
use Rattle.med_core.specs.Section.{Abandon, Call, Claim, Event, Finish, IsSection, Place, Rebuild, Remove, Running}
use Rattle.med_outside.specs.declared.copy_fault.CopyFault.{CopyFault}
use Rattle.med_outside.specs.declared.copy_fault.CopyFault.TheVariants as fault
use Rattle.med_outside.specs.Makes.{IsError, Last, Sure, Unsure, is_unsure, took}
use Rattle.med_outside.proofs.Passing.{applied-append}
use Rattle.med_shelf.specs.declared.errors.ClaimError.{ClaimError}
use Rattle.med_shelf.specs.declared.errors.ClaimError.TheVariants as error
use Rattle.med_shelf.specs.Endings.{claim_ending, copy_ending}
use Rattle.med_backup.specs.Sections.{AreDone, all_effects, running_through}

-- ---- lists of events

-- calls that were done, and others behind them
pub done_on : (f : List ℕ) (cs ds : List Call) (es gs : List Event) → AreDone f cs es
    → AreDone f ds gs → AreDone f (cs ++ ds) (es ++ gs)
done_on f [] ds [] gs front back = back
done_on f [] ds (e ∷ es) gs front back = absurd front
done_on f (c ∷ cs) ds [] gs front back = absurd front
done_on f (c ∷ cs) ds (e ∷ es) gs (node, call, ending, front) back =
    (node, call, ending, done_on f cs ds es gs front back)

-- the running names behind one event more
pub running_on : (running : Running) (es : List Event) (e : Event)
    → running_through running (es ++ e ∷ []) ≡ next_running (running_through running es) e
running_on running [] e = refl
running_on running (x ∷ es) e = running_on (next_running running x) es e

-- the changes of one event more
pub effects_on : (es : List Event) (e : Event) → all_effects (es ++ e ∷ []) ≡ all_effects es ++ effects e
effects_on [] e = append-nil (effects e)
effects_on (x ∷ es) e =
    ap (λ l. effects x ++ l) (effects_on es e)
    ∙ sym (append_assoc (effects x) (all_effects es) (effects e))

-- a run, and a section behind it
pub run_on : (before : List ℕ) (c : Content) (running : Running) (es : List Event) (e : Event)
    → IsRun before c running es
    → IsSection before (node_part before e.node (applied (all_effects es) c))
    (running_through running es) e
    → IsRun before c running (es ++ e ∷ [])
run_on before c running [] e run section = (section, tt)
run_on before c running (x ∷ es) e run section = (
  run.0,
  run_on before (next_content c x) (next_running running x) es e run.1
      (subst (λ (d : Content). IsSection before (node_part before e.node d)
      (running_through (next_running running x) es) e)
      (applied-append (effects x) (all_effects es) c) section),
)

-- the same of many events more
pub all_effects_on : (es gs : List Event) → all_effects (es ++ gs) ≡ all_effects es ++ all_effects gs
all_effects_on [] gs = refl
all_effects_on (e ∷ es) gs =
    ap (λ l. effects e ++ l) (all_effects_on es gs)
    ∙ sym (append_assoc (effects e) (all_effects es) (all_effects gs))

pub all_running_on : (running : Running) (es gs : List Event)
    → running_through running (es ++ gs) ≡ running_through (running_through running es) gs
all_running_on running [] gs = refl
all_running_on running (e ∷ es) gs = all_running_on (next_running running e) es gs

pub runs_on : (before : List ℕ) (c : Content) (running : Running) (es gs : List Event)
    → IsRun before c running es
    → IsRun before (applied (all_effects es) c) (running_through running es) gs
    → IsRun before c running (es ++ gs)
runs_on before c running [] gs run more = more
runs_on before c running (e ∷ es) gs run more = (
  run.0,
  runs_on before (next_content c e) (next_running running e) es gs run.1
      (subst (λ (d : Content). IsRun before d (running_through (next_running running e) es) gs)
      (applied-append (effects e) (all_effects es) c) more),
)

-- ---- which paths

-- the call removes nothing of a backup
abbrev pub NoRemoval : Call → Type 0
NoRemoval (Remove names grace now) = ⊥
NoRemoval _ = Unit {0}

no_name : (call : Call) → NoRemoval call → (n : List ℕ) → Removing call n → ⊥
no_name (Claim m d schema ring) is n never = never
no_name (Place m d key bytes) is n never = never
no_name (Finish m d records) is n never = never
no_name (Abandon m) is n never = never
no_name (Remove names grace now) is n never = is
no_name Rebuild is n never = never

may_remove : (f : List ℕ) (call : Call) → NoRemoval call → (k : Kind) → MayRemove f call k
    → MayRemove f Rebuild k
may_remove f call is (Shared g key) may = may
may_remove f call is (Own g n key) may = absurd (no_name call is n may.1)
may_remove f call is (Meta g n kind) may = absurd (no_name call is n may.1)
may_remove f call is (Entry g n kind) may = may
may_remove f call is (Latest g kind) may = may
may_remove f call is (Stray g (Some n)) may = absurd (no_name call is n may.1)
may_remove f call is (Stray g None) may = may
may_remove f call is Other may = may

may_change : (before f : List ℕ) (call : Call) → NoRemoval call → (x : Effect)
    → MayChange before f call x → MayChange before f Rebuild x
may_change before f call is (Stores path bytes second) may = may
may_change before f call is (Removes path) may = may_remove f call is (kind_of before path) may

pub within_any : (before f : List ℕ) (call : Call) → NoRemoval call → (xs : List Effect)
    → AreWithin before f call xs → AreWithin before f Rebuild xs
within_any before f call is xs within =
    all_with (MayChange before f call) (MayChange before f Rebuild) (may_change before f call is) xs
    within

-- ---- what took effect

-- by the answer of a place and of a finish
pub copy_effects : {T : Type 0} (result : Result T CopyFault) (done : List Effect) (last : Last)
    → (IsOk result → last ≡ Sure) → (is_unsure last ≡ true → IsError result fault.Store)
    → effects_of (copy_ending result last) done ≡ done ++ took last
copy_effects (Ok x) done last whole cause =
    sym (append-nil done) ∙ ap (λ l. done ++ took l) (sym (whole refl))
copy_effects (Err fault.Snap) done Sure whole cause = sym (append-nil done)
copy_effects (Err fault.Snap) done (Unsure x took_effect) whole cause =
    let is : fault.Snap ≡ fault.Store = cause refl in absurd (cc is)
copy_effects (Err fault.Memory) done Sure whole cause = sym (append-nil done)
copy_effects (Err fault.Memory) done (Unsure x took_effect) whole cause =
    let is : fault.Memory ≡ fault.Store = cause refl in absurd (cc is)
copy_effects (Err fault.Store) done Sure whole cause = sym (append-nil done)
copy_effects (Err fault.Store) done (Unsure x true) whole cause = refl
copy_effects (Err fault.Store) done (Unsure x false) whole cause = sym (append-nil done)

-- by the answer of a claim
pub claim_effects : {T : Type 0} (result : Result T ClaimError) (done : List Effect) (last : Last)
    → (IsOk result → last ≡ Sure) → (is_unsure last ≡ true → IsError result error.Store)
    → effects_of (claim_ending result last) done ≡ done ++ took last
claim_effects (Ok x) done last whole cause =
    sym (append-nil done) ∙ ap (λ l. done ++ took l) (sym (whole refl))
claim_effects (Err (error.Running name)) done Sure whole cause = sym (append-nil done)
claim_effects (Err (error.Running name)) done (Unsure x took_effect) whole cause =
    let is : error.Running name ≡ error.Store = cause refl in absurd (cc is)
claim_effects (Err (error.Taken path)) done Sure whole cause = sym (append-nil done)
claim_effects (Err (error.Taken path)) done (Unsure x took_effect) whole cause =
    let is : error.Taken path ≡ error.Store = cause refl in absurd (cc is)
claim_effects (Err error.Memory) done Sure whole cause = sym (append-nil done)
claim_effects (Err error.Memory) done (Unsure x took_effect) whole cause =
    let is : error.Memory ≡ error.Store = cause refl in absurd (cc is)
claim_effects (Err error.Store) done Sure whole cause = sym (append-nil done)
claim_effects (Err error.Store) done (Unsure x true) whole cause = refl
claim_effects (Err error.Store) done (Unsure x false) whole cause = sym (append-nil done)
