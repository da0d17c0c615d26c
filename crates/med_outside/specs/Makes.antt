-- A call that changes a storage: which list of changes it makes, how far it came, what it records.
use Rattle.std.specs.Prelude.{◌≡◌, ◌⊎◌, ◌++◌, ◌+◌, ◌-◌, ◌<◌, ◌^◌, ℕ, Bool, true, false, List, [], ◌∷◌, map, length, Option, Some, None, Result, IfOk, OnOk, OnErr, IsOk, Ok, Err, vec_len, vec_capacity}
use Rattle.med_base.specs.Classify.{is_data}
use Rattle.med_base.specs.Fingerprint.{fingerprint_of}
use Rattle.med_base.specs.Effects.{Effect, Stores, Removes}
use Rattle.med_outside.specs.State.{State, ChangesWithin, History}
use Rattle.med_outside.specs.declared.trace.Change.{Change}
use Rattle.med_outside.specs.declared.trace.Change.TheVariants.{Put, Delete}
use Rattle.med_outside.specs.declared.trace.Trace.{Trace}

-- for how many more changes a trace has memory
abbrev pub spare : Trace → ℕ
spare trace = vec_capacity trace.changes - vec_len trace.changes

-- the bytes of an object that isn't a data object
abbrev pub text_of : (is_data : Bool) → List ℕ → Option (List ℕ)
text_of true bytes = None
text_of false bytes = Some bytes

-- a change as it is recorded under a layout
abbrev pub seen : List ℕ → Effect → Change
seen layout (Stores path bytes second) =
    Put path (fingerprint_of bytes) (Some second) (text_of (is_data layout path) bytes)
seen layout (Removes path) = Delete path

-- the same of a change that answered `Failed`: its second isn't told
abbrev pub seen_unsure : List ℕ → Effect → Change
seen_unsure layout (Stores path bytes second) =
    Put path (fingerprint_of bytes) None (text_of (is_data layout path) bytes)
seen_unsure layout (Removes path) = Delete path

-- whether the change behind those that were made answered `Failed`, and whether it took effect
pub data Last : Type 0 where
  Sure : Last
  Unsure : (effect : Effect) (took_effect : Bool) → Last

abbrev pub tried : Last → List Effect
tried Sure = []
tried (Unsure x took_effect) = x ∷ []

abbrev pub took : Last → List Effect
took Sure = []
took (Unsure x true) = x ∷ []
took (Unsure x false) = []

abbrev pub is_unsure : Last → Bool
is_unsure Sure = false
is_unsure (Unsure x took_effect) = true

-- the trace has gained the changes that were made, and the unsure one
pub record Records (layout : List ℕ) (done : List Effect) (last : Last) (before after : Trace) :
    Type 0
  where
    pub changes : after.changes.items
        ≡ before.changes.items ++ (map (seen layout) done ++ map (seen_unsure layout) (tried last))
    pub unsure : after.unsure ≡ is_unsure last

-- Of the list the first changes were made, and perhaps the next one: all of them where the call is
-- fine. One is unsure only where the answer is a fault.
pub record Makes (fine fault : Type 0) (xs : List Effect) (old new : State)
    (stood_before stood_after : History) (before after : Trace) : Type 0
  where
    pub done : List Effect
    pub last : Last
    pub rest : List Effect
    pub split : xs ≡ done ++ (tried last ++ rest)
    pub moves : ChangesWithin (done ++ took last) old new stood_before stood_after
    pub records : Records old.terms.bucket.layout done last before after
    pub whole : fine → (last ≡ Sure) × (rest ≡ [])
    pub cause : is_unsure last ≡ true → fault

-- a change is unsure, or fewer than so many were recorded
abbrev pub IsShort : (size : ℕ) → (before after : Trace) → Type 0
IsShort size before after =
    (after.unsure ≡ true) ⊎ (length after.changes.items < length before.changes.items + size)

-- a refused call that makes so many changes didn't make all of them for sure
abbrev pub StopsShort : {T E : Type 0} → (size : ℕ) → Result T E → (before after : Trace) → Type 0
StopsShort size result before after = OnErr result (IsShort size before after)

-- The answer is this error. It computes, whatever the type of a value is.
abbrev pub IsError : {T E : Type 0} → Result T E → E → Type 0
IsError (Ok x) error = ⊥
IsError (Err x) error = x ≡ error

-- one object was stored, with the second that is answered, which has 64 bits; `fault` is the error of
-- a failure
abbrev pub MakesPut : {E : Type 0} → E → List ℕ → List ℕ → Result ℕ E → (old new : State)
    → (stood_before stood_after : History) → (before after : Trace) → Type 0
MakesPut fault path bytes result old new stood_before stood_after before after =
    (at : ℕ) × (at < 2 ^ 64) × IfOk result (λ second. second ≡ at)
    × Makes (IsOk result) (IsError result fault) (Stores path bytes at ∷ []) old new stood_before
    stood_after before after

-- one object was removed, or none had the path
abbrev pub MakesDelete : {T E : Type 0} → E → List ℕ → Result T E → (old new : State)
    → (stood_before stood_after : History) → (before after : Trace) → Type 0
MakesDelete fault path result old new stood_before stood_after before after =
    Makes (IsOk result) (IsError result fault) (Removes path ∷ []) old new stood_before stood_after
    before after
