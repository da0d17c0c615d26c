-- What the calls of a storage answer and leave.
use Rattle.std.specs.Prelude.{◌≡◌, ◌⊎◌, ◌<◌, ◌^◌, ℕ, List, [], ◌∷◌, map, length, Option, option_map, IfSome, Result, Ok, Err}
use Rattle.std.specs.FinMap.{get}
use Rattle.med_base.specs.Content.{Content, Object, objects_under}
use Rattle.med_base.specs.Fingerprint.{fingerprint_of}
use Rattle.med_base.specs.Effects.{Stores, Removes}
use Rattle.med_outside.specs.State.{State, ChangesOnce, History}
use Rattle.med_outside.specs.declared.denied.Denied.{Denied}
use Rattle.med_outside.specs.declared.denied.Denied.TheVariants.{Failed, Memory}
use Rattle.med_outside.specs.declared.storage.Entry.{Entry}
use Rattle.med_outside.specs.declared.storage.Stat.{Stat}

-- a number is what is told
abbrev pub IsToldAs : Option ℕ → ℕ → Type 0
IsToldAs told n = IfSome told (λ m. n ≡ m)

-- an object as a listing has it
abbrev pub entry_of : List ℕ × Object → Entry
entry_of e = record { path = e.0; size = length e.1.bytes; second = e.1.second }

-- the objects under a text, in byte order of their paths
abbrev pub listing : List ℕ → Content → List Entry
listing text c = map entry_of (objects_under text c)

-- what a look at an object tells
abbrev pub stat_of : Object → Stat
stat_of o = record { fingerprint = fingerprint_of o.bytes; second = o.second }

abbrev pub AnswersStat : List ℕ → Option Content → Option Stat → Type 0
AnswersStat path told answer = IfSome told (λ c. answer ≡ option_map stat_of (get c path))

abbrev pub AnswersBytes : List ℕ → Option Content → Option (List ℕ) → Type 0
AnswersBytes path told answer =
    IfSome told (λ c. answer ≡ option_map (λ (o : Object). o.bytes) (get c path))

-- the object was stored with this second
abbrev pub Put : (path bytes : List ℕ) → (old new : State) → (stood_before stood_after : History)
    → ℕ → Type 0
Put path bytes old new stood_before stood_after at =
    ChangesOnce (Stores path bytes at ∷ []) old new stood_before stood_after

-- after a failure: nothing changed, or the object was stored, with a second of 64 bits
abbrev pub MayPut : List ℕ → List ℕ → (old new : State) → (stood_before stood_after : History)
    → Type 0
MayPut path bytes old new stood_before stood_after =
    ChangesOnce [] old new stood_before stood_after
    ⊎ ((at : ℕ) × (at < 2 ^ 64) × Put path bytes old new stood_before stood_after at)

-- what a put leaves, by its answer; where there is no memory nothing changed
abbrev pub AnswersPut : (path bytes : List ℕ) → Result ℕ Denied → (old new : State)
    → (stood_before stood_after : History) → Type 0
AnswersPut path bytes (Ok at) old new stood_before stood_after =
    Put path bytes old new stood_before stood_after at
AnswersPut path bytes (Err Failed) old new stood_before stood_after =
    MayPut path bytes old new stood_before stood_after
AnswersPut path bytes (Err Memory) old new stood_before stood_after =
    ChangesOnce [] old new stood_before stood_after

-- the object was removed, if there was one
abbrev pub Delete : List ℕ → (old new : State) → (stood_before stood_after : History) → Type 0
Delete path old new stood_before stood_after =
    ChangesOnce (Removes path ∷ []) old new stood_before stood_after

-- after a failure: nothing changed, or the object was removed
abbrev pub MayDelete : List ℕ → (old new : State) → (stood_before stood_after : History) → Type 0
MayDelete path old new stood_before stood_after =
    ChangesOnce [] old new stood_before stood_after ⊎ Delete path old new stood_before stood_after

-- what a delete leaves, by its answer; there is no memory only where there is no room, or none is
-- told, and then nothing changed
abbrev pub AnswersDelete : {T : Type 0} → List ℕ → Result T Denied → (old new : State)
    → (stood_before stood_after : History) → Type 0
AnswersDelete path (Ok x) old new stood_before stood_after =
    Delete path old new stood_before stood_after
AnswersDelete path (Err Failed) old new stood_before stood_after =
    MayDelete path old new stood_before stood_after
AnswersDelete path (Err Memory) old new stood_before stood_after =
    ChangesOnce [] old new stood_before stood_after × IfSome old.room (λ room. room ≡ 0)
