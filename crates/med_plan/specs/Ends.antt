-- How a call ends, said once for all commands: its plan has its steps in their working order.
use Rattle.std.specs.Prelude.{◌≡◌, ◌⊎◌, ℕ, List, [], ◌∷◌, Result, Ok, Err, MatchResult}
use Rattle.med_outside.specs.Device.{Device}

-- what a command refuses, with the texts that it tells
pub data Refusal : Type 0 where
  -- the words ask for nothing
  BadWords : (text : List ℕ) → Refusal
  -- the command isn't built
  NotBuilt : (word : List ℕ) → Refusal
  -- there is no configuration
  BadConfig : (text : List ℕ) → Refusal
  -- an object of this path lies under the folder of the backup's name
  Taken : (name path : List ℕ) → Refusal
  -- the snapshot for the backup of this name has no key
  NoSnapshot : (name : List ℕ) → Refusal
  -- the key at this place of the snapshot's list has a part that is no component
  BadFileName : (at : ℕ) → Refusal
  -- the token map of the snapshot can't be read, of which the text tells the cause
  BadRing : (text : List ℕ) → Refusal
  -- the token map of the snapshot lacks this host
  NotInRing : (host : List ℕ) → Refusal
  -- a backup of this name runs already
  Running : (name : List ℕ) → Refusal
  -- the manifest under this path, which is a finished backup's, doesn't read
  BadManifest : (path : List ℕ) → Refusal

-- why a call ended before its last step
pub data Stop : Type 0 where
  Refused : Refusal → Stop
  Failed : Device → Stop

-- A step answers a value or a refusal, of which the first holds, or one of its devices fails. Where
-- the call ends there, it leaves what the third says. The rest may depend on the value. A call that
-- ends well answers `result`, and leaves what `good` says. What is left is said in words of `W`.
pub data Plan (W : Type 1) (R : Type 0) : Type 1 where
  last : (good : W) → (result : R) → Plan W R
  step : {T : Type 0} → (answers : Result T Refusal → Type 0) → (on : List Device) → (leaves : W)
      → (rest : T → Plan W R) → Plan W R

-- a step that refuses nothing answers a value of which this holds
abbrev pub Answers : {T : Type 0} → (T → Type 0) → Result T Refusal → Type 0
Answers holds r = MatchResult r holds (λ _. ⊥)

-- a step that refuses nothing, and of whose value no more is said
abbrev pub Passed : {T : Type 0} → Result T Refusal → Type 0
Passed = Answers (λ _. Unit {0})

abbrev pub IsAmong : Device → List Device → Type 0
IsAmong d [] = ⊥
IsAmong d (e ∷ es) = (d ≡ e) ⊎ IsAmong d es

-- why a call ends at a step
abbrev pub StopsAt : {T : Type 0} → (Device → Type 0) → (Result T Refusal → Type 0)
    → List Device → Stop → Type 0
StopsAt rose answers on (Refused f) = answers (Err f)
StopsAt rose answers on (Failed d) = IsAmong d on × rose d

-- a call of this plan ends so, where the second says what the words of what is left mean
abbrev pub Ends : {W : Type 1} {R : Type 0} → (rose : Device → Type 0) → (means : W → Type 0)
    → Plan W R → Result R Stop → Type 0
Ends rose means (last good x) r = (r ≡ Ok x) × means good
Ends rose means (step {T = T} answers on leaves rest) r =
    (MatchResult r (λ _. ⊥) (StopsAt rose answers on) × means leaves)
    ⊎ ((x : T) × answers (Ok x) × Ends rose means (rest x) r)

-- a call of one step
abbrev pub Steps : {T : Type 0} → (Device → Type 0) → (Result T Refusal → Type 0) → List Device
    → Result T Stop → Type 0
Steps rose answers on r = MatchResult r (λ x. answers (Ok x)) (StopsAt rose answers on)

-- ---- plans of plans

-- a plan with what follows it
abbrev pub then : {W : Type 1} {R Q : Type 0} → Plan W R → (R → Plan W Q) → Plan W Q
then (last good x) next = next x
then (step answers on leaves rest) next = step answers on leaves (λ x. then (rest x) next)

-- the same plan, with what it leaves in other words
abbrev pub said_as : {V W : Type 1} {R : Type 0} → (V → W) → Plan V R → Plan W R
said_as word (last good x) = last (word good) x
said_as word (step answers on leaves rest) =
    step answers on (word leaves) (λ x. said_as word (rest x))

-- ---- the converse

-- whatever the steps answer, the call ends so where nothing fails
abbrev pub Leads : {W : Type 1} {R : Type 0} → Plan W R → Result R Stop → Type 0
Leads (last good x) r = r ≡ Ok x
Leads (step {T = T} answers on leaves rest) r = (s : Result T Refusal) → answers s
    → MatchResult s (λ x. Leads (rest x) r) (λ f. r ≡ Err (Refused f))

-- the device is asked on the way
abbrev pub IsAsked : {W : Type 1} {R : Type 0} → Device → Plan W R → Type 0
IsAsked d (last good x) = ⊥
IsAsked d (step {T = T} answers on leaves rest) =
    IsAmong d on ⊎ ((x : T) × answers (Ok x) × IsAsked d (rest x))

-- the end is that one, or a device that was asked on the way failed
abbrev pub EndsAs : {W : Type 1} {R : Type 0} → (Device → Type 0) → Plan W R → (told end : Result R
    Stop) → Type 0
EndsAs rose plan told (Ok x) = Ok x ≡ told
EndsAs rose plan told (Err (Refused f)) = Err (Refused f) ≡ told
EndsAs rose plan told (Err (Failed d)) = IsAsked d plan × rose d

-- where the plan leads to an end, the call ends so
abbrev pub IsExact : {W : Type 1} {R : Type 0} → (Device → Type 0) → Plan W R → Result R Stop
    → Type 0
IsExact {R = R} rose plan end = (told : Result R Stop) → Leads plan told
    → EndsAs rose plan told end

-- ---- results of code

-- a result of code in these words: its value by the first, its error by the second
abbrev pub seen : {T R E : Type 0} → (T → R) → (E → Stop) → Result T E → Result R Stop
seen value stop (Ok x) = Ok (value x)
seen value stop (Err e) = Err (stop e)
