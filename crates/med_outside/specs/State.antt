-- What a storage means, but for the contents that stood, and what a call leaves of it.
use Rattle.std.specs.Prelude.{◌≡◌, ◌⊎◌, ◌≤◌, ◌+◌, ◌↔◌, ℕ, Bool, false, List, [], map, Contains, Option, Some, None, IfSome, Result}
use Rattle.med_base.specs.Classify.{is_data}
use Rattle.med_base.specs.Content.{Content}
use Rattle.med_base.specs.Part.{owner_of}
use Rattle.med_outside.specs.Causes.{HasCause, one_more}
use Rattle.med_base.specs.Effects.{Effect, after_all, IsMoment}
use Rattle.med_outside.specs.Follows.{Follows}
use Rattle.med_outside.specs.declared.denied.Denied.{Denied}

-- the bucket that is open; only `open` changes it
pub record OpenBucket : Type 0 where
  -- the base and the name of the bucket that is open
  pub base : List ℕ
  pub name : List ℕ
  -- what stands before each path of the bucket
  pub layout : List ℕ
  -- how often a bucket was opened, held at the last value of a 64-bit counter
  pub opens : ℕ

-- a node whose paths another storage has for a time
pub record Lent : Type 0 where
  pub owner : List ℕ
  -- the step since which it has them
  pub since : ℕ

-- what no change of the content touches
pub record Terms : Type 0 where
  pub bucket : OpenBucket
  pub lent : List Lent
  -- the node whose paths alone this storage has; none where it has all that aren't lent
  pub owner : Option (List ℕ)

-- an object whose bytes are being stored, as far as they came
pub record Upload : Type 0 where
  pub path : List ℕ
  pub bytes : List ℕ

-- which contents stood at some moment from one step to another, both among them
abbrev pub History : Type 1
History = (from to : ℕ) → Content → Type 0

pub record State : Type 0 where
  -- the objects, where they are told
  pub content : Option Content
  -- what `now` answers, where it is told
  pub second : Option ℕ
  pub never_falls : Bool
  -- for how many changes it has memory, where that is told
  pub room : Option ℕ
  pub upload : Option Upload
  -- how often a call failed
  pub faults : ℕ
  -- how many calls were made that can fail
  pub step : ℕ
  pub terms : Terms

-- Exactly these changes were made, in order: the content is the old one with all of them, and what
-- stood up to now stood before, or is the old one with the first of them. What stood up to an
-- earlier step stays as it was. Two histories: of what stood before, and of what stood after.
pub record Changes (xs : List Effect) (old new : State) (stood_before stood_after : History) : Type
    0
  where
    pub content : new.content ≡ after_all xs old.content
    pub second : Follows old.never_falls old.second xs new.second
    pub never_falls : new.never_falls ≡ old.never_falls
    pub later : old.step ≤ new.step
    pub moments : (from : ℕ) (c : Content) → from ≤ old.step → stood_after from new.step c
        → stood_before from old.step c ⊎ IsMoment xs old.content c
    pub past : (from to : ℕ) (c : Content) → to ≤ old.step
        → stood_after from to c ↔ stood_before from to c

-- the same, and no other meaning of the storage changed but its room, its step and its faults
pub record ChangesWithin (xs : List Effect) (old new : State) (stood_before stood_after : History) :
    Type 0
  where
    pub passes : Changes xs old new stood_before stood_after
    pub upload : new.upload ≡ old.upload
    pub terms : new.terms ≡ old.terms

-- nothing changed, but for the step and the count of faults
pub record OnlyReads (old new : State) (stood_before stood_after : History) : Type 0 where
  pub moves : ChangesWithin [] old new stood_before stood_after
  pub room : new.room ≡ old.room

-- the room fell by one, or it is as before
abbrev pub FallsByOne : Option ℕ → Option ℕ → Type 0
FallsByOne None now = now ≡ None
FallsByOne (Some before) now = (n : ℕ) × (now ≡ Some n) × (n ≤ before) × (before ≤ n + 1)

-- these changes were made by one call
pub record ChangesOnce (xs : List Effect) (old new : State) (stood_before stood_after : History) :
    Type 0
  where
    pub moves : ChangesWithin xs old new stood_before stood_after
    pub room : FallsByOne old.room new.room

-- a call that can fail: a failure has a cause, and a storage that tells of its objects counts it
pub record IsCalled {T : Type 0} (old new : State) (result : Result T Denied) : Type 0 where
  pub cause : HasCause old.faults new.faults result
  pub counted : IfSome old.content (λ _. new.step ≡ one_more old.step)

-- ---- conditions

-- the paths of this node are lent
abbrev pub IsLent : List ℕ → Terms → Type 0
IsLent owner terms = Contains (map (λ (l : Lent). l.owner) terms.lent) owner

-- the path isn't one of a node whose paths are lent
abbrev pub MayChange : List ℕ → Terms → Type 0
MayChange path terms =
    (owner : List ℕ) → owner_of terms.bucket.layout path ≡ Some owner → ¬ (IsLent owner terms)

-- the path isn't that of a data object, under the layout of the bucket that is open
abbrev pub IsNoData : List ℕ → Terms → Type 0
IsNoData path terms = is_data terms.bucket.layout path ≡ false

-- no paths are lent, and nothing is being uploaded
pub record IsAtRest (s : State) : Type 0 where
  pub lent : s.terms.lent ≡ []
  pub upload : s.upload ≡ None

-- a call may change it for a node under this layout: it is at rest, and the layout is that of the
-- bucket that is open
pub record IsReady (layout : List ℕ) (s : State) : Type 0 where
  pub rest : IsAtRest s
  pub layout_is : s.terms.bucket.layout ≡ layout

-- ---- the same storage, but for one meaning

abbrev pub with_bucket : OpenBucket → State → State
with_bucket bucket s = record s { terms = record s.terms { bucket = bucket } }

abbrev pub with_room : Option ℕ → State → State
with_room room s = record s { room = room }

-- a bucket that is open under a layout, where so many were opened
abbrev pub bucket_of : (base bucket layout : List ℕ) (opens : ℕ) → OpenBucket
bucket_of base bucket layout opens =
    record { base = base; name = bucket; layout = layout; opens = opens }

-- one more bucket was opened, under a layout
abbrev pub opened : (base bucket layout : List ℕ) → State → State
opened base bucket layout s =
    with_bucket (bucket_of base bucket layout (one_more s.terms.bucket.opens)) s
