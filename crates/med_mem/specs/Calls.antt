-- What the calls of a store in memory leave.
use Rattle.std.specs.Prelude.{◌≡◌, ◌<◌, ◌+◌, ◌-◌, ◌^◌, ℕ, min, max, Bool, true, false, List, [], ◌∷◌, ◌++◌, Option, Some, None, Result, Ok, Err, IsErr, IsErrOf, IsTrue, is_some, IfSome}
use Rattle.med_base.specs.Content.{with_object}
use Rattle.med_outside.specs.Causes.{one_more}
use Rattle.med_outside.specs.declared.denied.Denied.{Denied}
use Rattle.med_outside.specs.declared.denied.Denied.TheVariants.{Failed, Memory}
use Rattle.med_base.specs.Effects.{Effect, Stores}
use Rattle.med_outside.specs.State.{OnlyReads, Upload, bucket_of, opened}
use Rattle.med_outside.specs.Storage.{Put, Delete}
use Rattle.med_mem.specs.declared.faults.MemWhen.{MemWhen}
use Rattle.med_mem.specs.declared.faults.MemFault.{MemFault}
use Rattle.med_mem.specs.Faults.{due_put, after_put}
use Rattle.med_mem.specs.Told.{Note, Told, content_of, stood_of, state_of}

-- a change that was made when so many calls had been made
abbrev pub note_of : ℕ → Effect → Note
note_of call effect = record { call = call; effect = effect }

-- the same store with an object that no call of the trait stored
abbrev pub with_added : List ℕ → List ℕ → ℕ → Told → Told
with_added path bytes second m = record {
  notes = m.notes ++ note_of m.calls (Stores path bytes second) ∷ [];
  clock = m.clock;
  tick = m.tick;
  calls = m.calls;
  faults = m.faults;
  room = m.room;
  to_fail = m.to_fail;
  bucket = m.bucket;
  upload = m.upload;
}

-- the content is the old one with the object
abbrev pub Gains : (path bytes : List ℕ) → ℕ → (old new : Told) → Type 0
Gains path bytes second old new =
    content_of new ≡ with_object path bytes second (content_of old)

-- the same store at another second
abbrev pub with_clock : ℕ → Told → Told
with_clock clock m = record {
  notes = m.notes;
  clock = clock;
  tick = m.tick;
  calls = m.calls;
  faults = m.faults;
  room = m.room;
  to_fail = m.to_fail;
  bucket = m.bucket;
  upload = m.upload;
}

-- the same store with memory for so many changes at least
abbrev pub with_room_for : ℕ → Told → Told
with_room_for changes m = record {
  notes = m.notes;
  clock = m.clock;
  tick = m.tick;
  calls = m.calls;
  faults = m.faults;
  room = max m.room changes;
  to_fail = m.to_fail;
  bucket = m.bucket;
  upload = m.upload;
}

-- the same store with one more call that is set to fail
abbrev pub with_fault : MemWhen → Bool → Told → Told
with_fault when lands m = record {
  notes = m.notes;
  clock = m.clock;
  tick = m.tick;
  calls = m.calls;
  faults = m.faults;
  room = m.room;
  to_fail = m.to_fail ++ record { when = when; lands = lands } ∷ [];
  bucket = m.bucket;
  upload = m.upload;
}

-- the same store with that upload
abbrev pub uploading : Option Upload → Told → Told
uploading upload m = record {
  notes = m.notes;
  clock = m.clock;
  tick = m.tick;
  calls = m.calls;
  faults = m.faults;
  room = m.room;
  to_fail = m.to_fail;
  bucket = m.bucket;
  upload = upload;
}

-- a store without objects that no call was made of, of a bucket and a base of no name and under the
-- layout of the empty prefix
abbrev pub new_at : ℕ → ℕ → Told
new_at clock tick = record {
  notes = [];
  clock = clock;
  tick = tick;
  calls = 0;
  faults = 0;
  room = 0;
  to_fail = [];
  bucket = bucket_of [] [] [] 0;
  upload = None;
}

-- one fault more after a failure, up to the last value of a 64-bit counter
abbrev pub faults_after : {T : Type 0} → Result T Denied → ℕ → ℕ
faults_after (Ok x) faults = faults
faults_after (Err Failed) faults = one_more faults
faults_after (Err Memory) faults = faults

-- The call was counted, and so was its failure. It failed where the first says so, and else only
-- for want of memory; these are set to fail from now on.
pub record Counts {T : Type 0} (set : Option Bool) (left : List MemFault) (old new : Told)
    (result : Result T Denied) : Type 0
  where
    pub calls : new.calls ≡ one_more old.calls
    pub faults : new.faults ≡ faults_after result old.faults
    pub to_fail : new.to_fail ≡ left
    pub full : IsErrOf result Failed → IsTrue (is_some set)
    pub told : set ≡ Some false → IsErrOf result Failed
    pub lands : set ≡ Some true → IsErr result

-- nothing changed but the number of calls and the count of faults, in the words of the trait
abbrev pub Stays : Told → Told → Type 0
Stays old new = OnlyReads (state_of old) (state_of new) (stood_of old) (stood_of new)

-- the bucket alone changed, in the same words
abbrev pub IsOpened : (base bucket layout : List ℕ) → Told → Told → Type 0
IsOpened base bucket layout old new =
    let before = opened base bucket layout (state_of old) in
    OnlyReads before (state_of new) (stood_of old) (stood_of new)

-- the object was stored with that second, in the same words
abbrev pub IsPut : (path bytes : List ℕ) (old new : Told) (second : ℕ) → Type 0
IsPut path bytes old new second =
    Put path bytes (state_of old) (state_of new) (stood_of old) (stood_of new) second

-- the object was removed, if there was one, in the same words
abbrev pub IsDeleted : List ℕ → (old new : Told) → Type 0
IsDeleted path old new = Delete path (state_of old) (state_of new) (stood_of old) (stood_of new)

-- what is left of a put or a delete that was refused: it was done where it was set to fail and to
-- take effect, and else nothing changed
abbrev pub Leaves : (done kept : Type 0) → Option Bool → Denied → Type 0
Leaves done kept (Some true) Failed = done
Leaves done kept (Some true) Memory = kept
Leaves done kept (Some false) denied = kept
Leaves done kept None denied = kept

-- the same of a put: the second that it was stored with has 64 bits
abbrev pub LeavesPut : (path bytes : List ℕ) → (old new : Told) → Denied → Type 0
LeavesPut path bytes old new denied =
    Leaves ((old.clock < 2 ^ 64) × IsPut path bytes old new old.clock) (Stays old new)
    (due_put old.calls path old.to_fail) denied

-- the clock went on by one tick, up to the last value of a 64-bit counter
pub record Ticks (old new : Told) : Type 0 where
  pub clock : new.clock ≡ min (old.clock + old.tick) (2 ^ 64 - 1)
  pub tick : new.tick ≡ old.tick

-- the clock stands
pub record Rests (old new : Told) : Type 0 where
  pub clock : new.clock ≡ old.clock
  pub tick : new.tick ≡ old.tick

-- the clock went on where a put that was refused took effect, and else it stands
abbrev pub TicksOrRests : List ℕ → (old new : Told) → Denied → Type 0
TicksOrRests path old new denied =
    Leaves (Ticks old new) (Rests old new) (due_put old.calls path old.to_fail) denied

-- a put was counted, and so was its failure
abbrev pub CountsPut : {T : Type 0} → List ℕ → (old new : Told) → Result T Denied → Type 0
CountsPut path old new result =
    Counts (due_put old.calls path old.to_fail) (after_put path old.to_fail) old new result

-- the same of the put of what was uploaded, if anything was
abbrev pub CountsCommit : {T : Type 0} → (old new : Told) → Result T Denied → Type 0
CountsCommit old new result = IfSome old.upload (λ u. CountsPut u.path old new result)
