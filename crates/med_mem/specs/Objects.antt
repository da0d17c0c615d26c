-- What the objects of a store in memory stand for, in byte order of their paths.
use Rattle.std.specs.Prelude.{◌≡◌, ◌<◌, ◌≤◌, ◌+◌, ◌-◌, ℕ, Bool, true, false, not, if◌then◌else◌, List, [], ◌∷◌, ◌++◌, map, length, Option, IsTrue, HoldsAt}
use Rattle.std.specs.declared.cmp.Ordering.{Ordering}
use Rattle.std.specs.declared.cmp.Ordering.TheVariants.{Less, Equal, Greater}
use Rattle.std.specs.List.{filter, AllWithin}
use Rattle.std.specs.Ordering.{nat_cmp, eq_by_cmp}
use Rattle.std.specs.Cmp.Lexicographic.{slice_cmp}
use Rattle.std.specs.FinMap.{entries}
use Rattle.std.specs.FinMap.Entries.{put, is_sorted, where_key}
use Rattle.med_base.specs.Content.{Object, is_under}
use Rattle.med_base.specs.Effects.{Effect, Stores, Removes}
use Rattle.med_outside.specs.State.{OpenBucket, Upload}
use Rattle.med_outside.specs.Storage.{entry_of}
use Rattle.med_outside.specs.declared.storage.Entry.{Entry}
use Rattle.med_mem.specs.Told.{Note, Told, content_after, AreMadeBy}
use Rattle.med_mem.specs.Calls.{note_of}
use Rattle.med_mem.specs.declared.faults.MemFault.{MemFault}
use Rattle.med_mem.specs.declared.object.MemObject.{MemObject}
use Rattle.med_mem.specs.declared.object.MemEffect.{MemEffect}
use Rattle.med_mem.specs.declared.object.MemEffect.TheVariants.{Stored, Removed}
use Rattle.med_mem.specs.declared.object.Change.{Change}

-- the bytes and the second
abbrev pub object_of : MemObject → Object
object_of o = record { bytes = o.bytes.items; second = o.second }

-- the paths, and what stands under them
abbrev pub pairs : List MemObject → List (List ℕ × Object)
pairs = map (λ (o : MemObject). (o.path, object_of o))

-- the object has this path, these bytes and this second
pub record IsNew (path bytes : List ℕ) (second : ℕ) (o : MemObject) : Type 0 where
  pub path_is : o.path ≡ path
  pub object_is : object_of o ≡ record { bytes = bytes; second = second }

-- ---- for this crate's own clauses

-- what a change left
abbrev pub effect_of : MemEffect → Effect
effect_of (Stored o) = Stores o.path o.bytes.items o.second
effect_of (Removed path) = Removes path

-- what the changes mean
abbrev pub noted : List Change → List Note
noted = map (λ (c : Change). note_of c.call (effect_of c.effect))

-- what the fields of a store mean
abbrev pub told_by : List Change → (clock tick calls faults room : ℕ) → List MemFault
    → OpenBucket → Option Upload → Told
told_by changes clock tick calls faults room to_fail bucket upload = record {
  notes = noted changes;
  clock = clock;
  tick = tick;
  calls = calls;
  faults = faults;
  room = room;
  to_fail = to_fail;
  bucket = bucket;
  upload = upload;
}

-- the objects stand in byte order of their paths, each path once
abbrev pub AreInOrder : List MemObject → Type 0
AreInOrder objects = IsTrue (is_sorted (slice_cmp nat_cmp) (pairs objects))

-- the objects are what the changes leave, and no change was made in a later call
pub record Tells (objects : List MemObject) (changes : List Change) (calls : ℕ) : Type 0 where
  pub same : entries (content_after (noted changes)) ≡ pairs objects
  pub made_by : AreMadeBy calls (noted changes)
  pub in_order : AreInOrder objects

-- the entries with an object in its place, or in place of the one there
abbrev pub put_at : List ℕ → Object → List (List ℕ × Object) → List (List ℕ × Object)
put_at = put (slice_cmp nat_cmp)

-- the path is another one
abbrev pub is_other : (path other : List ℕ) → Bool
is_other path other = not (eq_by_cmp (slice_cmp nat_cmp) path other)

-- the entries without the one of the path
abbrev pub without_path : List ℕ → List (List ℕ × Object) → List (List ℕ × Object)
without_path path = where_key (slice_cmp nat_cmp) (is_other path)

-- how the path of an object compares with another
abbrev pub compared : List ℕ → MemObject → Ordering
compared path o = slice_cmp nat_cmp o.path path

-- the paths of these objects, from one place to another, are lower, or greater
abbrev pub AreLower : List ℕ → List MemObject → (from to : ℕ) → Type 0
AreLower path = AllWithin (λ (o : MemObject). compared path o ≡ Less)

abbrev pub AreGreater : List ℕ → List MemObject → (from to : ℕ) → Type 0
AreGreater path = AllWithin (λ (o : MemObject). compared path o ≡ Greater)

-- the object at i has the path, those before it lower ones, and those behind it greater ones
pub record IsThere (objects : List MemObject) (path : List ℕ) (i : ℕ) : Type 0 where
  pub within : i < length objects
  pub here : HoldsAt (λ (o : MemObject). compared path o ≡ Equal) objects i
  pub below : AreLower path objects 0 i
  pub above : AreGreater path objects (i + 1) (length objects)

-- the objects before i have lower paths, and those from i on greater ones
pub record IsGap (objects : List MemObject) (path : List ℕ) (i : ℕ) : Type 0 where
  pub within : i ≤ length objects
  pub below : AreLower path objects 0 i
  pub above : AreGreater path objects i (length objects)

-- the objects are the old ones with one more, or with one in place of another
abbrev pub IsStored : List ℕ → Object → (old new : List MemObject) → Type 0
IsStored path v old new = pairs new ≡ put_at path v (pairs old)

-- one change more was noted
abbrev pub IsNoted : Note → (old new : List Change) → Type 0
IsNoted n old new = noted new ≡ noted old ++ n ∷ []

-- the object of the path was removed, and that was noted; or there was none, and nothing changed
abbrev pub IsRemoved : Note → List ℕ → (old new : List MemObject) → (changes now : List Change)
    → Bool → Type 0
IsRemoved n path old new changes now true =
    IsNoted n changes now × (pairs new ≡ without_path path (pairs old))
IsRemoved n path old new changes now false =
    (noted now ≡ noted changes) × (pairs new ≡ pairs old)
    × (pairs old ≡ without_path path (pairs old))

-- the room after a call that noted a change, or none
abbrev pub room_after : Bool → ℕ → ℕ
room_after is_noted room = if is_noted then room - 1 else room

-- the entries of those whose path begins with a text
abbrev pub listed_under : List ℕ → List (List ℕ × Object) → List Entry
listed_under text objects =
    map entry_of (filter (λ (e : List ℕ × Object). is_under text e.0) objects)
