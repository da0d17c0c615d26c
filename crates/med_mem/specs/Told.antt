-- What a store in memory means: the changes that were made to it. What it held when some calls had
-- been made is what the changes leave that were made by then.
use Rattle.std.specs.Prelude.{◌≡◌, ◌≤◌, ℕ, true, nat_le, List, [], map, Option, Some, None, IsTrue}
use Rattle.std.specs.List.{list_all, filter}
use Rattle.std.specs.FinMap.{empty}
use Rattle.med_base.specs.Content.{Content}
use Rattle.med_base.specs.Effects.{Effect, applied}
use Rattle.med_outside.specs.State.{State, OpenBucket, Upload, History}
use Rattle.med_mem.specs.declared.faults.MemFault.{MemFault}

-- a change, and how many calls that can fail had been made by then, its own among them
pub record Note : Type 0 where
  pub call : ℕ
  pub effect : Effect

-- what a contract sees of a store
pub record Told : Type 0 where
  -- all changes since the store was made, in order
  pub notes : List Note
  -- what `now` answers
  pub clock : ℕ
  -- what each put adds to the clock
  pub tick : ℕ
  -- how many calls were made that can fail
  pub calls : ℕ
  -- how often a call failed
  pub faults : ℕ
  -- for how many changes more memory is kept
  pub room : ℕ
  -- the calls that are set to fail
  pub to_fail : List MemFault
  -- the bucket that is open, and its layout
  pub bucket : OpenBucket
  -- the object that is being stored in pieces
  pub upload : Option Upload

-- what these changes make of an empty content
abbrev pub content_after : List Note → Content
content_after notes = applied (map (λ (n : Note). n.effect) notes) empty

-- those that were made when at most k calls had been made
abbrev pub notes_to : ℕ → List Note → List Note
notes_to k = filter (λ (n : Note). nat_le n.call k)

-- what these changes leave when k calls have been made
abbrev pub content_at : ℕ → List Note → Content
content_at k notes = content_after (notes_to k notes)

-- what the store holds
abbrev pub content_of : Told → Content
content_of m = content_at m.calls m.notes

-- The content is what the changes leave when some number of calls has been made, which lies between
-- two others, both among them.
pub record StoodFrom (notes : List Note) (calls from to : ℕ) (c : Content) : Type 0 where
  pub step : ℕ
  pub begun : from ≤ step
  pub ended : step ≤ to
  pub made : step ≤ calls
  pub held : c ≡ content_at step notes

-- the same of a store
abbrev pub stood_of : Told → History
stood_of m = StoodFrom m.notes m.calls

-- what the trait tells of it
abbrev pub state_of : Told → State
state_of m = record {
  content = Some (content_of m);
  second = Some m.clock;
  never_falls = true;
  room = Some m.room;
  upload = m.upload;
  faults = m.faults;
  step = m.calls;
  terms = record { bucket = m.bucket; lent = []; owner = None };
}

-- no change was made in a later call
abbrev pub AreMadeBy : ℕ → List Note → Type 0
AreMadeBy calls notes = IsTrue (list_all (λ (n : Note). nat_le n.call calls) notes)
