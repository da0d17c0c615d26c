-- What a sink in memory means.
use Rattle.std.specs.Prelude.{ℕ, Bool, ◌-◌, ◌||◌, ◌&&◌, not, ◌==◌, List, ◌++◌, length}
use Rattle.med_mem.specs.Failing.{Failing, fails, after_success, after_failure}

-- what a contract sees of a sink
pub record Taken : Type 0 where
  -- the bytes that it has taken
  pub bytes : List ℕ
  -- how many it takes at most
  pub limit : ℕ
  -- the calls of `write`
  pub calls : Failing

-- how many more it takes
abbrev pub room_of : Taken → ℕ
room_of s = s.limit - length s.bytes

-- a write of these bytes fails: it was told to, or it is full and there are some
abbrev pub is_refused : List ℕ → Taken → Bool
is_refused bytes s = fails s.calls || (room_of s == 0 && not (length bytes == 0))

-- it has taken these too, in one write
abbrev pub with_more : List ℕ → Taken → Taken
with_more more s = record {
  bytes = s.bytes ++ more;
  limit = s.limit;
  calls = after_success s.calls;
}

-- a write failed, and it has taken nothing
abbrev pub with_fault : Taken → Taken
with_fault s = record { bytes = s.bytes; limit = s.limit; calls = after_failure s.calls }

-- the same sink, of which other writes fail
abbrev pub with_writes : Failing → Taken → Taken
with_writes calls s = record { bytes = s.bytes; limit = s.limit; calls = calls }
