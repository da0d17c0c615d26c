-- What a bucket holds: a finite map from paths to bytes and a modified second.
-- The program never holds this map; it makes single calls and reads listings.
use Rattle.std.specs.Prelude.{ℕ, Bool, List, nat_eq}
use Rattle.std.specs.List.{starts_with, filter}
use Rattle.std.specs.Ordering.{nat_cmp}
use Rattle.std.specs.Cmp.Lexicographic.{slice_cmp}
use Rattle.std.specs.FinMap.{FinMap, insert, entries}

pub record Object : Type 0 where
  pub bytes : List ℕ
  -- when it was stored, in seconds since 1970-01-01T00:00:00Z
  pub second : ℕ

abbrev pub Content : Type 0
Content = FinMap (slice_cmp nat_cmp) Object

-- the content with an object in place of what was there
abbrev pub with_object : List ℕ → List ℕ → ℕ → Content → Content
with_object path bytes second c = insert c path (record { bytes = bytes; second = second })

-- the path begins with a text
abbrev pub is_under : List ℕ → List ℕ → Bool
is_under text path = starts_with nat_eq path text

-- the objects whose path begins with a text, in byte order of the paths
abbrev pub objects_under : List ℕ → Content → List (List ℕ × Object)
objects_under text c = filter (λ (e : List ℕ × Object). is_under text e.0) (entries c)
