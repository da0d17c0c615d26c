-- What is known of bytes that are measured by pieces.
use Rattle.std.specs.Prelude.{◌≡◌, List, ℕ, length}
use Rattle.md5.specs.Md5.{Holds}
use Rattle.med_folder.specs.declared.measure.Measure.{Measure}

-- the bytes so far are these
pub record Measures (measure : Measure) (bytes : List ℕ) : Type 0 where
  pub holds : Holds measure.hasher bytes
  pub size : measure.size ≡ length bytes
