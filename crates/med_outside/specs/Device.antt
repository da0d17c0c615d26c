-- The devices that a call asks.
use Rattle.std.specs.Prelude.{List, [], ◌∷◌}

-- what a step asks; want of memory fails always
pub data Device : Type 0 where
  Files : Device
  Nodes : Device
  Storage : Device
  Output : Device
  Memory : Device

-- what a step asks that asks one device: it, and memory
abbrev pub on : Device → List Device
on d = d ∷ Memory ∷ []
