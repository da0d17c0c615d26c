-- What the record of a put is made of, for this crate's own clauses.
use Rattle.std.specs.Prelude.{ℕ, Bool, List, Option}
use Rattle.med_base.specs.Fingerprint.{fingerprint_of}
use Rattle.med_outside.specs.Makes.{text_of}
use Rattle.med_outside.specs.declared.recorded.ReadyPut.{ReadyPut}
use Rattle.med_outside.specs.declared.trace.Change.{Change}
use Rattle.med_outside.specs.declared.trace.Change.TheVariants.{Put}

-- what is recorded of a put of these bytes under a path, which is a data object's or isn't
abbrev pub ready_of : (is_data : Bool) → (path bytes : List ℕ) → ReadyPut
ready_of is_data path bytes = record {
  path = path;
  fingerprint = fingerprint_of bytes;
  text = text_of is_data bytes;
}

-- the record of a put, with its second where it is told
abbrev pub put_of : ReadyPut → Option ℕ → Change
put_of ready second = Put ready.path ready.fingerprint second ready.text
