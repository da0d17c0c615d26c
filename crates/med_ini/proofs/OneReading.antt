-- Bytes have one list of entries, and none where a line has a fault.
use Rattle.std.proofs.Common.{◌≡◌, ◌∙◌, ℕ, List, sym, ap, subst}
use Rattle.med_ini.specs.Document.{document}
use Rattle.med_ini.specs.Entries.{Entry}
use Rattle.med_ini.specs.Grammar.{IsIni, HasNone, StopsAt}
use Rattle.med_ini.specs.Labels.{start, FirstFault}
use Rattle.med_ini.specs.Lines.{lines_of}
use Rattle.med_ini.specs.declared.errors.IniError.{IniError}
use Rattle.med_ini.specs.declared.errors.IniError.TheVariants.{Fault, Memory}
use Rattle.med_ini.proofs.Readings.{reads_same, fault_stops}

pub one_reading_of : (bytes : List ℕ) (a b : List Entry) → IsIni bytes a → IsIni bytes b → a ≡ b
one_reading_of bytes a b f g =
    f.entries_are
    ∙ ap document (reads_same start f.end g.end (lines_of bytes) f.labels g.labels f.reads g.reads)
    ∙ sym g.entries_are

pub none_of : (bytes text : List ℕ) (e : IniError) → text ≡ bytes → StopsAt (lines_of text) e
    → HasNone bytes e
none_of bytes text (Fault line kind) is stops = λ entries ini.
    fault_stops (lines_of bytes) line kind ini.labels ini.end
    (subst (λ (t : List ℕ). FirstFault (lines_of t) line kind) is stops) ini.reads
none_of bytes text Memory is stops = tt
