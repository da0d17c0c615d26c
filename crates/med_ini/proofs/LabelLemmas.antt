-- The fault of an option is a fault of its line.
use Rattle.std.proofs.Common.{◌≡◌, sym, subst, List}
use Rattle.med_ini.specs.Lines.{Line, stripped}
use Rattle.med_ini.specs.Labels.{Named, Place, BeginsOption, IsOptionFault, IsFault, section_name}
use Rattle.med_ini.specs.declared.errors.IniKind.{IniKind}
use Rattle.med_ini.specs.declared.errors.IniKind.TheVariants.{NotUtf8, NoSection, NoDelimiter, DuplicateSection, DuplicateOption, EmptyKey}

option_fault : (p : Place) (line : Line) (kind : IniKind) → BeginsOption p line
    → IsOptionFault (section_name p) p.options (stripped line) kind → IsFault p line kind
option_fault p line NotUtf8 begins fault = fault
option_fault p line NoSection begins fault = absurd fault
option_fault p line NoDelimiter begins fault = (begins, fault)
option_fault p line DuplicateSection begins fault = absurd fault
option_fault p line DuplicateOption begins fault = (begins, fault)
option_fault p line EmptyKey begins fault = (begins, fault)

pub option_fault_as : (p : Place) (line : Line) (kind : IniKind) (section : Line)
    (options : List Named) (text : Line) → section_name p ≡ section → p.options ≡ options
    → stripped line ≡ text → BeginsOption p line → IsOptionFault section options text kind
    → IsFault p line kind
option_fault_as p line kind section options text in_section with text_is begins fault =
    option_fault p line kind begins
    (subst (λ (s : Line). IsOptionFault s p.options (stripped line) kind) (sym in_section)
    (subst (λ (o : List Named). IsOptionFault section o (stripped line) kind) (sym with)
    (subst (λ (t : Line). IsOptionFault section options t kind) (sym text_is) fault)))
