-- A line has at most one fault.
use Rattle.std.proofs.Common.{◌≡◌, ◌∙◌, refl, sym, true≢false}
use Rattle.med_ini.specs.Lines.{Line, stripped, is_empty, header_of, key_value}
use Rattle.med_ini.specs.Labels.{Place, IsFault}
use Rattle.med_ini.specs.declared.errors.IniKind.{IniKind}
use Rattle.med_ini.specs.declared.errors.IniKind.TheVariants.{NotUtf8, NoSection, NoDelimiter, DuplicateSection, DuplicateOption, EmptyKey}
use Rattle.med_ini.proofs.Rules.{nothing, one_answer}

pub one_fault : (p : Place) (line : Line) (a b : IniKind) → IsFault p line a → IsFault p line b
    → a ≡ b
one_fault p line NotUtf8 b f g = absurd f
one_fault p line NoSection NotUtf8 f g = absurd g
one_fault p line NoSection NoSection f g = refl
one_fault p line NoSection NoDelimiter f g = absurd (true≢false (sym g.0.in_section ∙ f.2))
one_fault p line NoSection DuplicateSection f g =
    nothing (header_of (stripped line)) g.1.0 g.1.1 f.1
one_fault p line NoSection DuplicateOption f g = absurd (true≢false (sym g.0.in_section ∙ f.2))
one_fault p line NoSection EmptyKey f g = absurd (true≢false (sym g.0.in_section ∙ f.2))
one_fault p line NoDelimiter NotUtf8 f g = absurd g
one_fault p line NoDelimiter NoSection f g = absurd (true≢false (sym f.0.in_section ∙ g.2))
one_fault p line NoDelimiter NoDelimiter f g = refl
one_fault p line NoDelimiter DuplicateSection f g =
    nothing (header_of (stripped line)) g.1.0 g.1.1 f.0.no_header
one_fault p line NoDelimiter DuplicateOption f g =
    nothing (key_value (stripped line)) (g.1.0, g.1.1) g.1.2 f.1
one_fault p line NoDelimiter EmptyKey f g =
    nothing (key_value (stripped line)) (g.1.0, g.1.1) g.1.2 f.1
one_fault p line DuplicateSection NotUtf8 f g = absurd g
one_fault p line DuplicateSection NoSection f g =
    nothing (header_of (stripped line)) f.1.0 f.1.1 g.1
one_fault p line DuplicateSection NoDelimiter f g =
    nothing (header_of (stripped line)) f.1.0 f.1.1 g.0.no_header
one_fault p line DuplicateSection DuplicateSection f g = refl
one_fault p line DuplicateSection DuplicateOption f g =
    nothing (header_of (stripped line)) f.1.0 f.1.1 g.0.no_header
one_fault p line DuplicateSection EmptyKey f g =
    nothing (header_of (stripped line)) f.1.0 f.1.1 g.0.no_header
one_fault p line DuplicateOption NotUtf8 f g = absurd g
one_fault p line DuplicateOption NoSection f g = absurd (true≢false (sym f.0.in_section ∙ g.2))
one_fault p line DuplicateOption NoDelimiter f g =
    nothing (key_value (stripped line)) (f.1.0, f.1.1) f.1.2 g.1
one_fault p line DuplicateOption DuplicateSection f g =
    nothing (header_of (stripped line)) g.1.0 g.1.1 f.0.no_header
one_fault p line DuplicateOption DuplicateOption f g = refl
one_fault p line DuplicateOption EmptyKey f g =
    one_answer is_empty (key_value (stripped line)) g.1.0 g.1.1 f.1.0 f.1.1
    g.1.2 f.1.2 g.1.3 f.1.3
one_fault p line EmptyKey NotUtf8 f g = absurd g
one_fault p line EmptyKey NoSection f g = absurd (true≢false (sym f.0.in_section ∙ g.2))
one_fault p line EmptyKey NoDelimiter f g =
    nothing (key_value (stripped line)) (f.1.0, f.1.1) f.1.2 g.1
one_fault p line EmptyKey DuplicateSection f g =
    nothing (header_of (stripped line)) g.1.0 g.1.1 f.0.no_header
one_fault p line EmptyKey DuplicateOption f g =
    one_answer is_empty (key_value (stripped line)) f.1.0 f.1.1 g.1.0 g.1.1
    f.1.2 g.1.2 f.1.3 g.1.3
one_fault p line EmptyKey EmptyKey f g = refl
