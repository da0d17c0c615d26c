-- A line has at most one label, and none where it has a fault, of which it has at most one.
use Rattle.std.proofs.Common.{◌≡◌, ◌∙◌, Bool, true, false, true≢false, Option, Some, None, refl, sym, ap, ap₂}
use Rattle.med_base.proofs.Options.{some_once}
use Rattle.med_ini.specs.Lines.{Line, stripped, is_empty, header_of, key_value}
use Rattle.med_ini.specs.Labels.{Place, Label, quiet, more, header, option, Begins, Fits, IsFault, is_quiet, goes_on, is_repeated, is_taken, section_name}
use Rattle.med_ini.specs.declared.errors.IniKind.{IniKind}
use Rattle.med_ini.specs.declared.errors.IniKind.TheVariants.{NotUtf8, NoSection, NoDelimiter, DuplicateSection, DuplicateOption, EmptyKey}

clash : {A : Type 0} (b : Bool) → b ≡ true → b ≡ false → A
clash b holds fails = absurd (true≢false (sym holds ∙ fails))

pub nothing : {X A : Type 0} (o : Option X) (x : X) → o ≡ Some x → o ≡ None → A
nothing o x some none = absurd (let e : Some x ≡ None = sym some ∙ none in cc)

same_key : (o : Option (Line × Line)) (k v j u : Line) → o ≡ Some (k, v) → o ≡ Some (j, u) → k ≡ j
same_key o k v j u e f = ap (λ (p : Line × Line). p.0) (some_once o (k, v) (j, u) e f)

same_value : (o : Option (Line × Line)) (k v j u : Line) → o ≡ Some (k, v) → o ≡ Some (j, u)
    → v ≡ u
same_value o k v j u e f = ap (λ (p : Line × Line). p.1) (some_once o (k, v) (j, u) e f)

-- a test of the key has one answer
pub one_answer : {A : Type 0} (test : Line → Bool) (o : Option (Line × Line)) (k v j u : Line)
    → o ≡ Some (k, v) → o ≡ Some (j, u) → test k ≡ true → test j ≡ false → A
one_answer test o k v j u e f holds fails =
    clash (test j) (ap test (sym (same_key o k v j u e f)) ∙ holds) fails

pub one_label : (p : Place) (line : Line) (a b : Label) → Fits p line a → Fits p line b → a ≡ b
one_label p line quiet quiet f g = refl
one_label p line quiet (more t) f g = clash (is_quiet p line) f g.0
one_label p line quiet (header n) f g = clash (is_quiet p line) f g.0.not_quiet
one_label p line quiet (option k v) f g = clash (is_quiet p line) f g.0.begins.not_quiet
one_label p line (more s) quiet f g = clash (is_quiet p line) g f.0
one_label p line (more s) (more t) f g = ap more (f.2 ∙ sym g.2)
one_label p line (more s) (header n) f g = clash (goes_on p line) f.1 g.0.not_more
one_label p line (more s) (option k v) f g = clash (goes_on p line) f.1 g.0.begins.not_more
one_label p line (header m) quiet f g = clash (is_quiet p line) g f.0.not_quiet
one_label p line (header m) (more t) f g = clash (goes_on p line) g.1 f.0.not_more
one_label p line (header m) (header n) f g =
    ap header (some_once (header_of (stripped line)) m n f.1 g.1)
one_label p line (header m) (option k v) f g =
    nothing (header_of (stripped line)) m f.1 g.0.no_header
one_label p line (option j u) quiet f g = clash (is_quiet p line) g f.0.begins.not_quiet
one_label p line (option j u) (more t) f g = clash (goes_on p line) g.1 f.0.begins.not_more
one_label p line (option j u) (header n) f g =
    nothing (header_of (stripped line)) n g.1 f.0.no_header
one_label p line (option j u) (option k v) f g =
    let o = key_value (stripped line) in
    ap₂ option (same_key o j u k v f.1.key_value_is g.1.key_value_is)
    (same_value o j u k v f.1.key_value_is g.1.key_value_is)

begins_of : (p : Place) (line : Line) (kind : IniKind) → IsFault p line kind → Begins p line
begins_of p line NotUtf8 fault = absurd fault
begins_of p line NoSection fault = fault.0
begins_of p line NoDelimiter fault = fault.0.begins
begins_of p line DuplicateSection fault = fault.0
begins_of p line DuplicateOption fault = fault.0.begins
begins_of p line EmptyKey fault = fault.0.begins

-- no header where the line has another fault than that of a header
no_header : (p : Place) (line : Line) (n : Line) (kind : IniKind)
    → header_of (stripped line) ≡ Some n → is_repeated p n ≡ false → IsFault p line kind → ⊥
no_header p line n NotUtf8 is new fault = fault
no_header p line n NoSection is new fault =
    nothing (header_of (stripped line)) n is fault.1
no_header p line n NoDelimiter is new fault =
    nothing (header_of (stripped line)) n is fault.0.no_header
no_header p line n DuplicateSection is new fault =
    let name = some_once (header_of (stripped line)) n fault.1.0 is fault.1.1 in
    clash (is_repeated p n) (ap (is_repeated p) name ∙ fault.1.2) new
no_header p line n DuplicateOption is new fault =
    nothing (header_of (stripped line)) n is fault.0.no_header
no_header p line n EmptyKey is new fault =
    nothing (header_of (stripped line)) n is fault.0.no_header

-- no option where the line has a fault
no_option : (p : Place) (line : Line) (k v : Line) (kind : IniKind) → Fits p line (option k v)
    → IsFault p line kind → ⊥
no_option p line k v NotUtf8 f fault = fault
no_option p line k v NoSection f fault = true≢false (sym f.0.in_section ∙ fault.2)
no_option p line k v NoDelimiter f fault =
    nothing (key_value (stripped line)) (k, v) f.1.key_value_is fault.1
no_option p line k v DuplicateSection f fault =
    nothing (header_of (stripped line)) fault.1.0 fault.1.1 f.0.no_header
no_option p line k v DuplicateOption f fault =
    one_answer (is_taken (section_name p) p.options) (key_value (stripped line)) fault.1.0
    fault.1.1 k v fault.1.2 f.1.key_value_is fault.1.4 f.1.new_key
no_option p line k v EmptyKey f fault =
    one_answer is_empty (key_value (stripped line)) fault.1.0 fault.1.1 k v fault.1.2
    f.1.key_value_is fault.1.3 f.1.some_key

pub no_label : (p : Place) (line : Line) (l : Label) (kind : IniKind) → Fits p line l
    → IsFault p line kind → ⊥
no_label p line quiet kind f fault =
    clash (is_quiet p line) f (begins_of p line kind fault).not_quiet
no_label p line (more t) kind f fault =
    clash (goes_on p line) f.1 (begins_of p line kind fault).not_more
no_label p line (header n) kind f fault = no_header p line n kind f.1 f.2 fault
no_label p line (option k v) kind f fault = no_option p line k v kind f fault
