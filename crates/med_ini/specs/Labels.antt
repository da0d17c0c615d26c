-- What a line is, by the lines before it: a labelling of the lines, with one rule for each label.
use Rattle.std.specs.Prelude.{◌≡◌, ℕ, Bool, true, false, not, ◌&&◌, ◌||◌, nat_lt, ◌+◌, List, [], ◌∷◌, ◌++◌, length, Option, Some, None, is_some, unwrap_or, codes}
use Rattle.std.specs.List.{list_any}
use Rattle.std.specs.Str.{bytes_eq}
use Rattle.med_ini.specs.Lines.{Line, indent, past, stripped, is_empty, begins_comment, header_of, key_value}
use Rattle.med_ini.specs.declared.errors.IniKind.{IniKind}
use Rattle.med_ini.specs.declared.errors.IniKind.TheVariants.{NotUtf8, NoSection, NoDelimiter, DuplicateSection, DuplicateOption, EmptyKey}

-- what a line is: passed over, a further line of a value, a header, or an option
pub data Label : Type 0 where
  quiet : Label
  more : Line → Label
  header : Line → Label
  option : Line → Line → Label

-- an option by its section and key
pub record Named : Type 0 where
  pub section : Line
  pub key : Line

-- where the lines before a line leave the reader: the section, whether an option was read since
-- its header, the indent of the last line that was a header or an option, the names of the headers
-- and the options so far
pub record Place : Type 0 where
  pub section : Option Line
  pub in_option : Bool
  pub level : ℕ
  pub headers : List Line
  pub options : List Named

-- before the first line
abbrev pub start : Place
start = record { section = None; in_option = false; level = 0; headers = []; options = [] }

-- the name of the section, or no text before the first header
abbrev pub section_name : Place → Line
section_name p = unwrap_or p.section []

-- behind a line with this label
abbrev pub after : Place → Line → Label → Place
after p line quiet = p
after p line (more text) = p
after p line (header name) = record {
  section = Some name;
  in_option = false;
  level = indent line;
  headers = p.headers ++ name ∷ [];
  options = p.options;
}
after p line (option key value) = record {
  section = p.section;
  in_option = true;
  level = indent line;
  headers = p.headers;
  options = p.options ++ record { section = section_name p; key = key } ∷ [];
}

-- a comment, or an empty line where no option was read since the last header
abbrev pub is_quiet : Place → Line → Bool
is_quiet p line = begins_comment (past line) || (is_empty (past line) && not p.in_option)

-- an option was read since the last header, and the line is empty or has a greater indent than the
-- last header or option
abbrev pub goes_on : Place → Line → Bool
goes_on p line = p.in_option && (is_empty (past line) || nat_lt p.level (indent line))

-- a header of the name was seen, and the name isn't `DEFAULT`
abbrev pub is_repeated : Place → Line → Bool
is_repeated p name =
    not (bytes_eq name (codes "DEFAULT")) && list_any (λ seen. bytes_eq seen name) p.headers

-- the option has this section and key
abbrev pub is_named : Line → Line → Named → Bool
is_named section key n = bytes_eq n.section section && bytes_eq n.key key

-- the key stands already in the section
abbrev pub is_taken : Line → List Named → Line → Bool
is_taken section options key = list_any (is_named section key) options

-- the text is an option with this value, whose key isn't empty and is new in the section
pub record IsNew (section : Line) (options : List Named) (text key value : Line) : Type 0 where
  pub key_value_is : key_value text ≡ Some (key, value)
  pub some_key : is_empty key ≡ false
  pub new_key : is_taken section options key ≡ false

-- why a text isn't such an option
abbrev pub IsOptionFault : Line → List Named → Line → IniKind → Type 0
IsOptionFault section options text NoDelimiter = key_value text ≡ None
IsOptionFault section options text EmptyKey =
    (key : Line) × (value : Line) × (key_value text ≡ Some (key, value)) × (is_empty key ≡ true)
IsOptionFault section options text DuplicateOption =
    (key : Line) × (value : Line) × (key_value text ≡ Some (key, value)) × (is_empty key ≡ false)
    × (is_taken section options key ≡ true)
IsOptionFault section options text NotUtf8 = ⊥
IsOptionFault section options text NoSection = ⊥
IsOptionFault section options text DuplicateSection = ⊥

-- a line that is not passed over, and no further line of a value
pub record Begins (p : Place) (line : Line) : Type 0 where
  pub not_quiet : is_quiet p line ≡ false
  pub not_more : goes_on p line ≡ false

-- a line that begins something, in a section, and is no header
pub record BeginsOption (p : Place) (line : Line) : Type 0 where
  pub begins : Begins p line
  pub no_header : header_of (stripped line) ≡ None
  pub in_section : is_some p.section ≡ true

-- one rule for each label
abbrev pub Fits : Place → Line → Label → Type 0
Fits p line quiet = is_quiet p line ≡ true
Fits p line (more text) =
    (is_quiet p line ≡ false) × (goes_on p line ≡ true) × (text ≡ stripped line)
Fits p line (header name) =
    Begins p line × (header_of (stripped line) ≡ Some name) × (is_repeated p name ≡ false)
Fits p line (option key value) =
    BeginsOption p line × IsNew (section_name p) p.options (stripped line) key value

-- why no label fits
abbrev pub IsFault : Place → Line → IniKind → Type 0
IsFault p line NotUtf8 = ⊥
IsFault p line NoSection =
    Begins p line × (header_of (stripped line) ≡ None) × (is_some p.section ≡ false)
IsFault p line NoDelimiter =
    BeginsOption p line
    × IsOptionFault (section_name p) p.options (stripped line) NoDelimiter
IsFault p line DuplicateSection =
    Begins p line
    × ((name : Line) × (header_of (stripped line) ≡ Some name) × (is_repeated p name ≡ true))
IsFault p line DuplicateOption =
    BeginsOption p line
    × IsOptionFault (section_name p) p.options (stripped line) DuplicateOption
IsFault p line EmptyKey =
    BeginsOption p line × IsOptionFault (section_name p) p.options (stripped line) EmptyKey

-- the labels fit the lines, one after another, and lead from one place to the other
abbrev pub Reads : Place → List Line → List Label → Place → Type 0
Reads p [] [] q = p ≡ q
Reads p (line ∷ lines) (l ∷ labels) q = Fits p line l × Reads (after p line l) lines labels q
Reads p [] (l ∷ labels) q = ⊥
Reads p (line ∷ lines) [] q = ⊥

-- labels fit the lines of a whole text
abbrev pub AreLabels : List Line → List Label → Type 0
AreLabels lines labels = (end : Place) × Reads start lines labels end

-- the lines before this one have labels, and no label fits it, for this reason
pub record FirstFault (lines : List Line) (number : ℕ) (kind : IniKind) : Type 0 where
  pub before : List Line
  pub line : Line
  pub rest : List Line
  pub lines_are : lines ≡ before ++ line ∷ rest
  pub counted : number ≡ length before + 1
  pub labels : List Label
  pub place : Place
  pub reads : Reads start before labels place
  pub fault : IsFault place line kind
