-- Which bytes are a text in the ini form, with which entries, and where other bytes first fail.
use Rattle.std.specs.Prelude.{◌≡◌, ◌+◌, ◌==◌, ℕ, List, take}
use Rattle.std.specs.List.{count_by}
use Rattle.std.specs.Str.{IsUtf8, IsValidUpTo}
use Rattle.med_ini.specs.Document.{document}
use Rattle.med_ini.specs.Entries.{Entry}
use Rattle.med_ini.specs.Labels.{Label, Place, Reads, FirstFault, start}
use Rattle.med_ini.specs.Lines.{Line, lines_of}
use Rattle.med_ini.specs.declared.errors.IniError.{IniError}
use Rattle.med_ini.specs.declared.errors.IniError.TheVariants.{Fault, Memory}
use Rattle.med_ini.specs.declared.errors.IniKind.{IniKind}
use Rattle.med_ini.specs.declared.errors.IniKind.TheVariants.{NotUtf8, NoSection, NoDelimiter, DuplicateSection, DuplicateOption, EmptyKey}

-- the bytes are UTF-8, labels fit their lines, and the entries are those of the labels
pub record IsIni (bytes : List ℕ) (entries : List Entry) : Type 0 where
  pub utf8 : IsUtf8 bytes
  pub labels : List Label
  pub end : Place
  pub reads : Reads start (lines_of bytes) labels end
  pub entries_are : entries ≡ document labels

-- the bytes are UTF-8 up to the first bad byte, which stands on this line; lines count from 1
pub record IsBadByteOn (bytes : List ℕ) (line : ℕ) : Type 0 where
  pub at : ℕ
  pub valid : IsValidUpTo bytes at
  pub line_is : line ≡ count_by (λ b. b == 10) (take at bytes) + 1

-- the bytes are UTF-8, and this is the first line that no label fits
pub record IsFaultOn (bytes : List ℕ) (line : ℕ) (kind : IniKind) : Type 0 where
  pub utf8 : IsUtf8 bytes
  pub first : FirstFault (lines_of bytes) line kind

-- the first fault of the bytes, with its line: one in UTF-8 anywhere comes before all others
abbrev pub FaultOn : List ℕ → ℕ → IniKind → Type 0
FaultOn bytes line NotUtf8 = IsBadByteOn bytes line
FaultOn bytes line NoSection = IsFaultOn bytes line NoSection
FaultOn bytes line NoDelimiter = IsFaultOn bytes line NoDelimiter
FaultOn bytes line DuplicateSection = IsFaultOn bytes line DuplicateSection
FaultOn bytes line DuplicateOption = IsFaultOn bytes line DuplicateOption
FaultOn bytes line EmptyKey = IsFaultOn bytes line EmptyKey

-- a refusal for a line is that of the first line without a label; of want of memory nothing is said
abbrev pub StopsAt : List Line → IniError → Type 0
StopsAt lines (Fault line kind) = FirstFault lines line kind
StopsAt lines Memory = Unit {0}

-- the refusal tells the first fault; of want of memory nothing is said
abbrev pub BlamesIni : List ℕ → IniError → Type 0
BlamesIni bytes (Fault line kind) = FaultOn bytes line kind
BlamesIni bytes Memory = Unit {0}

-- bytes that are refused for a fault have no entries
abbrev pub HasNone : List ℕ → IniError → Type 0
HasNone bytes (Fault line kind) = (entries : List Entry) → IsIni bytes entries → ⊥
HasNone bytes Memory = Unit {0}

-- a text has one list of entries
abbrev pub HasOneReading : Type 0
HasOneReading = (bytes : List ℕ) (a b : List Entry) → IsIni bytes a → IsIni bytes b → a ≡ b

-- bytes that have a fault have no entries
abbrev pub FaultsAreNone : Type 0
FaultsAreNone = (bytes : List ℕ) (line : ℕ) (kind : IniKind) → FaultOn bytes line kind
    → (entries : List Entry) → IsIni bytes entries → ⊥

-- bytes have one first fault
abbrev pub HasOneFault : Type 0
HasOneFault = (bytes : List ℕ) (a b : ℕ) (k l : IniKind) → FaultOn bytes a k → FaultOn bytes b l
    → (a ≡ b) × (k ≡ l)
