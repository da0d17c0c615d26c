-- Bytes have one first fault.
use Rattle.std.proofs.Common.{◌≡◌, ◌∙◌, ◌+◌, ◌++◌, ◌∷◌, ◌==◌, ◌⊎◌, inl, inr, [], ℕ, List, suc, length, take, refl, sym, ap, subst, arith}
use Rattle.std.proofs.lemmas.List.{take_all}
use Rattle.std.proofs.lemmas.Str.{utf8_valid_len-IsValidUpTo}
use Rattle.std.specs.List.{count_by}
use Rattle.std.specs.Str.{IsUtf8}
use Rattle.med_ini.specs.Grammar.{IsIni, FaultOn, IsBadByteOn, IsFaultOn}
use Rattle.med_ini.specs.Entries.{Entry}
use Rattle.med_ini.specs.Labels.{Label, Place, IsFault, Reads, FirstFault, start, after}
use Rattle.med_ini.specs.Lines.{Line, lines_of}
use Rattle.med_ini.specs.declared.errors.IniKind.{IniKind}
use Rattle.med_ini.specs.declared.errors.IniKind.TheVariants.{NotUtf8, NoSection, NoDelimiter, DuplicateSection, DuplicateOption, EmptyKey}
use Rattle.med_ini.proofs.Faults.{one_fault}
use Rattle.med_ini.proofs.Readings.{fault_stops}
use Rattle.med_ini.proofs.Rules.{one_label, no_label}

head_same : (x y : Line) (xs ys : List Line) → x ∷ xs ≡ y ∷ ys → x ≡ y
head_same x y xs ys e = cc

tail_same : (x y : Line) (xs ys : List Line) → x ∷ xs ≡ y ∷ ys → xs ≡ ys
tail_same x y xs ys e = cc

-- a line with a fault isn't the first of some lines with labels
no_first : (p q r : Place) (line next : Line) (lines : List Line) (labels : List Label)
    (k : IniKind) → p ≡ q → IsFault q line k → line ≡ next → Reads p (next ∷ lines) labels r → ⊥
no_first p q r line next lines [] k same fault is reads = reads
no_first p q r line next lines (l ∷ labels) k same fault is reads =
    no_label p next l k reads.0
    (subst (λ (x : Line). IsFault p x k) is
    (subst (λ (x : Place). IsFault x line k) (sym same) fault))

first_same : (p q r : Place) (before other : List Line) (line next : Line)
    (rest more : List Line) (a b : List Label) (k l : IniKind)
    → before ++ line ∷ rest ≡ other ++ next ∷ more → Reads p before a q → Reads p other b r
    → IsFault q line k → IsFault r next l → (length before ≡ length other) × (k ≡ l)
first_same p q r [] [] line next rest more [] [] k l e f g x y =
    let here : IsFault r line k =
    subst (λ (z : Place). IsFault z line k) (sym f ∙ g) x in (
      refl,
      one_fault r next k l
          (subst (λ (z : Line). IsFault r z k) (head_same line next rest more e) here) y,
    )
first_same p q r [] [] line next rest more (m ∷ a) b k l e f g x y = absurd f
first_same p q r [] [] line next rest more [] (n ∷ b) k l e f g x y = absurd g
first_same p q r [] (o ∷ other) line next rest more [] b k l e f g x y =
    absurd (no_first p q r line o other b k f x
    (head_same line o rest (other ++ next ∷ more) e) g)
first_same p q r [] (o ∷ other) line next rest more (m ∷ a) b k l e f g x y = absurd f
first_same p q r (o ∷ before) [] line next rest more a [] k l e f g x y =
    absurd (no_first p r q next o before a l g y
    (sym (head_same o next (before ++ line ∷ rest) more e)) f)
first_same p q r (o ∷ before) [] line next rest more a (n ∷ b) k l e f g x y = absurd g
first_same p q r (o ∷ before) (t ∷ other) line next rest more [] b k l e f g x y = absurd f
first_same p q r (o ∷ before) (t ∷ other) line next rest more (m ∷ a) [] k l e f g x y = absurd g
first_same p q r (o ∷ before) (t ∷ other) line next rest more (m ∷ a) (n ∷ b) k l e f g x y =
    let head = head_same o t (before ++ line ∷ rest) (other ++ next ∷ more) e in
    let tail = tail_same o t (before ++ line ∷ rest) (other ++ next ∷ more) e in
    let moved : Reads p (o ∷ other) (n ∷ b) r =
    subst (λ (z : Line). Reads p (z ∷ other) (n ∷ b) r) (sym head) g in
    let same : m ≡ n = one_label p o m n f.0 moved.0 in
    let after_n : Reads (after p o m) other b r =
    subst (λ (z : Label). Reads (after p o z) other b r) (sym same) moved.1 in
    let both = first_same (after p o m) q r before other line next rest more a b k l tail f.1
    after_n x y in
    (ap suc both.0, both.1)

one_first : (lines : List Line) (a b : ℕ) (k l : IniKind) → FirstFault lines a k
    → FirstFault lines b l → (a ≡ b) × (k ≡ l)
one_first lines a b k l f g =
    let both = first_same start f.place g.place f.before g.before f.line g.line f.rest g.rest
    f.labels g.labels k l (sym f.lines_are ∙ g.lines_are) f.reads g.reads f.fault g.fault in
    (f.counted ∙ ap (λ (n : ℕ). n + 1) both.0 ∙ sym g.counted, both.1)

-- a fault is a bad byte, or that of a line of a text in UTF-8
either : (bytes : List ℕ) (a : ℕ) (k : IniKind) → FaultOn bytes a k
    → ((k ≡ NotUtf8) × IsBadByteOn bytes a) ⊎ IsFaultOn bytes a k
either bytes a NotUtf8 f = inl (refl, f)
either bytes a NoSection f = inr f
either bytes a NoDelimiter f = inr f
either bytes a DuplicateSection f = inr f
either bytes a DuplicateOption f = inr f
either bytes a EmptyKey f = inr f

not_bad : (bytes : List ℕ) (a : ℕ) → IsUtf8 bytes → IsBadByteOn bytes a → ⊥
not_bad bytes a utf8 bad =
    bad.valid.longest (length bytes) bad.valid.short
    (subst IsUtf8 (sym (take_all (length bytes) bytes (omega arith))) utf8)

one_bad : (bytes : List ℕ) (a b : ℕ) → IsBadByteOn bytes a → IsBadByteOn bytes b → a ≡ b
one_bad bytes a b f g =
    let same = sym (utf8_valid_len-IsValidUpTo bytes f.at f.valid)
    ∙ utf8_valid_len-IsValidUpTo bytes g.at g.valid in
    f.line_is ∙ ap (λ (n : ℕ). count_by (λ x. x == 10) (take n bytes) + 1) same ∙ sym g.line_is

pub one_fault_of : (bytes : List ℕ) (a b : ℕ) (k l : IniKind) → FaultOn bytes a k
    → FaultOn bytes b l → (a ≡ b) × (k ≡ l)
one_fault_of bytes a b k l f g = elim (either bytes a k f) [
  | inl bad ↦ elim (either bytes b l g) [
    | inl also ↦ (one_bad bytes a b bad.1 also.1, bad.0 ∙ sym also.0)
    | inr on ↦ absurd (not_bad bytes a on.utf8 bad.1)
  ]
  | inr on ↦ elim (either bytes b l g) [
    | inl bad ↦ absurd (not_bad bytes b on.utf8 bad.1)
    | inr also ↦ one_first (lines_of bytes) a b k l on.first also.first
  ]
]

pub fault_none : (bytes : List ℕ) (a : ℕ) (k : IniKind) → FaultOn bytes a k → (entries : List Entry)
    → IsIni bytes entries → ⊥
fault_none bytes a k f entries ini = elim (either bytes a k f) [
  | inl bad ↦ not_bad bytes a ini.utf8 bad.1
  | inr on ↦ fault_stops (lines_of bytes) a k ini.labels ini.end on.first ini.reads
]
