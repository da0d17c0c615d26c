-- Labels of many lines: one line more, one reading, one first fault.
use Rattle.std.proofs.Common.{◌≡◌, ◌++◌, ◌∷◌, [], ℕ, List, suc, length, refl, sym, ap, ap₂, subst}
use Rattle.med_ini.specs.Lines.{Line}
use Rattle.med_ini.specs.Labels.{Label, Place, Fits, IsFault, Reads, FirstFault, start, after}
use Rattle.med_ini.specs.declared.errors.IniKind.{IniKind}
use Rattle.med_ini.proofs.Rules.{one_label, no_label}

pub reads_more : (p q : Place) (lines : List Line) (labels : List Label) (line : Line) (l : Label)
    → Reads p lines labels q → Fits q line l
    → Reads p (lines ++ line ∷ []) (labels ++ l ∷ []) (after q line l)
reads_more p q [] [] line l r f =
    (subst (λ (x : Place). Fits x line l) (sym r) f, ap (λ (x : Place). after x line l) r)
reads_more p q [] (k ∷ labels) line l r f = absurd r
reads_more p q (a ∷ lines) [] line l r f = absurd r
reads_more p q (a ∷ lines) (k ∷ labels) line l r f =
    (r.0, reads_more (after p a k) q lines labels line l r.1 f)

pub reads_length : (p q : Place) (lines : List Line) (labels : List Label)
    → Reads p lines labels q → length labels ≡ length lines
reads_length p q [] [] r = refl
reads_length p q [] (k ∷ labels) r = absurd r
reads_length p q (a ∷ lines) [] r = absurd r
reads_length p q (a ∷ lines) (k ∷ labels) r = ap suc (reads_length (after p a k) q lines labels r.1)

-- the labels of some lines are determined
pub reads_same : (p q r : Place) (lines : List Line) (a b : List Label)
    → Reads p lines a q → Reads p lines b r → a ≡ b
reads_same p q r [] [] [] f g = refl
reads_same p q r [] (k ∷ a) b f g = absurd f
reads_same p q r [] a (l ∷ b) f g = absurd g
reads_same p q r (line ∷ lines) [] b f g = absurd f
reads_same p q r (line ∷ lines) a [] f g = absurd g
reads_same p q r (line ∷ lines) (k ∷ a) (l ∷ b) f g =
    let same : k ≡ l = one_label p line k l f.0 g.0 in
    let rest : Reads (after p line k) lines b r =
    subst (λ (m : Label). Reads (after p line m) lines b r) (sym same) g.1 in
    ap₂ (λ (m : Label) (ms : List Label). m ∷ ms) same
    (reads_same (after p line k) q r lines a b f.1 rest)

-- lines with a fault among them have no labels
pub stops : (p q place : Place) (before : List Line) (line : Line) (rest : List Line)
    (labels done : List Label) (kind : IniKind) → Reads p (before ++ line ∷ rest) labels q
    → Reads p before done place → IsFault place line kind → ⊥
stops p q place [] line rest [] done kind f g fault = f
stops p q place [] line rest (l ∷ labels) [] kind f g fault =
    no_label p line l kind f.0 (subst (λ (x : Place). IsFault x line kind) (sym g) fault)
stops p q place [] line rest (l ∷ labels) (k ∷ done) kind f g fault = g
stops p q place (a ∷ before) line rest [] done kind f g fault = f
stops p q place (a ∷ before) line rest (l ∷ labels) [] kind f g fault = g
stops p q place (a ∷ before) line rest (l ∷ labels) (k ∷ done) kind f g fault =
    let same : k ≡ l = one_label p a k l g.0 f.0 in
    stops (after p a k) q place before line rest labels done kind
    (subst (λ (m : Label). Reads (after p a m) (before ++ line ∷ rest) labels q) (sym same) f.1)
    g.1 fault

pub fault_stops : (lines : List Line) (number : ℕ) (kind : IniKind) (labels : List Label)
    (end : Place) → FirstFault lines number kind → Reads start lines labels end → ⊥
fault_stops lines number kind labels end fault reads =
    stops start end fault.place fault.before fault.line fault.rest labels fault.labels kind
    (subst (λ (ls : List Line). Reads start ls labels end) fault.lines_are reads) fault.reads
    fault.fault
