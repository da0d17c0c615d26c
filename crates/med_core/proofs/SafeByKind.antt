-- What is safe, and the lists of a finish, over kinds of paths.
use Rattle.std.proofs.Common.{◌≡◌, ◌≢◌, ◌==◌, ◌&&◌, true, false, bytes_eq, arith, ℕ, Bool, List, [], ◌∷◌, ◌++◌, All}
use Rattle.med_base.proofs.Bools.{same_bytes}
use Rattle.med_base.specs.Content.{Content}
use Rattle.med_base.specs.Effects.{Effect, made}
use Rattle.med_base.specs.declared.fingerprint.Fingerprint.{Fingerprint}
use Rattle.med_core.specs.Finish.{Checked, manifest_puts}
use Rattle.med_core.specs.Place.{is_same_print}
use Rattle.med_core.specs.Safe.{kept_after}
use Rattle.med_manifest.proofs.ByKind.{FinishedByKind, SoundByKind, Text, WholeByKind}
use Rattle.med_manifest.specs.declared.manifest.FileRecord.{FileRecord}

pub record SafeByKind (before : Text) (S : Type 0) (c : Content) (running : Text → Text → Type 0)
    (W : Text → Text → Type 0) : Type 0 where
  pub whole : (f n : Text) → W f n → WholeByKind before c f n
  pub unfinished : (f n : Text) → running f n → ¬ (FinishedByKind before c f n)
  pub sound : S → (f : Text) → SoundByKind before c f

abbrev pub SafeAlongByKind : Text → Type 0 → Content → (Text → Text → Type 0)
    → (Text → Text → Type 0) → List Effect → Type 0
SafeAlongByKind before S c R W [] = SafeByKind before S c R W
SafeAlongByKind before S c R W (x ∷ xs) = SafeByKind before S c R W × SafeAlongByKind before S
    (made x c) R (kept_after before W x) xs

-- no key stands twice
abbrev pub AreApart : List FileRecord → Type 0
AreApart [] = Unit {0}
AreApart (r ∷ rs) = All (λ (q : FileRecord). q.key ≢ r.key) rs × AreApart rs

-- the changes of a finish with those of its mend
abbrev pub finish_with : Text → Text → Text → Checked → Text → (ℕ → ℕ) → List Effect → List Effect
finish_with before f n found b t latest = found.changes ++ (manifest_puts before f n b t ++ latest)

pub same_print : (a b : Fingerprint) → is_same_print a b ≡ true → a ≡ b
same_print a b h =
    let size : a.size ≡ b.size = grind (arith, h) in
    let digest : a.md5 ≡ b.md5 = same_bytes a.md5 b.md5 (and_right (a.size == b.size)
    (bytes_eq a.md5 b.md5) h) in
    λ i. record { size = size i; md5 = digest i }
  where
    and_right : (x y : Bool) → (x && y) ≡ true → y ≡ true
    and_right true y e = e
    and_right false y e = absurd (cc)
