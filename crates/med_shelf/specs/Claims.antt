-- What a claim answers.
use Rattle.std.specs.Prelude.{◌≡◌, ◌≤◌, ℕ, List, [], ◌∷◌, Contains, Option, Some, None, IfSome, Result, Ok, Err, IsErrOf}
use Rattle.med_base.specs.Content.{Content, Object, objects_under}
use Rattle.med_base.specs.Layout.{backup_folder}
use Rattle.med_core.specs.Section.{IsFree}
use Rattle.med_outside.specs.declared.mode.Mode.{Mode}
use Rattle.med_outside.specs.declared.storage.Entry.{Entry}
use Rattle.med_outside.specs.Causes.{RoseOrFull}
use Rattle.med_shelf.specs.declared.errors.ClaimError.{ClaimError}
use Rattle.med_shelf.specs.declared.errors.ClaimError.TheVariants.{Running, Taken, Store, Memory}
use Rattle.med_shelf.specs.Shelf.{ShelfState, ClaimState, running_of}

-- a claim on the shelf, without records yet
abbrev pub claimed : ShelfState → (name : List ℕ) → Mode → ClaimState
claimed shelf name mode = record {
  layout = shelf.layout;
  node = shelf.node;
  name = name;
  mode = mode;
  records = [];
}

-- the backup of this name is being made
abbrev pub Runs : ShelfState → List ℕ → Type 0
Runs shelf name = Contains (running_of shelf) (shelf.node, name)

-- the answer is a new claim of this name, or names it where that is running
abbrev pub AnswersClaim : ShelfState → List ℕ → Mode → Result ClaimState ClaimError → Type 0
AnswersClaim shelf name mode (Ok claim) = claim ≡ claimed shelf name mode
AnswersClaim shelf name mode (Err (Running n)) = (n ≡ name) × Runs shelf name
AnswersClaim shelf name mode (Err (Taken path)) = Unit {0}
AnswersClaim shelf name mode (Err Store) = Unit {0}
AnswersClaim shelf name mode (Err Memory) = Unit {0}

-- this holds where the name is refused
abbrev pub WhereRefused : {T : Type 0} → Result T ClaimError → Type 0 → Type 0
WhereRefused (Err (Running n)) P = P
WhereRefused (Err (Taken path)) P = P
WhereRefused _ P = Unit {0}

-- the storage's count of faults doesn't fall, and a fault of the storage comes only where it rose
pub record HasClaimCause {T : Type 0} (before now : ℕ) (result : Result T ClaimError) : Type 0 where
  pub later : before ≤ now
  pub failed : IsErrOf result Store → RoseOrFull before now

-- the first path in byte order of what lies under a folder, or none where nothing does, by what is
-- told
abbrev pub IsFirstUnder : List ℕ → Option Content → Option (List ℕ) → Type 0
IsFirstUnder folder told None = IfSome told (λ c. objects_under folder c ≡ [])
IsFirstUnder folder told (Some path) =
    IfSome told
    (λ c. (o : Object) × (rest : List (List ℕ × Object))
    × (objects_under folder c ≡ (path, o) ∷ rest))

-- ---- for this crate's own clauses

-- the path of the first entry, or none
abbrev pub first_entry : List Entry → Option (List ℕ)
first_entry [] = None
first_entry (e ∷ es) = Some e.path

-- a look at the name: it isn't running and its folder is free, or this is the refusal
abbrev pub AnswersLook : {T : Type 0} → ShelfState → List ℕ → Option Content → Result T ClaimError
    → Type 0
AnswersLook shelf name told (Ok x) =
    (Runs shelf name → ⊥) × IfSome told (λ c. IsFree shelf.layout c shelf.node name)
AnswersLook shelf name told (Err (Running n)) = (n ≡ name) × Runs shelf name
AnswersLook shelf name told (Err (Taken path)) =
    (Runs shelf name → ⊥)
    × IsFirstUnder (backup_folder shelf.layout shelf.node name) told (Some path)
AnswersLook shelf name told (Err Store) = Unit {0}
AnswersLook shelf name told (Err Memory) = Unit {0}
