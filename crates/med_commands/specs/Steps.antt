-- What the steps of commands answer, and what stands where a command ends.
use Rattle.std.specs.Prelude.{◌≡◌, ℕ, List, [], Option, IfSome, Result, Ok, Err}
use Rattle.med_base.specs.Content.{Content}
use Rattle.med_commands.specs.Changes.{ChangeLists, IsMadeBy}
use Rattle.med_commands.specs.NodeConfig.{NodeConfig, node_config_of}
use Rattle.med_plan.specs.Ends.{Passed}
use Rattle.med_ini.specs.declared.config.Config.{Config}
use Rattle.med_outside.specs.Device.{Output, on}
use Rattle.med_outside.specs.State.{State, ChangesWithin}
use Rattle.med_outside.specs.World.{FileContents, World}
use Rattle.med_plan.specs.Ends.{Refusal, BadWords, BadConfig, Plan, last, step}
use Rattle.med_words.specs.Blames.{BlamesWords}
use Rattle.med_words.specs.Request.{Asked, IsRequest}
use Rattle.med_words.specs.declared.request.Usage.{Usage}
use Rattle.med_words.specs.declared.request.WordsError.TheVariants as words_error
use Rattle.med_commands.specs.Loaded.{IsConfigured, IsRefused}
use Rattle.med_commands.specs.Printed.{Wrote, WrotePart}
use Rattle.med_commands.specs.Texts.{usage_text}

-- ---- what steps answer

-- where the command works; or the config file is absent or refused, which is told
abbrev pub ReadsConfig : FileContents → Asked → Result NodeConfig Refusal → Type 0
ReadsConfig files asked (Ok node_config) =
    (config : Config) × IsConfigured files asked config × (node_config ≡ node_config_of config)
ReadsConfig files asked (Err (BadConfig text)) = IsRefused files asked text
ReadsConfig files asked (Err f) = ⊥

-- what the words ask for; or they ask for nothing, which is told
abbrev pub ReadsWords : List (List ℕ) → Result Asked Refusal → Type 0
ReadsWords words (Ok asked) = IsRequest words asked
ReadsWords words (Err (BadWords text)) =
    (usage : Usage) × BlamesWords words (words_error.Usage usage)
    × ((asked : Asked) → IsRequest words asked → ⊥) × (text ≡ usage_text usage)
ReadsWords words (Err f) = ⊥

-- ---- what a command leaves

-- neither the storage nor the nodes were asked anything, and nothing was printed
abbrev pub IsUntouched : World → World → Type 0
IsUntouched a b =
    (b.store ≡ a.store) × ChangesWithin [] a.store b.store a.stood b.stood × (b.nodes ≡ a.nodes)
    × (b.out ≡ a.out)

-- nothing was asked at all
abbrev pub IsUnasked : World → World → Type 0
IsUnasked a b = IsUntouched a b × (b.files ≡ a.files)

-- where both contents are told, this holds of them
abbrev pub IfTold : Option Content → Option Content → (Content → Content → Type 0) → Type 0
IfTold old new P = IfSome old (λ c. IfSome new (λ d. P c d))

-- what the work on the storage leaves: what was opened, one of these lists of changes, and nothing
-- else
abbrev pub IsLeft : (bucket : State → State) → ChangeLists → (a b : World) → Type 0
IsLeft bucket made a b =
    IsMadeBy (bucket a.store) b.store a.stood b.stood made × (b.nodes ≡ a.nodes) × (b.out ≡ a.out)

-- the last step prints a line; it was written whole, or in part
abbrev pub prints : List ℕ → (done : Type 0) → (a b : World) → Plan (Type 0) (Unit {0})
prints line done a b =
    step {T = Unit {0}} Passed (on Output) (done × WrotePart line a.out.taken b.out.taken)
    (λ x. last (done × Wrote line a.out.taken b.out.taken) x)
