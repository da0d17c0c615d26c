-- Sections and runs over whole contents, by kinds of paths.
use Rattle.std.proofs.Common.{◌≡◌, ◌^◌, ◌<◌, ◌⊎◌, ℕ, Bool, true, false, List, [], ◌∷◌, ◌++◌, Some, refl, All, Contains, bytes_eq}
use Rattle.std.specs.List.{AllByRecursion}
use Rattle.std.specs.Option.{option_eq}
use Rattle.std.specs.FinMap as fin
use Rattle.med_base.specs.declared.layout.MetaKind.TheVariants as meta_kind
use Rattle.med_base.specs.Classify.{kind_of}
use Rattle.med_base.specs.Content.{Content, Object}
use Rattle.med_base.specs.Effects.{Effect, applied}
use Rattle.med_base.specs.Kinds.{Entry, Kind, Latest, Meta, Other, Own, Shared, Stray}
use Rattle.med_base.specs.Part.{node_part, owner_in}
use Rattle.med_core.proofs.SafeByKind.{AreApart, SafeAlongByKind, SafeByKind, finish_with}
use Rattle.med_core.specs.Claim.{changes_of_claim}
use Rattle.med_core.specs.Finish.{Fresh, checked, manifest_puts}
use Rattle.med_core.specs.Place.{placing}
use Rattle.med_core.specs.Removal.{changes_of_removal}
use Rattle.med_core.specs.Run.{effects, next_content, next_running}
use Rattle.med_core.specs.Safe.{RunsThrough, kept_after_all}
use Rattle.med_core.specs.Section.{Abandon, Call, Claim, Done, Ending, Event, Finish, Halted, Place, Rebuild, Refused, Remove, Running, Stopped, Unsure}
use Rattle.med_manifest.proofs.ByKind.{IsFileOf, KeyByKind, NameByKind, NodeByKind, Reads, StandsByKind, Text}
use Rattle.med_manifest.proofs.Gets.{target}
use Rattle.med_manifest.proofs.IndexByKind.{rebuild_by}
use Rattle.med_manifest.specs.Index.{Entries, IsGiven}
use Rattle.med_manifest.specs.Mend.{changes_of_mend}
use Rattle.med_manifest.specs.declared.manifest.FileRecord.{FileRecord}

-- each path that the manifest of a finished backup outside these names has is among `named`
pub record HasNamed (before : Text) (c : Content) (f : Text) (names named : List Text) : Type 0
  where
    pub all : (n : Text) (o : Object) → StandsByKind before c (Meta f n meta_kind.Manifest) o
        → ¬ (Contains names n) → (L : List FileRecord) → Reads before f n o.bytes L
        → (r : FileRecord) → Contains L r → Contains named r.path

abbrev pub IsUnder : Text → Text → Kind → Type 0
IsUnder f n (Meta g m k) = (g ≡ f) × (m ≡ n)
IsUnder f n _ = ⊥

-- none of the objects that tell of the backup stands
abbrev pub FreeByKind : Text → Content → Text → Text → Type 0
FreeByKind before c f n = (p : Text) (o : Object) → fin.get c p ≡ Some o
    → ¬ (IsUnder f n (kind_of before p))

-- these are all the changes of the call
abbrev pub ListByKind : Text → Content → Running → Text → Call → List Effect → Type 0
ListByKind before c r f (Claim n d schema ring) xs = NameByKind before f n × (¬ (Contains r (f, n)))
    × FreeByKind before c f n × ((t : ℕ → ℕ) × (t 0 < 2 ^ 64)
    × (xs ≡ changes_of_claim before f n d schema ring t))
ListByKind before c r f (Place n d k b) xs = KeyByKind before f n k × Contains r (f, n)
    × ((t : ℕ) × (xs ≡ (placing before f n d k b t c).changes))
ListByKind before c r f (Finish n d records) xs = NodeByKind before f × NameByKind before f n
    × Contains r (f, n) × AreApart records × All (λ (q : FileRecord). KeyByKind before f n q.key)
    records × All (IsFileOf before f n) records
    × ((x : Fresh) × (b : Text) × (t : ℕ → ℕ) × (u : ℕ → ℕ) × (t 0 < 2 ^ 64) × Reads before f n b
    (checked before f n d x c records).files
    × (xs ≡ finish_with before f n (checked before f n d x c records) b t
    (changes_of_mend before (applied (manifest_puts before f n b t)
    (applied (checked before f n d x c records).changes c)) f [] u)))
ListByKind before c r f (Abandon n) xs = xs ≡ []
ListByKind before c r f (Remove names grace now) xs = NodeByKind before f
    × All (NameByKind before f) names × All (λ n. ¬ (Contains r (f, n))) names
    × ((named : List Text) × (t : ℕ → ℕ) × HasNamed before c f names named
    × (xs ≡ changes_of_removal before c f names named grace now t))
ListByKind before c r f Rebuild xs = NodeByKind before f × ((G : Entries) × (t : ℕ → ℕ)
    × (u : Text → ℕ) × IsGiven before c f G × (xs ≡ rebuild_by before c f G t u))

-- these are all the changes of a look at the records of a finish
abbrev pub LookByKind : Text → Content → Running → Text → Call → List Effect → Type 0
LookByKind before c r f (Finish n d records) xs = Contains r (f, n) × AreApart records
    × All (λ (q : FileRecord). KeyByKind before f n q.key) records
    × All (IsFileOf before f n) records
    × ((x : Fresh) × (xs ≡ (checked before f n d x c records).changes))
LookByKind before c r f _ xs = ⊥

-- a call that was cut short had begun these changes
abbrev pub FrontByKind : Text → Content → Running → Text → Call → List Effect → Type 0
FrontByKind before c r f call xs = ListByKind before c r f call xs
    ⊎ LookByKind before c r f call xs

abbrev pub BegunByKind : Text → Content → Running → Text → Call → Ending → List Effect → Type 0
BegunByKind before c r f call Done xs = ListByKind before c r f call xs
BegunByKind before c r f call (Refused why) xs = xs ≡ []
BegunByKind before c r f call (Halted by) xs = (xs ≡ []) ⊎ ((rest : List Effect)
    × FrontByKind before c r f call (xs ++ rest))
BegunByKind before c r f call (Unsure x took) xs = (rest : List Effect)
    × FrontByKind before c r f call (xs ++ x ∷ rest)
BegunByKind before c r f call Stopped xs = (xs ≡ []) ⊎ ((rest : List Effect)
    × FrontByKind before c r f call (xs ++ rest))

abbrev pub SectionByKind : Text → Content → Running → Event → Type 0
SectionByKind before c r e = BegunByKind before c r e.node e.call e.ending e.changes

-- each event begins where the one before it ended
abbrev pub RunByKind : Text → Content → Running → List Event → Type 0
RunByKind before c r [] = Unit {0}
RunByKind before c r (e ∷ es) = SectionByKind before c r e × RunByKind before (next_content c e)
    (next_running r e) es

abbrev pub SafeThroughByKind : Text → Type 0 → Content → Running → (Text → Text → Type 0)
    → List Event → Type 0
SafeThroughByKind before S c r W [] = SafeByKind before S c (λ f n. Contains r (f, n)) W
SafeThroughByKind before S c r W (e ∷ es) = SafeByKind before S c (λ f n. Contains r (f, n)) W
    × SafeAlongByKind before S c (RunsThrough r (next_running r e)) W (effects e)
    × SafeThroughByKind before S (next_content c e) (next_running r e) (kept_after_all before W
    (effects e)) es

-- the part of a node, by kinds
abbrev pub is_owned : Text → Kind → Bool
is_owned f (Shared g k) = bytes_eq g f
is_owned f (Own g n k) = bytes_eq g f
is_owned f (Meta g n e) = bytes_eq g f
is_owned f (Entry g n e) = bytes_eq g f
is_owned f (Latest g e) = bytes_eq g f
is_owned f (Stray g n) = bytes_eq g f
is_owned f Other = false

abbrev pub part : Text → Text → Content → Content
part before f c = fin.retain_keys c (λ p. is_owned f (kind_of before p))

-- changes on paths of one node
abbrev pub AreOwned : Text → Text → List Effect → Type 0
AreOwned before f xs = AllByRecursion (λ x. is_owned f (kind_of before (target x)) ≡ true) xs

owner_owned : (f : Text) (k : Kind) → option_eq bytes_eq (owner_in k) (Some f) ≡ is_owned f k
owner_owned f (Shared g k) = refl
owner_owned f (Own g n k) = refl
owner_owned f (Meta g n e) = refl
owner_owned f (Entry g n e) = refl
owner_owned f (Latest g e) = refl
owner_owned f (Stray g n) = refl
owner_owned f Other = refl

pub part_same : (before f : Text) (c : Content) → node_part before f c ≡ part before f c
part_same before f c = λ i. fin.retain_keys c (λ p. owner_owned f (kind_of before p) i)

-- each section is one over the part of its node
abbrev pub RunOfParts : Text → Content → Running → List Event → Type 0
RunOfParts before c r [] = Unit {0}
RunOfParts before c r (e ∷ es) = SectionByKind before (part before e.node c) r e × RunOfParts before
    (next_content c e) (next_running r e) es
