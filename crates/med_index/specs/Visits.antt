-- What is found of a content while its listing is walked.
use Rattle.std.specs.Prelude.{◌≡◌, ◌⊎◌, ℕ, List, [], ◌∷◌, Option, Some, None, option_map}
use Rattle.std.specs.BTreeMap.{BTreeMap, get}
use Rattle.std.specs.FinMap as finite
use Rattle.std.specs.List.{AllByRecursion}
use Rattle.med_base.specs.declared.layout.MetaKind.{MetaKind}
use Rattle.med_base.specs.Content.{Content, Object}
use Rattle.med_base.specs.Kinds.{Kind, Meta, IsBackupName, IsFqdn}
use Rattle.med_base.specs.Layout.{meta_path}
use Rattle.med_base.specs.NameOrder.{name_cmp}
use Rattle.med_manifest.specs.Vault.{second_of, IsBackup}
use Rattle.med_outside.specs.declared.storage.Entry.{Entry}
use Rattle.med_outside.specs.declared.storage.PageEnd.{PageEnd}
use Rattle.med_outside.specs.Pages.{behind}
use Rattle.med_index.specs.declared.marks.Marks.{Marks}
use Rattle.med_index.specs.Marks.{mark_of, or_none}
use Rattle.med_index.specs.Rows.{HasBackup}

-- ---- for this crate's own clauses

-- the entries behind the end of a page, and none where there is no end
abbrev pub left_behind : List ℕ → Option PageEnd → Content → List Entry
left_behind text None c = []
left_behind text (Some end) c = behind text (Some end) c

-- the node and the name of the backup of which a path of this kind tells, and what it is
abbrev pub told_by : Kind → Option (List ℕ × (List ℕ × MetaKind))
told_by (Meta f n kind) = Some (f, (n, kind))
told_by _ = None

-- one of the entries has this path
abbrev pub IsToCome : List Entry → List ℕ → Type 0
IsToCome [] path = ⊥
IsToCome (e ∷ es) path = (e.path ≡ path) ⊎ IsToCome es path

-- the entry is that of an object of the content
abbrev pub IsEntryOf : Content → Entry → Type 0
IsEntryOf c e = option_map (λ (o : Object). o.second) (finite.get c e.path) ≡ Some e.second

-- the second of this kind that was found of a backup
abbrev pub found_second : MetaKind → Option Marks → Option ℕ
found_second kind marks = mark_of kind (or_none marks)

-- what was found of the backups of a node: each second stands, and each that stands was found or is
-- still to come
pub record AreFound (node : List ℕ) (found : BTreeMap (List ℕ) Marks) (before f : List ℕ)
    (c : Content) (rest : List Entry) : Type 0
  where
    pub node_is : node ≡ f
    pub names : (n : List ℕ) (marks : Marks) → get name_cmp found n ≡ Some marks
        → IsBackup c before f n
    pub stands : (n : List ℕ) (kind : MetaKind) (second : ℕ)
        → found_second kind (get name_cmp found n) ≡ Some second
        → second_of c before f n kind ≡ Some second
    pub all : (n : List ℕ) (kind : MetaKind) (second : ℕ) → IsBackupName n
        → second_of c before f n kind ≡ Some second
        → (found_second kind (get name_cmp found n) ≡ Some second)
        ⊎ IsToCome rest (meta_path before f n kind)
    pub entries : AllByRecursion (IsEntryOf c) rest

-- what was found of the nodes: each has a backup, and each that has one was found, or what tells of
-- its backup is still to come
pub record AreNodesFound (found : BTreeMap (List ℕ) (Unit {0})) (before : List ℕ) (c : Content)
    (rest : List Entry) : Type 0
  where
    pub nodes : (f : List ℕ) → get name_cmp found f ≡ Some tt → HasBackup c before f
    pub all : (f n : List ℕ) (kind : MetaKind) (second : ℕ) → IsFqdn f → IsBackupName n
        → second_of c before f n kind ≡ Some second
        → (get name_cmp found f ≡ Some tt) ⊎ IsToCome rest (meta_path before f n kind)
    pub entries : AllByRecursion (IsEntryOf c) rest
