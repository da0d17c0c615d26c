-- The definitions of the laws over kinds of paths, for the proofs, and what paths and kinds say of
-- each other.
use Rattle.std.proofs.Common.{◌≡◌, ◌⊎◌, ℕ, List, [], ◌∷◌, Some, refl, sym, ap, subst, inl, inr, All, ◌∙◌}
use Rattle.std.specs.List.{AllByRecursion, AllZip}
use Rattle.std.proofs.lemmas.List.Elements.{All-from_recursion}
use Rattle.std.specs.FinMap as fin
use Rattle.med_base.specs.declared.layout.MetaKind.TheVariants as meta_kind
use Rattle.med_base.specs.declared.kinds.IndexKind.TheVariants as index_kind
use Rattle.med_base.specs.declared.kinds.LatestKind.TheVariants as latest_kind
use Rattle.med_base.proofs.KindsLaw.{kinds_are_told}
use Rattle.med_base.proofs.KindsMade.{built_is_told}
use Rattle.med_base.specs.Classify.{kind_of}
use Rattle.med_base.specs.Content.{Content, Object}
use Rattle.med_base.specs.Fingerprint.{fingerprint_of}
use Rattle.med_base.specs.Key.{IsKey}
use Rattle.med_base.specs.KindRelation.{IsOfKind}
use Rattle.med_base.specs.Kinds.{Entry, HasSecond, IsBackupName, IsFqdn, IsValid, Kind, Latest, Meta, Other, Own, Shared, Stray, path_of}
use Rattle.med_base.specs.Layout.{entry_path, latest_path, meta_path, own_path, shared_path}
use Rattle.med_base.specs.declared.key.FileKey.{FileKey}
use Rattle.med_base.specs.declared.kinds.IndexKind.{IndexKind}
use Rattle.med_base.specs.declared.kinds.LatestKind.{LatestKind}
use Rattle.med_base.specs.declared.layout.MetaKind.{MetaKind}
use Rattle.med_manifest.specs.Manifest.{IsManifest, IsPathOf, IsRecordOf}
use Rattle.med_manifest.specs.Named.{Named, named}
use Rattle.med_manifest.specs.declared.manifest.FileRecord.{FileRecord}

abbrev pub Text : Type 0
Text = List ℕ

-- the path of a kind; nothing is said of strays and others
abbrev pub at : Text → Kind → Text
at before (Shared f key) = shared_path before f key
at before (Own f n key) = own_path before f n key
at before (Meta f n kind) = meta_path before f n kind
at before (Entry f n kind) = entry_path before f n kind
at before (Latest f kind) = latest_path before f kind
at before (Stray f n) = []
at before Other = []

abbrev pub IsProper : Kind → Type 0
IsProper (Stray f n) = ⊥
IsProper Other = ⊥
IsProper _ = Unit {0}

-- the path of this kind is of this kind
abbrev pub HasPath : Text → Kind → Type 0
HasPath before k = kind_of before (at before k) ≡ k

built_at : (before p : Text) (k : Kind) → IsProper k → IsOfKind before p k → p ≡ at before k
built_at before p (Shared f key) proper h = let e = h.built in cc
built_at before p (Own f n key) proper h = let e = h.built in cc
built_at before p (Meta f n kind) proper h = let e = h.built in cc
built_at before p (Entry f n kind) proper h = let e = h.built in cc
built_at before p (Latest f kind) proper h = let e = h.built in cc
built_at before p (Stray f n) proper h = absurd proper
built_at before p Other proper h = absurd proper

valid_built : (before p : Text) (k : Kind) → IsProper k → IsOfKind before p k → IsValid k
valid_built before p (Shared f key) proper h = h.valid
valid_built before p (Own f n key) proper h = h.valid
valid_built before p (Meta f n kind) proper h = h.valid
valid_built before p (Entry f n kind) proper h = h.valid
valid_built before p (Latest f kind) proper h = h.valid
valid_built before p (Stray f n) proper h = absurd proper
valid_built before p Other proper h = absurd proper

built_proper : (before : Text) (k : Kind) → IsProper k → path_of before k ≡ Some (at before k)
built_proper before (Shared f key) proper = refl
built_proper before (Own f n key) proper = refl
built_proper before (Meta f n kind) proper = refl
built_proper before (Entry f n kind) proper = refl
built_proper before (Latest f kind) proper = refl
built_proper before (Stray f n) proper = absurd proper
built_proper before Other proper = absurd proper

-- a path of a built kind is the one that its builder gives
pub only : (before p : Text) → IsProper (kind_of before p) → p ≡ at before (kind_of before p)
only before p proper =
    built_at before p (kind_of before p) proper ((kinds_are_told before p (kind_of before p)).0
    refl)

-- the values of a kind are valid exactly where its path is of the kind
pub path_has : (before : Text) (k : Kind) → IsProper k → IsValid k → HasPath before k
path_has before k proper valid =
    built_is_told before (at before k) k
    (record { valid = valid; built = built_proper before k proper })

pub path_valid : (before : Text) (k : Kind) → IsProper k → HasPath before k → IsValid k
path_valid before k proper h =
    valid_built before (at before k) k proper ((kinds_are_told before (at before k) k).0 h)

pub folder : (before f n : Text) (d e : MetaKind) → HasPath before (Meta f n d)
    → HasPath before (Meta f n e)
folder before f n d e h = path_has before (Meta f n e) tt (path_valid before (Meta f n d) tt h)

pub under : (before f n : Text) (e : IndexKind) (d : MetaKind) → HasPath before (Entry f n e)
    → HasPath before (Meta f n d)
under before f n e d h =
    let v = path_valid before (Entry f n e) tt h in path_has before (Meta f n d) tt (v.0, v.1)

-- the path is of a file of the backup, with its key
abbrev pub IsFileOf : Text → Text → Text → FileRecord → Type 0
IsFileOf before f n r = (kind_of before r.path ≡ Shared f r.key) ⊎ (kind_of before r.path
    ≡ Own f n r.key)

-- the names are names, and the bytes are the manifest of their backup
abbrev pub Reads : Text → Text → Text → Text → List FileRecord → Type 0
Reads before f n b L = HasPath before (Meta f n meta_kind.Manifest) × IsManifest before f n b L

pub file_by_kind : (before f n : Text) (r : FileRecord)
    → HasPath before (Meta f n meta_kind.Manifest) → IsKey r.key → IsPathOf before f n r.key r.path
    → IsFileOf before f n r
file_by_kind before f n r h key (inl e) =
    let v = path_valid before (Meta f n meta_kind.Manifest) tt h in
    inl (ap (kind_of before) e ∙ path_has before (Shared f r.key) tt (v.0, key))
file_by_kind before f n r h key (inr e) =
    let v = path_valid before (Meta f n meta_kind.Manifest) tt h in
    inr (ap (kind_of before) e ∙ path_has before (Own f n r.key) tt (v.0, v.1, key))

record_file : (before f n : Text) (named : Named) (r : FileRecord)
    → HasPath before (Meta f n meta_kind.Manifest) → IsRecordOf before f n named r
    → IsFileOf before f n r
record_file before f n named r h is =
    file_by_kind before f n r h is.key_is.key_is
    (subst (IsPathOf before f n r.key) (sym is.path_is) is.key_is.place_is)

all_files : (before f n : Text) → HasPath before (Meta f n meta_kind.Manifest)
    → (named : List Named) (L : List FileRecord) → AllZip (IsRecordOf before f n) named L
    → AllByRecursion (IsFileOf before f n) L
all_files before f n h [] [] z = tt
all_files before f n h [] (r ∷ rs) z = absurd z
all_files before f n h (x ∷ xs) [] z = tt
all_files before f n h (x ∷ xs) (r ∷ rs) z = (
  record_file before f n x r h z.0,
  all_files before f n
      h xs rs z.1,
)

pub files : (before f n b : Text) (L : List FileRecord) → Reads before f n b L
    → All (IsFileOf before f n) L
files before f n b L (h, is) =
    All-from_recursion (IsFileOf before f n) L (all_files before f n h is.named L is.records.each)

abbrev pub manifest : Text → Text → Text → Text
manifest before f n = at before (Meta f n meta_kind.Manifest)

abbrev pub StandsByKind : Text → Content → Kind → Object → Type 0
StandsByKind before c k o = HasPath before k × (fin.get c (at before k) ≡ Some o)

abbrev pub FinishedByKind : Text → Content → Text → Text → Type 0
FinishedByKind before c f n = (o : Object) × StandsByKind before c (Meta f n meta_kind.Manifest) o

abbrev pub StoredByPath : Text → Content → FileRecord → Type 0
StoredByPath before c r = (o : Object) × (fin.get c r.path ≡ Some o) × (fingerprint_of o.bytes
    ≡ r.fingerprint)

pub record IsWholeBy (before : Text) (c : Content) (f n : Text) (o : Object)
    (L : List FileRecord) : Type 0 where
  pub stands : StandsByKind before c (Meta f n meta_kind.Manifest) o
  pub reads : Reads before f n o.bytes L
  pub stored : All (StoredByPath before c) L

abbrev pub WholeByKind : Text → Content → Text → Text → Type 0
WholeByKind before c f n = (o : Object) × (L : List FileRecord) × IsWholeBy before c f n o L

pub record SoundByKind (before : Text) (c : Content) (f : Text) : Type 0 where
  pub entry : (n : Text) (o : Object) → StandsByKind before c (Entry f n index_kind.Manifest) o
      → (x : Object) × StandsByKind before c (Meta f n meta_kind.Manifest) x × (x.bytes ≡ o.bytes)
  pub finished : (n : Text) (t : ℕ) (o : Object) → StandsByKind before c
      (Entry f n (index_kind.Finished t)) o → (x : Object) × StandsByKind before c
      (Meta f n meta_kind.Manifest) x × (x.second ≡ t)
  pub latest : (o : Object) → StandsByKind before c (Latest f latest_kind.Name) o
      → FinishedByKind before c f o.bytes

-- the texts are the names of a backup, of a node and of the three parts of a key
pub record NameByKind (before f n : Text) : Type 0 where
  pub meta : (e : MetaKind) → HasPath before (Meta f n e)
  pub entry : (e : IndexKind) → HasSecond e → HasPath before (Entry f n e)

pub record NodeByKind (before f : Text) : Type 0 where
  pub latest : (e : LatestKind) → HasPath before (Latest f e)

pub record KeyByKind (before f n : Text) (k : FileKey) : Type 0 where
  pub shared : HasPath before (Shared f k)
  pub own : HasPath before (Own f n k)

pub node_by_kind : (before f : Text) → IsFqdn f → NodeByKind before f
node_by_kind before f node = record { latest = λ e. path_has before (Latest f e) tt node }

pub name_by_kind : (before f n : Text) → IsFqdn f → IsBackupName n → NameByKind before f n
name_by_kind before f n node name = record {
  meta = λ e. path_has before (Meta f n e) tt (node, name);
  entry = λ e second. path_has before (Entry f n e) tt (node, name, second);
}

pub key_by_kind : (before f n : Text) (k : FileKey) → IsFqdn f → IsBackupName n → IsKey k
    → KeyByKind before f n k
key_by_kind before f n k node name key = record {
  shared = path_has before (Shared f k) tt (node, key);
  own = path_has before (Own f n k) tt (node, name, key);
}

pub manifest_path : (before p f n : Text) → kind_of before p ≡ Meta f n meta_kind.Manifest → p
    ≡ manifest before f n
manifest_path before p f n e = only before p (subst IsProper (sym e) tt) ∙ ap (at before) e
