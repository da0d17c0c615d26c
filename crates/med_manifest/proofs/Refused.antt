-- Bytes that are refused are the manifest of the backup with no files whatever.
use Rattle.std.proofs.Common.{◌≡◌, ◌∙◌, ℕ, false, true≢false, Some, None, refl, sym, ap, subst, List, [], ◌∷◌, ◌++◌}
use Rattle.std.specs.Cmp.{eq_by_cmp_equiv}
use Rattle.std.specs.List.{AllZip, AllByRecursion, IsDistinct, list_any, Contains}
use Rattle.std.proofs.lemmas.List.{map-append}
use Rattle.std.proofs.lemmas.Map.Views.{list_any-from_Contains}
use Rattle.serde_json.specs.Data.{Data, Items}
use Rattle.med_base.specs.declared.key.FileKey.{FileKey}
use Rattle.med_base.specs.declared.memory.OrMemory.{OrMemory}
use Rattle.med_base.specs.Key.{key_eq}
use Rattle.med_base.specs.KeyOrder.{key_total}
use Rattle.med_base.specs.Memory.{WhyIs}
use Rattle.med_base.proofs.Lists.{IsCut, zip_cut}
use Rattle.med_base.proofs.WhyLemmas.{why_weaker}
use Rattle.med_json.specs.Tree.{items_in}
use Rattle.med_json.proofs.TreeLemmas.{tree_once, no_text}
use Rattle.med_manifest.specs.declared.manifest.FileRecord.{FileRecord}
use Rattle.med_manifest.specs.declared.why.ManifestWhy.{ManifestWhy}
use Rattle.med_manifest.specs.declared.why.ManifestWhy.TheVariants.{NotJson, NotManifest, BadDigest, ForeignPath, DuplicatePath}
use Rattle.med_manifest.specs.Manifest.{IsRecordOf, AreRecords, IsManifest}
use Rattle.med_manifest.specs.Named.{Named, IsTable, AreTables, HasFiles, NamesFiles}
use Rattle.med_manifest.specs.Refusals.{IsUnshapedAt, no_list, no_table, HasFault, IsFirstFault, NamesFault, IsRefused, IsNoManifest}
use Rattle.med_manifest.proofs.Once.{named_once, record_once, records_once}
use Rattle.med_manifest.proofs.RecordLemmas.{keys_of}

-- a key behind others from which it is distinct is none of them
not_before : (xs : List FileKey) (k : FileKey) (ys : List FileKey)
    → IsDistinct key_eq (xs ++ k ∷ ys) → list_any (key_eq k) xs ≡ false
unfolding IsDistinct
not_before [] k ys d = refl
not_before (x ∷ xs) k ys d =
    let laws = eq_by_cmp_equiv key_total in
    let here : key_eq k x ≡ false = laws.symm k x ∙ among xs d.0 in
    rw here (not_before xs k ys d.1)
  where
    among : (us : List FileKey) → AllByRecursion (λ j. key_eq x j ≡ false) (us ++ k ∷ ys)
        → key_eq x k ≡ false
    among [] all = all.0
    among (a ∷ us) all = among us all.1

-- the first fault of these files leaves no records of them
pub no_records : (before f n : List ℕ) (why : ManifestWhy) (files : List Named)
    (records : List FileRecord)
    → IsFirstFault before f n files why → AreRecords before f n files records → ⊥
no_records before f n why files records first are =
    let zip : AllZip (IsRecordOf before f n) (first.good ++ first.bad ∷ first.rest) records =
    subst (λ (fs : List Named). AllZip (IsRecordOf before f n) fs records) first.files_are
    are.each in
    by why first.fault
    (zip_cut (IsRecordOf before f n) first.good first.bad first.rest records zip)
  where
    by : (w : ManifestWhy) → HasFault before f n first.earlier first.bad w
        → IsCut (IsRecordOf before f n) first.good first.bad first.rest records → ⊥
    by NotJson h cut = h
    by (NotManifest at) h cut = h
    by (BadDigest at) h cut = h.1 cut.here.fingerprint.md5 cut.is.md5_is
    by (ForeignPath path) h cut = h.1.foreign cut.here.key cut.is.key_is
    by (DuplicatePath path) h cut =
        let same : first.earlier ≡ cut.before =
        records_once before f n first.good first.earlier cut.before first.records.each cut.front in
        let key : h.1.again ≡ cut.here =
        record_once before f n first.bad h.1.again cut.here h.1.is cut.is in
        let keys = keys_of cut.before in
        let stood : Contains keys cut.here.key =
        subst (λ (r : FileRecord). Contains keys r.key) key
        (subst (λ (rs : List FileRecord). Contains (keys_of rs) h.1.again.key) same h.1.stood) in
        let seen = list_any-from_Contains (eq_by_cmp_equiv key_total) cut.here.key keys stood in
        let once : IsDistinct key_eq (keys ++ cut.here.key ∷ keys_of cut.behind) =
        subst (IsDistinct key_eq)
        (ap keys_of cut.parts
        ∙ map-append (λ (r : FileRecord). r.key) cut.before (cut.here ∷ cut.behind)) are.once in
        let fresh = not_before keys cut.here.key (keys_of cut.behind) once in
        true≢false (sym seen ∙ fresh)

named_fault : (before f n bytes : List ℕ) (why : ManifestWhy) (files : List FileRecord)
    → NamesFault before f n bytes why → IsManifest before f n bytes files → ⊥
named_fault before f n bytes why files fault is =
    let same = named_once bytes is.named fault.files is.names fault.names in
    no_records before f n why fault.files files fault.first
    (subst (λ (fs : List Named). AreRecords before f n fs files) same is.records)

pub not_shaped : (tree : Data) (at : ℕ) (files : List Named) → IsUnshapedAt tree at
    → HasFiles tree files → ⊥
not_shaped tree at files (no_list none zero) has =
    let bad : None ≡ Some has.list = sym none ∙ has.list_is in cc bad
not_shaped tree at files (no_table list is first) has =
    let same : has.list ≡ list = cc (sym has.list_is ∙ is) in
    let tables = subst (λ (items : Items). AreTables (items_in items) files) same has.tables in
    let zip : AllZip IsTable (first.good ++ first.bad ∷ first.rest) tables.tables =
    subst (λ (ds : List Data). AllZip IsTable ds tables.tables) first.items_are tables.tables_are in
    let cut = zip_cut IsTable first.good first.bad first.rest tables.tables zip in
    first.no_table (cut.here, cut.is)

pub refused : (before f n bytes : List ℕ) (why : ManifestWhy) → IsRefused before f n bytes why
    → IsNoManifest before f n bytes
refused before f n bytes NotJson is files manifest =
    no_text bytes manifest.names.tree is manifest.names.text
refused before f n bytes (NotManifest at) is files manifest =
    let same = tree_once bytes manifest.names.tree is.0 manifest.names.text is.1 in
    not_shaped is.0 at manifest.named is.2
    (subst (λ (d : Data). HasFiles d manifest.named) same manifest.names.has)
refused before f n bytes (BadDigest at) is files manifest =
    named_fault before f n bytes (BadDigest at) files is manifest
refused before f n bytes (ForeignPath path) is files manifest =
    named_fault before f n bytes (ForeignPath path) files is manifest
refused before f n bytes (DuplicatePath path) is files manifest =
    named_fault before f n bytes (DuplicatePath path) files is manifest

-- an error with its cause leaves no manifest
pub error_refused : (before f n bytes : List ℕ) (e : OrMemory ManifestWhy)
    → WhyIs (IsRefused before f n bytes) e → WhyIs (λ _. IsNoManifest before f n bytes) e
error_refused before f n bytes =
    why_weaker (IsRefused before f n bytes) (λ _. IsNoManifest before f n bytes)
    (refused before f n bytes)

-- the first fault of named files is that of their text
pub fault_refused : (before f n bytes : List ℕ) (files : List Named) (why : ManifestWhy)
    → NamesFiles bytes files → IsFirstFault before f n files why → IsRefused before f n bytes why
fault_refused before f n bytes files NotJson names first = absurd first.fault
fault_refused before f n bytes files (NotManifest at) names first = absurd first.fault
fault_refused before f n bytes files (BadDigest at) names first =
    record { files = files; names = names; first = first }
fault_refused before f n bytes files (ForeignPath path) names first =
    record { files = files; names = names; first = first }
fault_refused before f n bytes files (DuplicatePath path) names first =
    record { files = files; names = names; first = first }

-- an error over named files is one over their text
pub files_refused : (before f n bytes : List ℕ) (files : List Named) (e : OrMemory ManifestWhy)
    → NamesFiles bytes files → WhyIs (IsFirstFault before f n files) e
    → WhyIs (IsRefused before f n bytes) e
files_refused before f n bytes files e names =
    why_weaker (IsFirstFault before f n files) (IsRefused before f n bytes)
    (λ why first. fault_refused before f n bytes files why names first) e
