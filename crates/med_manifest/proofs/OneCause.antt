-- Bytes are refused for one cause at most.
use Rattle.std.proofs.Common.{◌≡◌, ◌∙◌, inl, inr, ℕ, List, length, Some, None, refl, sym, ap, subst, ◌++◌, ◌∷◌}
use Rattle.std.specs.List.{AllZip}
use Rattle.serde_json.specs.Data.{Data, Items}
use Rattle.med_base.proofs.Cuts.{Cuts, two_cuts, first_failing_once}
use Rattle.med_json.specs.Tree.{IsText, items_in, IsNoText}
use Rattle.med_json.proofs.TreeLemmas.{tree_once, no_text}
use Rattle.med_manifest.specs.declared.manifest.FileRecord.{FileRecord}
use Rattle.med_manifest.specs.declared.why.ManifestWhy.{ManifestWhy}
use Rattle.med_manifest.specs.declared.why.ManifestWhy.TheVariants.{NotJson, NotManifest, BadDigest, ForeignPath, DuplicatePath}
use Rattle.med_manifest.specs.Manifest.{IsRecordOf}
use Rattle.med_manifest.specs.Named.{Named, IsShaped, IsFirstUnshaped, HasFiles, NamesFiles}
use Rattle.med_manifest.specs.Refusals.{IsUnshapedAt, no_list, no_table, HasFault, IsFirstFault, NamesFault, CausesAreOne, RefusedAreNone, IsRefused}
use Rattle.med_manifest.proofs.Once.{named_once, records_once}
use Rattle.med_manifest.proofs.Refused.{no_records, not_shaped, refused}

pub refused_none : RefusedAreNone
refused_none before f n bytes why is = refused before f n bytes why is

-- ---- items that are no tables

unshaped_same : (ds : List Data) (a b : ℕ) → IsFirstUnshaped ds a → IsFirstUnshaped ds b → a ≡ b
unshaped_same ds a b p q =
    p.at_is
    ∙ ap length (first_failing_once IsShaped p.good p.bad p.rest q.good q.bad q.rest
    (sym p.items_are ∙ q.items_are) p.tables_before q.tables_before p.no_table q.no_table).0
    ∙ sym q.at_is

trees_same : (tree : Data) (a b : ℕ) → IsUnshapedAt tree a → IsUnshapedAt tree b → a ≡ b
trees_same tree a b (no_list none zero) (no_list other also) = zero ∙ sym also
trees_same tree a b (no_list none zero) (no_table list is first) =
    let bad : None ≡ Some list = sym none ∙ is in absurd (cc bad)
trees_same tree a b (no_table list is first) (no_list none zero) =
    let bad : None ≡ Some list = sym none ∙ is in absurd (cc bad)
trees_same tree a b (no_table list is first) (no_table other also second) =
    let same : other ≡ list = cc (sym also ∙ is) in
    unshaped_same (items_in list) a b first
    (subst (λ (items : Items). IsFirstUnshaped (items_in items) b) same second)

-- ---- files at fault

module _ (before f n : List ℕ) where
  -- one file behind the same files has one fault
  fault_same : (earlier : List FileRecord) (bad : Named) (v w : ManifestWhy)
      → HasFault before f n earlier bad v → HasFault before f n earlier bad w → v ≡ w
  fault_same earlier bad NotJson w p q = absurd p
  fault_same earlier bad (NotManifest a) w p q = absurd p
  fault_same earlier bad (BadDigest a) NotJson p q = absurd q
  fault_same earlier bad (BadDigest a) (NotManifest b) p q = absurd q
  fault_same earlier bad (BadDigest a) (BadDigest b) p q =
      ap (λ (at : ℕ). BadDigest at) (p.0 ∙ sym q.0)
  fault_same earlier bad (BadDigest a) (ForeignPath path) p q =
      absurd (p.1 q.1.md5 q.1.spelled)
  fault_same earlier bad (BadDigest a) (DuplicatePath path) p q =
      absurd (p.1 q.1.again.fingerprint.md5 q.1.is.md5_is)
  fault_same earlier bad (ForeignPath path) NotJson p q = absurd q
  fault_same earlier bad (ForeignPath path) (NotManifest b) p q = absurd q
  fault_same earlier bad (ForeignPath path) (BadDigest b) p q =
      absurd (q.1 p.1.md5 p.1.spelled)
  fault_same earlier bad (ForeignPath path) (ForeignPath other) p q =
      ap (λ (text : List ℕ). ForeignPath text) (p.0 ∙ sym q.0)
  fault_same earlier bad (ForeignPath path) (DuplicatePath other) p q =
      absurd (p.1.foreign q.1.again.key q.1.is.key_is)
  fault_same earlier bad (DuplicatePath path) NotJson p q = absurd q
  fault_same earlier bad (DuplicatePath path) (NotManifest b) p q = absurd q
  fault_same earlier bad (DuplicatePath path) (BadDigest b) p q =
      absurd (q.1 p.1.again.fingerprint.md5 p.1.is.md5_is)
  fault_same earlier bad (DuplicatePath path) (ForeignPath other) p q =
      absurd (q.1.foreign p.1.again.key p.1.is.key_is)
  fault_same earlier bad (DuplicatePath path) (DuplicatePath other) p q =
      ap (λ (text : List ℕ). DuplicatePath text) (p.0 ∙ sym q.0)

  -- no file at fault stands before another that is the first
  no_earlier : (files : List Named) (v w : ManifestWhy) (p : IsFirstFault before f n files v)
      (q : IsFirstFault before f n files w) (m : List Named) → q.good ≡ p.good ++ p.bad ∷ m → ⊥
  no_earlier files v w p q m is =
      no_records before f n v q.good q.earlier
      (record {
        good = p.good;
        bad = p.bad;
        rest = m;
        files_are = is;
        earlier = p.earlier;
        records = p.records;
        fault = p.fault;
      })
      q.records

  first_same : (files : List Named) (v w : ManifestWhy) (p : IsFirstFault before f n files v)
      (q : IsFirstFault before f n files w) → Cuts p.good p.bad q.good q.bad → v ≡ w
  first_same files v w p q (inl (goods, bads)) =
      let other : AllZip (IsRecordOf before f n) p.good q.earlier =
      subst (λ (fs : List Named). AllZip (IsRecordOf before f n) fs q.earlier) (sym goods)
      q.records.each in
      let same : q.earlier ≡ p.earlier =
      records_once before f n p.good q.earlier p.earlier other p.records.each in
      fault_same p.earlier p.bad v w p.fault
      (subst (λ (file : Named). HasFault before f n p.earlier file w) (sym bads)
      (subst (λ (rs : List FileRecord). HasFault before f n rs q.bad w) same q.fault))
  first_same files v w p q (inr (inl (m, is))) = absurd (no_earlier files v w p q m is)
  first_same files v w p q (inr (inr (m, is))) = absurd (no_earlier files w v q p m is)

  files_same : (bytes : List ℕ) (v w : ManifestWhy) → NamesFault before f n bytes v
      → NamesFault before f n bytes w → v ≡ w
  files_same bytes v w p q =
      let named = named_once bytes q.files p.files q.names p.names in
      let other : IsFirstFault before f n p.files w =
      subst (λ (fs : List Named). IsFirstFault before f n fs w) named q.first in
      first_same p.files v w p.first other
      (two_cuts p.first.good p.first.bad p.first.rest other.good other.bad other.rest
      (sym p.first.files_are ∙ other.files_are))

-- ---- causes of several kinds

-- tables and no tables
no_tables : (bytes : List ℕ) (at : ℕ) (tree : Data) (files : List Named) → IsText bytes tree
    → IsUnshapedAt tree at → NamesFiles bytes files → ⊥
no_tables bytes at tree files text unshaped names =
    not_shaped tree at files unshaped
    (subst (λ (d : Data). HasFiles d files)
    (tree_once bytes names.tree tree names.text text) names.has)

-- what is told of the bytes that have a cause
data Told (before f n bytes : List ℕ) (why : ManifestWhy) : Type 0 where
  no_text_told : IsNoText bytes → why ≡ NotJson → Told before f n bytes why
  unshaped_told : (at : ℕ) (tree : Data) → IsText bytes tree → IsUnshapedAt tree at
      → why ≡ NotManifest at → Told before f n bytes why
  names_told : NamesFault before f n bytes why → Told before f n bytes why

told_of : (before f n bytes : List ℕ) (why : ManifestWhy) → IsRefused before f n bytes why
    → Told before f n bytes why
told_of before f n bytes NotJson p = no_text_told p refl
told_of before f n bytes (NotManifest at) p = unshaped_told at p.0 p.1 p.2 refl
told_of before f n bytes (BadDigest at) p = names_told p
told_of before f n bytes (ForeignPath path) p = names_told p
told_of before f n bytes (DuplicatePath path) p = names_told p

told_once : (before f n bytes : List ℕ) (v w : ManifestWhy) → Told before f n bytes v
    → Told before f n bytes w → v ≡ w
told_once before f n bytes v w (no_text_told p is) (no_text_told q as_well) = is ∙ sym as_well
told_once before f n bytes v w (no_text_told p is) (unshaped_told b tree text q as_well) =
    absurd (no_text bytes tree p text)
told_once before f n bytes v w (no_text_told p is) (names_told q) =
    absurd (no_text bytes q.names.tree p q.names.text)
told_once before f n bytes v w (unshaped_told a tree text p is) (no_text_told q as_well) =
    absurd (no_text bytes tree q text)
told_once before f n bytes v w (unshaped_told a tree text p is)
    (unshaped_told b other read q as_well) =
    let same = tree_once bytes other tree read text in
    is
    ∙ ap (λ (at : ℕ). NotManifest at)
    (trees_same tree a b p (subst (λ (d : Data). IsUnshapedAt d b) same q))
    ∙ sym as_well
told_once before f n bytes v w (unshaped_told a tree text p is) (names_told q) =
    absurd (no_tables bytes a tree q.files text p q.names)
told_once before f n bytes v w (names_told p) (no_text_told q as_well) =
    absurd (no_text bytes p.names.tree q p.names.text)
told_once before f n bytes v w (names_told p) (unshaped_told b tree text q as_well) =
    absurd (no_tables bytes b tree p.files text q p.names)
told_once before f n bytes v w (names_told p) (names_told q) =
    files_same before f n bytes v w p q

pub cause_once : CausesAreOne
cause_once before f n bytes v w p q =
    told_once before f n bytes v w (told_of before f n bytes v p) (told_of before f n bytes w q)
