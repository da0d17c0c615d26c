-- A loop that reads named files into records, and stops at the first fault.
use Rattle.std.proofs.Common.{◌≡◌, ◌∙◌, ◌<◌, ◌+◌, ◌||◌, ℕ, suc, Bool, true, false, cond, refl, sym, ap, subst, List, [], ◌∷◌, ◌++◌, map, length, take, drop, get_or, arith}
use Rattle.std.specs.BTreeSet.{BTreeSet, contains, Updates}
use Rattle.std.specs.Cmp.{eq_by_cmp_equiv, Equal-is}
use Rattle.std.specs.List.{IsDistinct, list_any}
use Rattle.std.proofs.lemmas.List.{map-append}
use Rattle.std.proofs.lemmas.List.Folds.{list_any-append}
use Rattle.std.proofs.lemmas.Map.Keys.{IsDistinct-push}
use Rattle.std.proofs.lemmas.Map.Views.{Contains-from_any}
use Rattle.med_base.specs.declared.key.FileKey.{FileKey}
use Rattle.med_base.specs.declared.memory.OrMemory.{OrMemory}
use Rattle.med_base.specs.Key.{key_cmp, key_eq}
use Rattle.med_base.specs.KeyOrder.{key_total, key_exact}
use Rattle.med_base.specs.Memory.{WhyIs}
use Rattle.med_base.proofs.Lists.{zip_next, length_zip, map_around, length_front}
use Rattle.med_base.proofs.WhyLemmas.{why_weaker}
use Rattle.med_manifest.specs.declared.manifest.FileRecord.{FileRecord}
use Rattle.med_manifest.specs.declared.shape.NamedFile.{NamedFile}
use Rattle.med_manifest.specs.declared.why.ManifestWhy.TheVariants.{NotJson, NotManifest, BadDigest, ForeignPath, DuplicatePath}
use Rattle.med_manifest.specs.Manifest.{IsRecordOf, AreRecords}
use Rattle.med_manifest.specs.Named.{named}
use Rattle.med_manifest.specs.Refusals.{IsFirstFault, HasFault}
use Rattle.med_manifest.specs.Seen.{IsSeen}
use Rattle.med_manifest.specs.declared.why.ManifestWhy.{ManifestWhy}

pub none_distinct : IsDistinct key_eq []
unfolding IsDistinct
none_distinct = tt

-- the default of a look-up in a list of named files
abbrev pub nothing : NamedFile
nothing = record {
  keyspace = record { ref_ptr = (0, 0); now = [] };
  table = record { ref_ptr = (0, 0); now = [] };
  path = record { ref_ptr = (0, 0); now = [] };
  size = 0;
  md5 = record { ref_ptr = (0, 0); now = [] };
}

abbrev pub keys_of : List FileRecord → List FileKey
keys_of records = map (λ (r : FileRecord). r.key) records

-- keys that no part tells apart are one key
pub same_key : (a b : FileKey) → key_eq a b ≡ true → a ≡ b
same_key a b e = key_exact a b ((Equal-is (key_cmp a b)).0 e)

module _ (before f n : List ℕ) (files : List NamedFile) (i : ℕ) (raw : NamedFile)
    (earlier : List FileRecord) (lt : i < length files) (at : raw ≡ get_or files i raw)
    (are : AreRecords before f n (map named (take i files)) earlier) where
  count : length earlier ≡ i
  count =
      sym (length_zip (IsRecordOf before f n) (map named (take i files)) earlier are.each)
      ∙ length_front named files i (omega arith)

  -- the first fault of all files is that of the next file
  first_at : (why : ManifestWhy) → HasFault before f n earlier (named raw) why
      → IsFirstFault before f n (map named files) why
  first_at why fault = record {
    good = map named (take i files);
    bad = named raw;
    rest = map named (drop (suc i) files);
    files_are = map_around named files i raw lt at;
    earlier = earlier;
    records = are;
    fault = fault;
  }

  -- an error over the next file is one over all files
  pub first_fault : (e : OrMemory ManifestWhy)
      → ((es : List FileRecord) → length es ≡ i → WhyIs (HasFault before f n es (named raw)) e)
      → WhyIs (IsFirstFault before f n (map named files)) e
  first_fault e has =
      why_weaker (HasFault before f n earlier (named raw))
      (IsFirstFault before f n (map named files)) first_at e (has earlier count)

  -- the next file is one that was seen
  pub repeated : (r : FileRecord) → IsRecordOf before f n (named raw) r
      → list_any (key_eq r.key) (keys_of earlier) ≡ true
      → IsFirstFault before f n (map named files) (DuplicatePath r.path)
  repeated r is seen = first_at (DuplicatePath r.path) (
    is.path_is,
    record {
      again = r;
      is = is;
      stood = Contains-from_any same_key r.key (keys_of earlier) seen;
    },
  )

  -- a fault of the record of the next file is the first of all files
  seen_first : (seen : BTreeSet FileKey) (r : FileRecord) (why : ManifestWhy)
      → ((k : FileKey) → contains key_cmp seen k ≡ list_any (key_eq k) (keys_of earlier))
      → IsRecordOf before f n (named raw) r → IsSeen seen r why
      → IsFirstFault before f n (map named files) why
  seen_first seen r NotJson same is has = absurd has
  seen_first seen r (NotManifest at) same is has = absurd has
  seen_first seen r (BadDigest at) same is has = absurd has
  seen_first seen r (ForeignPath path) same is has = absurd has
  seen_first seen r (DuplicatePath path) same is has =
      subst (λ (p : List ℕ). IsFirstFault before f n (map named files) (DuplicatePath p))
      (sym has.0) (repeated r is (sym (same r.key) ∙ has.1))

  -- an error over it is one over all files
  pub seen_fault : (seen : BTreeSet FileKey) (r : FileRecord) (e : OrMemory ManifestWhy)
      → ((k : FileKey) → contains key_cmp seen k ≡ list_any (key_eq k) (keys_of earlier))
      → IsRecordOf before f n (named raw) r → WhyIs (IsSeen seen r) e
      → WhyIs (IsFirstFault before f n (map named files)) e
  seen_fault seen r e same is =
      why_weaker (IsSeen seen r) (IsFirstFault before f n (map named files))
      (λ why has. seen_first seen r why same is has) e

  -- the next file is one that was not
  pub records_next : (r : FileRecord) (all : List FileRecord) → IsRecordOf before f n (named raw) r
      → list_any (key_eq r.key) (keys_of earlier) ≡ false → all ≡ earlier ++ r ∷ []
      → AreRecords before f n (map named (take (i + 1) files)) all
  records_next r all is fresh all_are = record {
    each =
        zip_next (IsRecordOf before f n) named files earlier all i raw r lt at are.each is
        all_are;
    once =
        subst (IsDistinct key_eq)
        (sym (ap keys_of all_are ∙ map-append (λ (q : FileRecord). q.key) earlier (r ∷ [])))
        (IsDistinct-push (eq_by_cmp_equiv key_total) (keys_of earlier) r.key are.once fresh);
  }

or_last : (a b : Bool) → cond b true a ≡ (a || (b || false))
or_last true true = refl
or_last true false = refl
or_last false true = refl
or_last false false = refl

-- the keys seen are those of the records
pub seen_next : (old new : BTreeSet FileKey) (r : FileRecord) (earlier all : List FileRecord)
    → Updates key_cmp old new r.key true
    → ((k : FileKey) → contains key_cmp old k ≡ list_any (key_eq k) (keys_of earlier))
    → all ≡ earlier ++ r ∷ []
    → (k : FileKey) → contains key_cmp new k ≡ list_any (key_eq k) (keys_of all)
seen_next old new r earlier all update seen all_are k =
    let flip : key_eq r.key k ≡ key_eq k r.key = (eq_by_cmp_equiv key_total).symm r.key k in
    let keys : keys_of all ≡ keys_of earlier ++ r.key ∷ [] =
    ap keys_of all_are ∙ map-append (λ (q : FileRecord). q.key) earlier (r ∷ []) in
    let with_last : list_any (key_eq k) (keys_of all)
    ≡ (list_any (key_eq k) (keys_of earlier) || (key_eq k r.key || false)) =
    ap (list_any (key_eq k)) keys ∙ list_any-append (key_eq k) (keys_of earlier) (r.key ∷ []) in
    update.0 k ∙ ap (λ (b : Bool). cond b true (contains key_cmp old k)) flip
    ∙ or_last (contains key_cmp old k) (key_eq k r.key)
    ∙ ap (λ (b : Bool). b || (key_eq k r.key || false)) (seen k)
    ∙ sym with_last
