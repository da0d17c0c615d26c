-- Records that are split into their files and how these came to their paths, and joined again.
use Rattle.std.proofs.Common.{◌≡◌, suc, List, [], ◌∷◌, map, length, refl, ap, ap₂, arith}
use Rattle.std.specs.List.{zip}
use Rattle.med_core.specs.declared.records.How.{How}
use Rattle.med_core.specs.declared.records.Record.{Record}
use Rattle.med_manifest.specs.declared.manifest.FileRecord.{FileRecord}
use Rattle.med_shelf.specs.Records.{files_of, keys_of}

-- how the file of each record came to its path
abbrev pub hows_in : List Record → List How
hows_in rs = map (λ (r : Record). r.how) rs

abbrev pub joined : FileRecord × How → Record
joined pair = record { file = pair.0; how = pair.1 }

-- the keys of the files are those of the records
pub keys_of_files : (rs : List Record)
    → map (λ (file : FileRecord). file.key) (files_of rs) ≡ keys_of rs
keys_of_files [] = refl
keys_of_files (r ∷ rs) = ap (λ l. r.file.key ∷ l) (keys_of_files rs)

-- there are as many of both
pub as_many : (rs : List Record) → length (files_of rs) ≡ length (hows_in rs)
as_many [] = refl
as_many (r ∷ rs) = ap suc (as_many rs)

-- both together tell the records
pub same_records : (rs others : List Record) → files_of rs ≡ files_of others
    → hows_in rs ≡ hows_in others → rs ≡ others
same_records [] [] files hows = refl
same_records [] (q ∷ others) files hows = absurd (cc files)
same_records (r ∷ rs) [] files hows = absurd (cc files)
same_records (r ∷ rs) (q ∷ others) files hows =
    let file : r.file ≡ q.file = cc files in
    let how : r.how ≡ q.how = cc hows in
    ap₂ (λ x l. x ∷ l) (λ i. record { file = file i; how = how i })
    (same_records rs others (cc files) (cc hows))

-- joined records have these files, and these came so to their paths
pub files_joined : (files : List FileRecord) (hows : List How) → length files ≡ length hows
    → files_of (map joined (zip files hows)) ≡ files
files_joined [] [] same = refl
files_joined [] (how ∷ hows) same = refl
files_joined (file ∷ files) [] same = absurd (omega (arith, same))
files_joined (file ∷ files) (how ∷ hows) same =
    ap (λ l. file ∷ l) (files_joined files hows (omega (arith, same)))

pub hows_joined : (files : List FileRecord) (hows : List How) → length files ≡ length hows
    → hows_in (map joined (zip files hows)) ≡ hows
hows_joined [] [] same = refl
hows_joined [] (how ∷ hows) same = absurd (omega (arith, same))
hows_joined (file ∷ files) [] same = refl
hows_joined (file ∷ files) (how ∷ hows) same =
    ap (λ l. how ∷ l) (hows_joined files hows (omega (arith, same)))
