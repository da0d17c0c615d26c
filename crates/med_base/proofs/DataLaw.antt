-- Which paths are data follows from their kinds.
use Rattle.std.proofs.Common.{◌≡◌, ℕ, List, true, Some, refl, ap}
use Rattle.med_base.specs.Classify.{is_data_kind, is_data, kind_of}
use Rattle.med_base.specs.DataPaths.{IsDataPath, is_shared, is_own, DataIsTold, BuildersOfData}
use Rattle.med_base.specs.KindRelation.{IsOfKind}
use Rattle.med_base.specs.Kinds.{Kind, Shared, Own, Meta, Entry, Latest, Stray, Other, IsValid, path_of}
use Rattle.med_base.proofs.KindsLaw.{kind_told}
use Rattle.med_base.proofs.KindsMade.{built_is_told}

as_its_kind : (before path : List ℕ) (k : Kind) → IsValid k → path_of before k ≡ Some path
    → is_data before path ≡ is_data_kind k
as_its_kind before path k valid built = ap is_data_kind
    (built_is_told before path k (record { valid = valid; built = built }))

pub builders_of_data : BuildersOfData
builders_of_data = record {
  shared = λ before f key node valid. as_its_kind before _ (Shared f key) (node, valid) refl;
  own = λ before f n key node backup valid.
      as_its_kind before _ (Own f n key) (node, backup, valid) refl;
  meta = λ before f n kind node backup.
      as_its_kind before _ (Meta f n kind) (node, backup) refl;
  entry = λ before f n kind node backup second.
      as_its_kind before _ (Entry f n kind) (node, backup, second) refl;
  latest = λ before f kind node. as_its_kind before _ (Latest f kind) node refl;
}

built_there : (before path : List ℕ) (k : Kind) → IsOfKind before path k → is_data_kind k ≡ true
    → IsDataPath before path
built_there before path (Shared f key) b e = is_shared f key b
built_there before path (Own f n key) b e = is_own f n key b
built_there before path (Meta f n kind) b e = absurd (cc)
built_there before path (Entry f n kind) b e = absurd (cc)
built_there before path (Latest f kind) b e = absurd (cc)
built_there before path (Stray f n) s e = absurd (cc)
built_there before path Other o e = absurd (cc)

data_back : (before path : List ℕ) → IsDataPath before path → is_data before path ≡ true
data_back before path (is_shared f key b) =
    as_its_kind before path (Shared f key) b.valid b.built
data_back before path (is_own f n key b) = as_its_kind before path (Own f n key) b.valid b.built

pub data_is_told : DataIsTold
data_is_told before path = (
  built_there before path (kind_of before path) (kind_told before path),
  data_back before path,
)
