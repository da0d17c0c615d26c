-- What stands before the last slash of a path.
use Rattle.std.proofs.Common.{◌≡◌, ◌<◌, ◌+◌, ◌∙◌, inr, ℕ, suc, List, sym, arith, length, take, drop, get_or}
use Rattle.std.specs.Prelude.{◌≢◌}
use Rattle.std.proofs.lemmas.List.{get_or-drop, length-drop, get_or_default}
use Rattle.med_base.proofs.Lists.{cut_around}
use Rattle.med_folder.specs.Place.{HasNoSlash, IsParent}

no_slash_behind : (path : List ℕ) (at : ℕ) → at < length path
    → ((i : ℕ) → at < i → i < length path → get_or path i 0 ≢ 47) → HasNoSlash (drop (suc at) path)
no_slash_behind path at inside last i lt e =
    last (suc at + i) (omega arith) (omega (arith, length-drop (suc at) path))
    (sym (get_or-drop (suc at) path i 0) ∙ e)

-- the parent is what stands before the last slash
pub parent_before : (path : List ℕ) (at : ℕ) → at < length path → get_or path at 0 ≡ 47
    → ((i : ℕ) → at < i → i < length path → get_or path i 0 ≢ 47) → IsParent path (take at path)
parent_before path at inside slash last = inr (
  drop (suc at) path,
  no_slash_behind path at inside last,
  cut_around path at 47 inside (sym slash ∙ get_or_default path at 0 47 inside),
)
