-- How a table's name is divided before its first dot.
use Rattle.std.proofs.Common.{◌≡◌, ◌<◌, ◌++◌, ℕ, List, length, arith, codes}
use Rattle.std.specs.List.{position_or_len, after_first}
use Rattle.std.proofs.lemmas.Bool.Decides.{nat_tests}
use Rattle.med_folder.specs.Snapshots.{is_dot, index_folder}

-- the folder of an index
pub folder_below : (folder table : List ℕ) → position_or_len is_dot table < length table
    → index_folder folder table ≡ folder ++ codes "/." ++ after_first is_dot table
folder_below folder table h = grind (arith, nat_tests)
