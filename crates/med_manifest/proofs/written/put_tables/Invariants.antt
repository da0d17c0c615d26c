use Rattle.std.proofs.Common.{◌≡◌, ◌++◌, map, length}
use Rattle.med_manifest.specs.Tokens.{tokens_of_all}
use Rattle.med_manifest.specs.Written.{HaveFingerprints, table_data, tables}
use Rattle.med_manifest.proofs.written.put_tables.Given as goal

-- the tokens so far and those of the tables that are left are those of all tables, what stood
-- before them stays, and all files have fingerprints if those that are left do
abbrev pub invariant-loop-rest : goal.invariant-loop-rest
invariant-loop-rest l = record {
  tokens : l.out.tokens ++ tokens_of_all (map table_data (tables l.rest))
      ≡ l.fn.out.tokens ++ tokens_of_all (map table_data (tables l.fn.files));
  before : l.out.before ≡ l.fn.out.before;
  prints : HaveFingerprints l.rest → HaveFingerprints l.fn.files;
}

abbrev pub decreases-loop-rest : goal.decreases-loop-rest
decreases-loop-rest l = length l.rest
