use Rattle.std.proofs.Common.{rules}
use Rattle.med_ini.specs.Options.{Blames, config_fault}
use Rattle.med_ini.proofs.PartLemmas.{names_blamed, numbers_blamed, folders_blamed, all_accepted}
use Rattle.med_ini.proofs.config.Config.from_ini.Goals as goal

pub returns-in_err-names-clause-err : goal.returns-in_err-names-clause-err
returns-in_err-names-clause-err c =
    let blames : Blames (config_fault c.args.ini.now c.args.over.now) c.in_err-names.field-0.0 =
    names_blamed c.args.ini.now c.args.over.now (search rules) _ c.in_err-names.ensures.err in
    search rules

pub returns-in_err-numbers-clause-err : goal.returns-in_err-numbers-clause-err
returns-in_err-numbers-clause-err c =
    let blames : Blames (config_fault c.args.ini.now c.args.over.now) c.in_err-numbers.field-0.0 =
    numbers_blamed c.args.ini.now c.args.over.now (search rules) _
    c.in_ok-names.ensures.ok.accepted c.in_err-numbers.ensures.err in
    search rules

pub returns-in_err-folders-clause-err : goal.returns-in_err-folders-clause-err
returns-in_err-folders-clause-err c =
    let blames : Blames (config_fault c.args.ini.now c.args.over.now) c.in_err-folders.field-0.0 =
    folders_blamed c.args.ini.now c.args.over.now (search rules) _
    c.in_ok-names.ensures.ok.accepted c.in_ok-numbers.ensures.ok.accepted
    c.in_err-folders.ensures.err in
    search rules

pub returns-clause-ok : goal.returns-clause-ok
returns-clause-ok c = record {
  accepted =
      all_accepted c.args.ini.now c.args.over.now (search rules)
      c.in_ok-names.ensures.ok.accepted c.in_ok-numbers.ensures.ok.accepted
      c.in_ok-folders.ensures.ok.accepted;
  read = record {
    base = c.in_ok-names.ensures.ok.base;
    bucket = c.in_ok-names.ensures.ok.bucket;
    layout = c.in_ok-names.ensures.ok.layout;
    node = c.in_ok-names.ensures.ok.node;
    age_days = c.in_ok-numbers.ensures.ok.age_days;
    count = c.in_ok-numbers.ensures.ok.count;
    grace_days = c.in_ok-numbers.ensures.ok.grace_days;
    nodes_root = c.in_ok-folders.ensures.ok.nodes_root;
    targets_root = c.in_ok-folders.ensures.ok.targets_root;
  };
}
