-- What options say, as the code has it: a field for each.
use Rattle.std.specs.Prelude.{Bool, false, cond, List, Option, None, codes}
use Rattle.std.specs.Str.{bytes_eq}
use Rattle.med_words.specs.Grammar.{Text, Use, value_in}
use Rattle.med_words.specs.Said.{Said}

-- the value of each option of the commands, if it stands, and whether each flag stands
pub record Fields : Type 0 where
  pub name : Option Text
  pub mode : Option Text
  pub workers : Option Text
  pub rounds : Option Text
  pub destination : Option Text
  pub host_list : Option Text
  pub jobs_file : Option Text
  pub all_nodes : Bool
  pub show_all : Bool

-- the fields of what is said
abbrev pub fields_of : Said → Fields
fields_of said = record {
  name = said.value (codes "backup-name");
  mode = said.value (codes "mode");
  workers = said.value (codes "workers");
  rounds = said.value (codes "rounds");
  destination = said.value (codes "download-destination");
  host_list = said.value (codes "host-list");
  jobs_file = said.value (codes "jobs-file");
  all_nodes = said.stands (codes "all-nodes");
  show_all = said.stands (codes "show-all");
}

-- the field of that name
abbrev pub field_at : Fields → Text → Option Text
field_at f n =
    cond (bytes_eq n (codes "backup-name")) f.name
    (cond (bytes_eq n (codes "mode")) f.mode
    (cond (bytes_eq n (codes "workers")) f.workers
    (cond (bytes_eq n (codes "rounds")) f.rounds
    (cond (bytes_eq n (codes "download-destination")) f.destination
    (cond (bytes_eq n (codes "host-list")) f.host_list
    (cond (bytes_eq n (codes "jobs-file")) f.jobs_file None))))))

-- what the fields say
abbrev pub said_in : Fields → Said
said_in f = record {
  value = field_at f;
  stands = λ n. cond (bytes_eq n (codes "all-nodes")) f.all_nodes
      (cond (bytes_eq n (codes "show-all")) f.show_all false);
}

-- what the main options say
pub record MainFields : Type 0 where
  pub config_file : Option Text
  pub bucket : Option Text
  pub prefix : Option Text
  pub fqdn : Option Text

-- what these uses say
abbrev pub main_fields : List Use → MainFields
main_fields main = record {
  config_file = value_in (codes "config-file") main;
  bucket = value_in (codes "bucket-name") main;
  prefix = value_in (codes "prefix") main;
  fqdn = value_in (codes "fqdn") main;
}
