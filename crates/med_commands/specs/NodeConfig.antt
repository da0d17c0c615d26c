-- Where a command works: what its config file says of the bucket and of the node, as plain texts.
use Rattle.std.specs.Prelude.{ℕ, List, ◌++◌, Option, codes, string_bytes}
use Rattle.med_ini.specs.declared.config.Config.{Config}
use Rattle.med_outside.specs.Counts.{Tagged, tagged}
use Rattle.med_outside.specs.Snapshot.{Snapshot}
use Rattle.med_outside.specs.State.{State, opened}
use Rattle.med_outside.specs.World.{Snapshots}

pub record NodeConfig : Type 0 where
  pub base : List ℕ
  pub bucket : List ℕ
  -- what stands before each path of the bucket
  pub before : List ℕ
  pub node : List ℕ
  -- the folder of the nodes
  pub nodes_root : List ℕ

abbrev pub node_config_of : Config → NodeConfig
node_config_of config = record {
  base = string_bytes config.base;
  bucket = string_bytes config.bucket;
  before = config.layout;
  node = config.node;
  nodes_root = string_bytes config.nodes_root;
}

-- the snapshot's tag for a backup
abbrev pub tag_of : List ℕ → List ℕ
tag_of name = codes "medusa-" ++ name

-- the bucket was opened there
abbrev pub opened_at : NodeConfig → State → State
opened_at node_config s = opened node_config.base node_config.bucket node_config.before s

-- the snapshot that a backup of this name copies there
abbrev pub snap_at : Snapshots → NodeConfig → List ℕ → Option Snapshot
snap_at snaps node_config n = snaps node_config.nodes_root node_config.node (tag_of n)

-- what is opened for a backup of this name
abbrev pub tagged_at : NodeConfig → List ℕ → Tagged
tagged_at node_config n = tagged node_config.nodes_root node_config.node (tag_of n)
