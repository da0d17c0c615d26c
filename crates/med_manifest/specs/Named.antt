-- The files that the text of a manifest names, as they are written there.
-- After Cassandra Medusa's manifest.json; its exact form is this project's own. It is a relation
-- on the JSON tree: other keys may stand beside those named, in any order.
use Rattle.std.specs.Prelude.{◌≡◌, ◌++◌, ◌∷◌, ℕ, List, flat_map, length, Some, None, codes}
use Rattle.std.specs.List.{AllByRecursion, AllZip}
use Rattle.serde_json.specs.Data.{Data, Items}
use Rattle.serde_json.specs.Find.{as_array}
use Rattle.med_base.specs.Names.{component_fault}
use Rattle.med_json.specs.Tree.{IsText, items_in, text_at, number_at, list_at}
use Rattle.med_manifest.specs.declared.shape.NamedFile.{NamedFile}

-- a file as the text has it: the names of its table, its path, its size and the text of its MD5
pub record Named : Type 0 where
  pub keyspace : List ℕ
  pub table : List ℕ
  pub path : List ℕ
  pub size : ℕ
  pub md5 : List ℕ

-- a file as it was found in the tree
abbrev pub named : NamedFile → Named
named file = record {
  keyspace = file.keyspace.now;
  table = file.table.now;
  path = file.path.now;
  size = file.size;
  md5 = file.md5.now;
}

-- an object of the tree is a file of the table with these names
pub record IsFile (keyspace table : List ℕ) (d : Data) (file : Named) : Type 0 where
  pub keyspace_is : file.keyspace ≡ keyspace
  pub table_is : file.table ≡ table
  pub path_is : text_at (codes "path") d ≡ Some file.path
  pub size_is : number_at (codes "size") d ≡ Some file.size
  pub md5_is : text_at (codes "MD5") d ≡ Some file.md5

-- an object of the tree is a table with these files
pub record IsTable (d : Data) (files : List Named) : Type 0 where
  pub keyspace : List ℕ
  pub table : List ℕ
  pub keyspace_is : text_at (codes "keyspace") d ≡ Some keyspace
  pub table_is : text_at (codes "columnfamily") d ≡ Some table
  pub keyspace_fits : component_fault keyspace ≡ None
  pub table_fits : component_fault table ≡ None
  pub objects : List Data
  pub objects_are : list_at (codes "objects") d ≡ Some objects
  pub files_are : AllZip (IsFile keyspace table) objects files

-- an object of the tree is a table
abbrev pub IsShaped : Data → Type 0
IsShaped d = (files : List Named) × IsTable d files

-- the items of a list are tables, and these are the files of all of them in turn
pub record AreTables (ds : List Data) (files : List Named) : Type 0 where
  pub tables : List (List Named)
  pub tables_are : AllZip IsTable ds tables
  pub files_are : files ≡ flat_map (λ (table : List Named). table) tables

-- the item at this place is the first that is no table
pub record IsFirstUnshaped (ds : List Data) (at : ℕ) : Type 0 where
  pub good : List Data
  pub bad : Data
  pub rest : List Data
  pub items_are : ds ≡ good ++ bad ∷ rest
  pub at_is : at ≡ length good
  pub tables_before : AllByRecursion IsShaped good
  pub no_table : IsShaped bad → ⊥

-- the tree is a list of tables with these files
pub record HasFiles (tree : Data) (files : List Named) : Type 0 where
  pub list : Items
  pub list_is : as_array tree ≡ Some list
  pub tables : AreTables (items_in list) files

-- the bytes are a JSON text, and these are the files that it names
pub record NamesFiles (bytes : List ℕ) (files : List Named) : Type 0 where
  pub tree : Data
  pub text : IsText bytes tree
  pub has : HasFiles tree files
