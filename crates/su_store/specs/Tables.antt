-- The tables in which a file keeps its records and blocks.
use Rattle.std.specs.Prelude.{◌≡◌, Bool, true, false, [], ◌∷◌, Some, None, codes, List, ℕ, pos, suc}
use Rattle.sha2.specs.Sha256.{sha256}
use Rattle.sqlite.specs.Collation.TheVariants.{Binary}
use Rattle.sqlite.specs.declared.types.Value.TheVariants.{Null, Int, Blob as Bytes}
use Rattle.sqlite.specs.Order.{Row}
use Rattle.sqlite.specs.Table.{Table}
use Rattle.sqlite.specs.Schema.{Schema}
use Rattle.sqlite_schema.specs.declared.schema.Column.{Column}
use Rattle.sqlite_schema.specs.declared.schema.Index.{Index}
use Rattle.sqlite.specs.Tree.{Trees}
use Rattle.sqlite.specs.Kind.{Kind}
use Rattle.sqlite.specs.Kind.TheVariants.{Integer, Blob}
use Rattle.sqlite_value.specs.Keys.{plain}
use Rattle.su_store.specs.Kept.{Kept}

-- a column that takes values of its type alone
abbrev pub strict_column : List ℕ → Kind → Bool → Column
strict_column name kind not_null = record {
  name = name;
  kind = kind;
  is_strict = true;
  not_null = not_null;
  default = Null;
  collation = Binary;
}

-- CREATE TABLE record (number INTEGER PRIMARY KEY, bytes BLOB NOT NULL) STRICT
abbrev pub record_table : Table
record_table = record {
  name = codes "record";
  tree = 0;
  columns = strict_column (codes "number") Integer false ∷ strict_column (codes "bytes") Blob true ∷ [];
  key = Some 0;
  primary = 0 ∷ [];
  uniques = [];
  orders = [];
  checks = [];
  references = [];
  computed = [];
  stamps = record { places = []; terms = []; formats = [] };
  is_counted = false;
}

-- CREATE TABLE block (digest BLOB PRIMARY KEY NOT NULL, bytes BLOB NOT NULL) STRICT
abbrev pub block_table : Table
block_table = record {
  name = codes "block";
  tree = 1;
  columns = strict_column (codes "digest") Blob true ∷ strict_column (codes "bytes") Blob true ∷ [];
  key = None;
  primary = 1 ∷ [];
  uniques = (1 ∷ []) ∷ [];
  orders = plain ∷ [];
  checks = [];
  references = [];
  computed = [];
  stamps = record { places = []; terms = []; formats = [] };
  is_counted = false;
}

-- the index that SQLite makes for the digests
abbrev pub block_index : Index
block_index = record {
  name = codes "sqlite_autoindex_block_1";
  tree = 2;
  table = 1;
  columns = 1 ∷ [];
  order = plain;
  is_unique = true;
}

-- the schema of a new file, of one whose making was cut short, and of one that is ready
abbrev pub no_schema : Schema
no_schema = record { tables = []; indexes = []; views = [] }

abbrev pub half_schema : Schema
half_schema = record { tables = record_table ∷ []; indexes = []; views = [] }

abbrev pub store_schema : Schema
store_schema = record {
  tables = record_table ∷ block_table ∷ [];
  indexes = block_index ∷ [];
  views = [];
}

-- A record's row: its number, which is the row's own, and its bytes.
abbrev pub record_row : ℕ → List ℕ → Row
record_row number bytes = Int (pos number) ∷ Null ∷ Bytes bytes ∷ []

-- A block's row: its place, its digest and its bytes.
abbrev pub block_row : ℕ → List ℕ → Row
block_row place bytes = Int (pos place) ∷ Bytes (sha256 bytes) ∷ Bytes bytes ∷ []

-- the rows of these items, numbered from `first` on
abbrev pub rows_from : (ℕ → List ℕ → Row) → ℕ → List (List ℕ) → List Row
rows_from row first [] = []
rows_from row first (item ∷ items) = row first item ∷ rows_from row (suc first) items

-- The tables stand for what is kept: the records from number 0 on, and the blocks as they came.
pub record Stands (kept : Kept) (db : Trees) : Type 0 where
  pub records : db 0 ≡ rows_from record_row 0 kept.records
  pub blocks : db 1 ≡ rows_from block_row 1 kept.blocks
