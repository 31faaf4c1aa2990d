-- The parts of a table of the store, as the test of a schema compares them.
use Rattle.std.specs.Prelude.{◌≡◌, true, false, [], ◌∷◌, Some, None, codes}
use Rattle.sqlite.specs.Table.{Table}
use Rattle.sqlite_schema.specs.declared.schema.Index.{Index}
use Rattle.sqlite_value.specs.Keys.{plain}

pub record HasNoRules (table : Table) : Type 0 where
  pub checks : table.checks ≡ []
  pub references : table.references ≡ []
  pub computed : table.computed ≡ []
  pub stamps : table.stamps ≡ record { places = []; terms = []; formats = [] }
  pub is_counted : table.is_counted ≡ false

pub record HasRecordKeys (table : Table) : Type 0 where
  pub name : table.name ≡ codes "record"
  pub tree : table.tree ≡ 0
  pub key : table.key ≡ Some 0
  pub primary : table.primary ≡ 0 ∷ []
  pub uniques : table.uniques ≡ []
  pub orders : table.orders ≡ []

pub record HasBlockKeys (table : Table) : Type 0 where
  pub name : table.name ≡ codes "block"
  pub tree : table.tree ≡ 1
  pub key : table.key ≡ None
  pub primary : table.primary ≡ 1 ∷ []
  pub uniques : table.uniques ≡ (1 ∷ []) ∷ []
  pub orders : table.orders ≡ plain ∷ []

-- the index of the digests, but for its name
pub record IsOverDigests (index : Index) : Type 0 where
  pub tree : index.tree ≡ 2
  pub table : index.table ≡ 1
  pub columns : index.columns ≡ 1 ∷ []
  pub order : index.order ≡ plain
  pub is_unique : index.is_unique ≡ true
