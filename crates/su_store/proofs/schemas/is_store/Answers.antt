use Rattle.std.proofs.Common.{◌≡◌, [], ◌∷◌, rules}
use Rattle.sqlite.specs.Schema.{Schema}
use Rattle.su_store.specs.Tables.{record_table, block_table, block_index, store_schema}
use Rattle.su_store.proofs.schemas.is_store.Goals as goal

same_schema : (s : Schema) → s.tables ≡ record_table ∷ block_table ∷ [] → s.indexes ≡ block_index ∷ [] → s.views ≡ [] → s ≡ store_schema
same_schema s tables indexes views = λ i. record { tables = tables i; indexes = indexes i; views = views i }

pub returns-then-has_block_index : goal.returns-then-has_block_index
returns-then-has_block_index c is = same_schema c.args.schema.now (search rules) (search rules) (search rules)
