-- What the statements that make the tables do.
use Rattle.std.proofs.Common.{◌≡◌, ℕ, List, [], codes, false, None, Ok, Err, Result, OnOk, refl, sym, ap, subst, ◌∙◌}
use Rattle.sqlite.specs.Table.{Table}
use Rattle.sqlite.specs.Schema.{Schema}
use Rattle.sqlite.specs.Command.TheVariants.{CreateTable}
use Rattle.sqlite.specs.Compile.{table_defined_by}
use Rattle.sqlite.specs.Change.{created, next_tree, KeepsRows}
use Rattle.sqlite.specs.Does.{Tally, lacks_sequence}
use Rattle.std.specs.Fmt.{digits}
use Rattle.sqlite_tied.specs.Compute.{everything}
use Rattle.sqlite.specs.declared.error.Error.{Error}
use Rattle.sqlite.specs.Listing.{understood}
use Rattle.sqlite.specs.Effect.{Database}
use Rattle.sqlite.specs.State.{State, Writes, Executes}
use Rattle.sqlite.proofs.Callers.{IsPlain, command_of, statement_of, runs_as}
use Rattle.su_store.proofs.Shared.{went, same_value}
use Rattle.su_store.specs.Tables.{no_schema, half_schema, store_schema, record_table, block_table}

abbrev pub record_text : List ℕ
record_text = codes "CREATE TABLE record (number INTEGER PRIMARY KEY, bytes BLOB NOT NULL) STRICT"

abbrev pub block_text : List ℕ
block_text = codes "CREATE TABLE block (digest BLOB PRIMARY KEY NOT NULL, bytes BLOB NOT NULL) STRICT"

record Makes (schema : Schema) (text : List ℕ) (table : Table) : Type 0 where
  pub is : command_of (understood schema text) ≡ CreateTable
  pub whole : statement_of text (understood schema text) ≡ text
  pub plain : IsPlain (understood schema text)
  pub lacks : lacks_sequence (created schema table) ≡ false

-- as the number of its tree says nothing
abbrev Defines : List ℕ → Table → Type 0
Defines text table = (made : Table) × (table_defined_by text ≡ Ok made) × (record made { tree = table.tree } ≡ table)

record_is : Makes no_schema record_text record_table × (table_defined_by record_text ≡ Ok record_table)
unfolding understood everything
record_is = (record { is = refl; whole = refl; plain = (refl, refl); lacks = refl }, refl)

block_is : Makes half_schema block_text block_table × (table_defined_by block_text ≡ Ok (record block_table { tree = 0 }))
unfolding understood everything
block_is = (record { is = refl; whole = refl; plain = (refl, refl); lacks = refl }, refl)

made_both : created half_schema block_table ≡ store_schema
unfolding digits
made_both = refl

module _ (old new : State) (r : Result ℕ Error) where
  pub makes_records : old.now.schema ≡ no_schema → Executes record_text [] old new r → OnOk r ((new.now.schema ≡ half_schema) × (new.now.trees 0 ≡ []))
  makes_records = go r
    where
      go : (r : Result ℕ Error) → old.now.schema ≡ no_schema → Executes record_text [] old new r → OnOk r ((new.now.schema ≡ half_schema) × (new.now.trees 0 ≡ []))
      go (Err e) has h = tt
      go (Ok count) has h =
          let w = subst (λ t. Writes old new None CreateTable t [] count) record_is.0.whole (runs_as record_text [] old new no_schema has CreateTable record_is.0.is record_is.0.plain count h) in
          let all = went w.changed in
          let first = went all.1 in
          let made = first.1 in
          let both : Ok made.table ≡ Ok record_table = sym made.defined ∙ record_is.1 in
          let same : made.table ≡ record_table = cc in
          let schema : first.0.schema ≡ half_schema = made.is ∙ ap (λ s. created s made.table) has ∙ ap (created no_schema) same in
          let plain : lacks_sequence first.0.schema ≡ false = ap lacks_sequence schema ∙ record_is.0.lacks in
          let now : new.now ≡ first.0 = ap (λ (p : Tally × Database). p.1) (same_value all.2) ∙ same_value (rw plain at first.2) in
          (ap (λ (d : Database). d.schema) now ∙ schema, ap (λ (d : Database). d.trees 0) now ∙ subst (λ s. first.0.trees (next_tree s) ≡ []) has made.empty)

  pub makes_blocks : old.now.schema ≡ half_schema → Executes block_text [] old new r → OnOk r ((new.now.schema ≡ store_schema) × (new.now.trees 1 ≡ []) × (new.now.trees 0 ≡ old.now.trees 0))
  makes_blocks = go r
    where
      go : (r : Result ℕ Error) → old.now.schema ≡ half_schema → Executes block_text [] old new r → OnOk r ((new.now.schema ≡ store_schema) × (new.now.trees 1 ≡ []) × (new.now.trees 0 ≡ old.now.trees 0))
      go (Err e) has h = tt
      go (Ok count) has h =
          let w = subst (λ t. Writes old new None CreateTable t [] count) block_is.0.whole (runs_as block_text [] old new half_schema has CreateTable block_is.0.is block_is.0.plain count h) in
          let all = went w.changed in
          let first = went all.1 in
          let made = first.1 in
          let both : Ok made.table ≡ Ok (record block_table { tree = 0 }) = sym made.defined ∙ block_is.1 in
          let same : made.table ≡ record block_table { tree = 0 } = cc in
          let schema : first.0.schema ≡ store_schema = made.is ∙ ap (λ s. created s made.table) has ∙ ap (created half_schema) same ∙ made_both in
          let plain : lacks_sequence first.0.schema ≡ false = ap lacks_sequence schema ∙ ap lacks_sequence (sym made_both) ∙ block_is.0.lacks in
          let now : new.now ≡ first.0 = ap (λ (p : Tally × Database). p.1) (same_value all.2) ∙ same_value (rw plain at first.2) in
          let kept = subst (λ (s : Schema). KeepsRows s.tables old.now.trees first.0.trees) has made.others in (
            ap (λ (d : Database). d.schema) now ∙ schema,
            ap (λ (d : Database). d.trees 1) now ∙ subst (λ s. first.0.trees (next_tree s) ≡ []) has made.empty,
            ap (λ (d : Database). d.trees 0) now ∙ kept.0,
          )
