-- What the statement that puts a record does.
use Rattle.std.proofs.Common.{◌≡◌, IsTrue, arith, ℕ, pos, List, [], ◌∷◌, codes, None, Option, Ok, Err, Result, OnOk, refl, ap, subst, ◌∙◌}
use Rattle.sqlite.specs.declared.types.Value.TheVariants.{Null, Int, Blob}
use Rattle.sqlite.specs.Order.{Row}
use Rattle.sqlite.specs.Term.{Term, lit, col}
use Rattle.sqlite.specs.Source.TheVariants.{Values}
use Rattle.sqlite.specs.Command.{Command}
use Rattle.sqlite.specs.Command.TheVariants.{Insert}
use Rattle.sqlite.specs.Edit.{edit_of, edited}
use Rattle.sqlite.specs.Rowids.TheVariants.{Chosen}
use Rattle.sqlite.specs.Does.{Tally, Does}
use Rattle.sqlite.specs.Rows.{Written}
use Rattle.sqlite.specs.Tree.{Trees, put_row}
use Rattle.sqlite_tied.specs.Compute.{everything}
use Rattle.sqlite.specs.declared.error.Error.{Error}
use Rattle.sqlite.specs.declared.run.Mode.{Mode}
use Rattle.sqlite.specs.Listing.{understood}
use Rattle.sqlite.specs.Effect.{Database}
use Rattle.sqlite.specs.State.{State, mode_of, ExecutesInside}
use Rattle.sqlite.proofs.Callers.{IsPlain, command_of, statement_of, runs_as, one_step}
use Rattle.su_store.specs.Tables.{store_schema, record_table, record_row}
use Rattle.su_store.specs.Changes.{PutsRecord, MakesInside}
use Rattle.su_store.proofs.RowLemmas.{put_last-record}
use Rattle.su_store.proofs.Shared.{cast_number, cast_null, went, same_value}

abbrev pub insert_text : List ℕ
insert_text = codes "INSERT INTO record (number, bytes) VALUES (?1, ?2)"

abbrev terms : List Term
terms = col 0 0 ∷ lit Null ∷ col 0 1 ∷ []

insert_is : command_of (understood store_schema insert_text) ≡ Insert 0 (Values terms 3)
unfolding understood everything
insert_is = refl

insert_plain : IsPlain (understood store_schema insert_text)
unfolding understood everything
insert_plain = (refl, refl)

apart : ◌≡◌ {A = ℕ} 1 0 → ⊥
apart e = omega (arith, e)

module _ (n : ℕ) (bytes : List ℕ) where
  abbrev values : Row
  values = Int (pos n) ∷ Blob bytes ∷ []

  abbrev command : Command
  command = Insert 0 (Values terms 3)

  -- what the statement makes of the tables
  record Is (old after : Database) : Type 0 where
    pub schema : after.schema ≡ store_schema
    pub put : PutsRecord n bytes old.trees after.trees

  inserted : (limit : Option ℕ) (mode : Mode) (old : Database) (text : List ℕ) (tally : Tally) (after : Database) → old.schema ≡ store_schema
      → Does limit mode values old text None command (Ok (tally, after)) → Is old after
  inserted limit mode old text tally after has h =
      let db = old.trees in
      let done = went (subst (λ s. Does limit mode values (record old { schema = s }) text None command (Ok (tally, after))) has h) in
      let now = ap (λ (p : Tally × Database). p.1) (same_value (went (went done.2).2).2) in
      let given = went done.1 in
      let written = went (went given.2).2 in
      let counted = went written.2 in
      let trees : done.0.trees ≡ written.0 = ap (λ (it : Written). it.trees) (same_value counted.2) ∙ same_value counted.1 in
      let step = one_step store_schema _ db written.0 (edit_of db record_table [] Chosen 0 given.0) refl written.1 in
      let edit : edited db (edit_of db record_table [] Chosen 0 given.0) ≡ put_row (record_row n bytes) (db 0) =
      ap (λ all. edited db (edit_of db record_table [] Chosen 0 all)) given.1.1 ∙ rw (cast_number (pos n), cast_null) in
      let all : after.trees ≡ written.0 = ap (λ (d : Database). d.trees) now ∙ trees in
      record {
        schema = ap (λ (d : Database). d.schema) now;
        put = λ kept len was. record {
          records = ap (λ (t : Trees). t 0) all ∙ step.rows ∙ edit ∙ ap (put_row (record_row n bytes)) was.records ∙ put_last-record 0 kept.records bytes n (omega (arith, len));
          blocks = ap (λ (t : Trees). t 1) all ∙ step.tables.1.0 apart ∙ was.blocks;
        };
      }

  pub puts : (old new : State) (r : Result ℕ Error) → old.now.schema ≡ store_schema → IsTrue old.in_transaction → ExecutesInside 0 insert_text values old new r → OnOk r (MakesInside (PutsRecord n bytes) old new)
  puts old new (Err e) has begun h = tt
  puts old new (Ok count) has begun h =
      let w = runs_as insert_text values old new store_schema has command insert_is insert_plain count h.0 in
      let all = inserted old.step_limit (mode_of old) old.now (statement_of insert_text (understood store_schema insert_text)) w.tally new.now has w.changed in
      record { made = all.put; schema = all.schema; begun = rw h.1.mode; committed = h.1.committed_is }
