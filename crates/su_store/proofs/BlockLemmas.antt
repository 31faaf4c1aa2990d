-- What the statement that puts a block does.
use Rattle.std.proofs.Common.{◌≡◌, IsTrue, arith, ℕ, ℤ, ◌+◌, ◌++◌, ◌<◌, length, map, take, get_or, suc, zero, List, [], ◌∷◌, codes, true, false, None, Option, Ok, Err, Result, OnOk, refl, sym, ap, subst, ◌∙◌}
use Rattle.sqlite.specs.declared.types.Value.TheVariants.{Null, Int, Blob}
use Rattle.sqlite.specs.Order.{Row}
use Rattle.sqlite.specs.Term.{Term, lit, col}
use Rattle.sqlite.specs.Source.TheVariants.{Values}
use Rattle.sqlite.specs.Command.{Command}
use Rattle.sqlite.specs.Command.TheVariants.{Insert}
use Rattle.sqlite.specs.Edit.{edit_of, edited, next_rowid}
use Rattle.sqlite.specs.Rowids.TheVariants.{Chosen}
use Rattle.sqlite.specs.Does.{Tally, Does}
use Rattle.sqlite.specs.Rows.{Written}
use Rattle.sqlite.specs.Tree.{Trees, put_row}
use Rattle.sqlite_tied.specs.Compute.{everything}
use Rattle.sqlite.specs.declared.error.Error.{Error}
use Rattle.sqlite.specs.declared.run.Mode.{Mode}
use Rattle.sqlite.specs.Listing.{understood}
use Rattle.sqlite.specs.Effect.{Database}
use Rattle.sqlite.specs.State.{State, mode_of, ExecutesInside, IsUnchanged}
use Rattle.su_store.specs.Kept.{with_block}
use Rattle.su_store.specs.Lookups.{TellsHeld}
use Rattle.sqlite.proofs.Callers.{IsPlain, command_of, statement_of, runs_as, one_step}
use Rattle.sha2.specs.Sha256.{sha256}
use Rattle.su_store.specs.Tables.{store_schema, block_table, block_row, rows_from, Stands}
use Rattle.su_store.specs.Changes.{PutsBlock, HoldsBlock, HoldsBlocks, MakesInside}
use Rattle.std.proofs.lemmas.List.Sums.{fold-append}
use Rattle.su_store.proofs.RowLemmas.{put_last-block, next_rowid-blocks}
use Rattle.su_store.proofs.Shared.{cast_null, went, same_value}

abbrev pub insert_text : List ℕ
insert_text = codes "INSERT INTO block (digest, bytes) VALUES (?1, ?2)"

abbrev terms : List Term
terms = lit Null ∷ col 0 0 ∷ col 0 1 ∷ []

insert_is : command_of (understood store_schema insert_text) ≡ Insert 1 (Values terms 3)
unfolding understood everything
insert_is = refl

insert_plain : IsPlain (understood store_schema insert_text)
unfolding understood everything
insert_plain = (refl, refl)

apart : ◌≡◌ {A = ℕ} 0 1 → ⊥
apart e = omega (arith, e)

abbrev row_at : List ℕ → List ℕ → ℤ → Row
row_at digest bytes place = Int place ∷ Blob digest ∷ Blob bytes ∷ []

module _ (digest bytes : List ℕ) (is : digest ≡ sha256 bytes) where
  abbrev values : Row
  values = Blob digest ∷ Blob bytes ∷ []

  abbrev command : Command
  command = Insert 1 (Values terms 3)

  -- what the statement makes of the tables
  record Is (old after : Database) : Type 0 where
    pub schema : after.schema ≡ store_schema
    pub put : PutsBlock bytes old.trees after.trees

  last : (blocks : List (List ℕ)) → put_row (row_at digest bytes (next_rowid (rows_from block_row 1 blocks))) (rows_from block_row 1 blocks) ≡ rows_from block_row 1 (blocks ++ bytes ∷ [])
  last blocks =
      ap (λ d. put_row (row_at d bytes (next_rowid (rows_from block_row 1 blocks))) (rows_from block_row 1 blocks)) is
      ∙ ap (λ id. put_row (row_at (sha256 bytes) bytes id) (rows_from block_row 1 blocks)) (next_rowid-blocks blocks)
      ∙ put_last-block 1 blocks bytes (1 + length blocks) refl

  inserted : (limit : Option ℕ) (mode : Mode) (old : Database) (text : List ℕ) (tally : Tally) (after : Database) → old.schema ≡ store_schema
      → Does limit mode values old text None command (Ok (tally, after)) → Is old after
  inserted limit mode old text tally after has h =
      let db = old.trees in
      let done = went (subst (λ s. Does limit mode values (record old { schema = s }) text None command (Ok (tally, after))) has h) in
      let now = ap (λ (p : Tally × Database). p.1) (same_value (went (went done.2).2).2) in
      let given = went done.1 in
      let written = went (went given.2).2 in
      let counted = went written.2 in
      let trees : done.0.trees ≡ written.0 = ap (λ (it : Written). it.trees) (same_value counted.2) ∙ same_value counted.1 in
      let step = one_step store_schema _ db written.0 (edit_of db block_table [] Chosen 0 given.0) refl written.1 in
      let edit : edited db (edit_of db block_table [] Chosen 0 given.0) ≡ put_row (row_at digest bytes (next_rowid (db 1))) (db 1) =
      ap (λ all. edited db (edit_of db block_table [] Chosen 0 all)) given.1.1 ∙ rw cast_null in
      let all : after.trees ≡ written.0 = ap (λ (d : Database). d.trees) now ∙ trees in
      record {
        schema = ap (λ (d : Database). d.schema) now;
        put = λ kept was. record {
          records = ap (λ (t : Trees). t 0) all ∙ step.tables.0 apart ∙ was.records;
          blocks = ap (λ (t : Trees). t 1) all ∙ step.rows ∙ edit ∙ ap (λ rows. put_row (row_at digest bytes (next_rowid rows)) rows) was.blocks ∙ last kept.blocks;
        };
      }

  pub puts : (old new : State) (r : Result ℕ Error) → old.now.schema ≡ store_schema → IsTrue old.in_transaction → ExecutesInside 0 insert_text values old new r → OnOk r (MakesInside (PutsBlock bytes) old new)
  puts old new (Err e) has begun h = tt
  puts old new (Ok count) has begun h =
      let w = runs_as insert_text values old new store_schema has command insert_is insert_plain count h.0 in
      let all = inserted old.step_limit (mode_of old) old.now (statement_of insert_text (understood store_schema insert_text)) w.tally new.now has w.changed in
      record { made = all.put; schema = all.schema; begun = rw h.1.mode; committed = h.1.committed_is }

-- a block whose digest is there already changes nothing, and any other is put
pub holds_there : (bytes : List ℕ) (old new : State) → old.now.schema ≡ store_schema → IsTrue old.in_transaction → TellsHeld (sha256 bytes) true old.now.trees → IsUnchanged old new → MakesInside (HoldsBlock bytes) old new
unfolding with_block
holds_there bytes old new has begun told same = record {
  made = λ kept was. subst (Stands (record kept { blocks = with_block kept.blocks bytes })) (sym (ap (λ (d : Database). d.trees) same.0.now_is)) (rw (sym (told kept was)) was);
  schema = ap (λ (d : Database). d.schema) same.0.now_is ∙ has;
  begun = rw same.0.mode begun;
  committed = same.0.committed_is;
}

pub holds_new : (bytes : List ℕ) (old mid new : State) → TellsHeld (sha256 bytes) false old.now.trees → IsUnchanged old mid → MakesInside (PutsBlock bytes) mid new → MakesInside (HoldsBlock bytes) old new
unfolding with_block
holds_new bytes old mid new told same put = record {
  made = λ kept was. rw (sym (told kept was)) (put.made kept (subst (Stands kept) (sym (ap (λ (d : Database). d.trees) same.0.now_is)) was));
  schema = put.schema;
  begun = put.begun;
  committed = put.committed ∙ same.0.committed_is;
}

pub holds_none : (s : State) → s.now.schema ≡ store_schema → IsTrue s.in_transaction → MakesInside (HoldsBlocks []) s s
holds_none s has begun = record { made = λ kept was. was; schema = has; begun = begun; committed = refl }

pub holds_more : (blocks : List (List ℕ)) (block : List ℕ) (old mid new : State) → MakesInside (HoldsBlocks blocks) old mid → MakesInside (HoldsBlock block) mid new → MakesInside (HoldsBlocks (blocks ++ block ∷ [])) old new
holds_more blocks block old mid new first then = record {
  made = λ kept was. subst (λ all. Stands (record kept { blocks = all }) new.now.trees) (sym (fold-append with_block kept.blocks blocks (block ∷ []))) (then.made _ (first.made kept was));
  schema = then.schema;
  begun = then.begun;
  committed = then.committed ∙ first.committed;
}

pub take_more : {A B : Type 0} (f : A → B) (xs : List A) (i : ℕ) (x : A) → i < length xs → x ≡ get_or xs i x → map f (take (suc i) xs) ≡ map f (take i xs) ++ f x ∷ []
take_more f [] i x low is = absurd (omega arith)
take_more f (y ∷ xs) zero x low is = ap (λ z. f z ∷ []) (sym is)
take_more f (y ∷ xs) (suc i) x low is = ap (λ l. f y ∷ l) (take_more f xs i x (omega arith) is)
