-- A record and its blocks, or a block alone, put in one transaction that is committed.
use Rattle.std.proofs.Common.{◌≡◌, ℕ, List, false, sym, ap, subst, ◌∙◌, arith}
use Rattle.sqlite.specs.Tree.{Trees}
use Rattle.sqlite.specs.Effect.{Database}
use Rattle.sqlite.specs.State.{State, Shows, HasCleanDisk, Survives}
use Rattle.sqlite.proofs.StateLemmas.{survives_then}
use Rattle.su_store.specs.Kept.{with_blocks}
use Rattle.su_store.specs.Changes.{HasRecords, HoldsBlock, HoldsBlocks, PutsRecord, Extends, MakesInside, Keeps, LeavesBlock}

pub extends : (number : ℕ) (bytes : List ℕ) (blocks : List (List ℕ)) (old mid last : State) → HasRecords number old.now.trees → MakesInside (HoldsBlocks blocks) old mid
    → MakesInside (PutsRecord number bytes) mid last → Extends bytes blocks old.now.trees last.now.trees
extends number bytes blocks old mid last numbered held put = λ kept was. put.made (record kept { blocks = with_blocks kept.blocks blocks }) (numbered kept was) (held.made kept was)

pub keeps : (Change : Trees → Trees → Type 0) (old last end : State) → Change old.now.trees last.now.trees → last.now.schema ≡ Rattle.su_store.specs.Tables.store_schema → Shows last end last.now last.now false
    → ((db : Trees) → end.may_leave db → db ≡ end.committed.trees) → Keeps Change old end
keeps Change old last end made has shown settled = record {
  kept = subst (λ (d : Database). Change old.now.trees d.trees) (sym shown.committed_is) made;
  durable = λ db may. subst (Change old.now.trees) (sym (settled db may ∙ ap (λ (d : Database). d.trees) shown.committed_is)) made;
  same = shown.now_is ∙ sym shown.committed_is;
  schema = ap (λ (d : Database). d.schema) shown.now_is ∙ has;
  alone = shown.mode;
  is_open = shown.is_open;
}

-- whether the commit fails or not
pub leaves_block : (block : List ℕ) (old last end : State) → (HasCleanDisk last → HoldsBlock block old.now.trees last.now.trees) → (HasCleanDisk last → old.may_leave old.now.trees)
    → Survives old last (λ _. ⊥) → Survives last end (λ db. db ≡ last.now.trees) → Survives old end (LeavesBlock block old)
leaves_block block old last end held shown inside commits = survives_then old last end _ _ (LeavesBlock block old) (λ _ db none. absurd none)
    (λ clean db is.
    let before : HasCleanDisk last = omega (arith, clean, commits.clean) in
    subst (LeavesBlock block old) (sym is) (record { shown = shown before; held = held before })) inside commits
