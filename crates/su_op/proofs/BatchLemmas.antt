-- Batches of operations on a store are lawful.
use Rattle.std.proofs.Common.{◌≡◌, ℕ, Bool, true, false, ◌&&◌, IsTrue, List, [], ◌∷◌, Option, Some, None, refl, ap, ◌∙◌}
use Rattle.std.proofs.lemmas.List.{append-nil}
use Rattle.std.specs.Option.{is_none, option_or}
use Rattle.su_bytes.specs.Membership.{Membership}
use Rattle.su_bytes.specs.Place.{Place}
use Rattle.su_bytes.specs.declared.formats.Format.{Format}
use Rattle.su_bytes.specs.declared.refusals.Refusal.{Refusal}
use Rattle.su_node.specs.Field.{Field.KindOf, Field.BlockOf}
use Rattle.su_table.specs.Tree.{Tree}
use Rattle.su_table.specs.Cell.{Cell.At}
use Rattle.su_op.specs.declared.operations.Op.{Op}
use Rattle.su_op.specs.Area.{has}
use Rattle.su_op.specs.Operation.{why as why_one, effect as effect_of_one, reads as reads_of_one, writes as writes_of_one}
use Rattle.su_op.specs.Soundness.{Sound, WholeOrNew, KindOrFile}
use Rattle.su_op.specs.Store.{store as operations}
use Rattle.su_op.proofs.StoreLemmas.{none_is}
use Rattle.su_undo.specs.System.{Lawful}
use Rattle.su_undo.specs.Batch.{all_ok}
use Rattle.su_op.specs.Action.{action_by as one_by}
use Rattle.su_op.specs.Batch.{Action, action_by, each_by, lists_store, first_refusal, batch_refusal, why, effect, reads, writes, store}
use Rattle.su_op.proofs.ListLemmas.{lists_lawful, list_kind, list_block}

-- ---- acceptance

first_none : (o p : Option Refusal) → is_none (option_or o p) ≡ true → (is_none o ≡ true) × (is_none p ≡ true)
first_none None p e = (refl, e)
first_none (Some r) p e = absurd (let bad : false ≡ true = e in cc)

both_none : (o p : Option Refusal) → is_none o ≡ true → is_none p ≡ true → is_none (option_or o p) ≡ true
both_none None p e f = f
both_none (Some r) p e f = absurd (let bad : false ≡ true = e in cc)

and_true : (a b : Bool) → IsTrue a → IsTrue b → IsTrue (a && b)
and_true a b e f = ap (λ x. x && b) e ∙ f

both : (a b : Bool) → IsTrue (a && b) → IsTrue a × IsTrue b
both true b e = (refl, e)
both false b e = absurd (let bad : false ≡ true = e in cc)

ok_in_turn : (ro : Membership) (T : Tree) (a : ℕ) (f : Format) (ops : List Op) → is_none (first_refusal ro T a f ops) ≡ true → all_ok (operations ro) T (each_by a f ops) ≡ true
ok_in_turn ro T a f [] e = refl
ok_in_turn ro T a f (op ∷ ops) e =
    let p = first_none (why_one ro T (one_by a f op)) (first_refusal ro (effect_of_one ro T (one_by a f op)) a f ops) e in
    and_true (is_none (why_one ro T (one_by a f op))) (all_ok (operations ro) (effect_of_one ro T (one_by a f op)) (each_by a f ops)) p.0 (ok_in_turn ro (effect_of_one ro T (one_by a f op)) a f ops p.1)

none_in_turn : (ro : Membership) (T : Tree) (a : ℕ) (f : Format) (ops : List Op) → all_ok (operations ro) T (each_by a f ops) ≡ true → is_none (first_refusal ro T a f ops) ≡ true
none_in_turn ro T a f [] e = refl
none_in_turn ro T a f (op ∷ ops) e =
    let p = both (is_none (why_one ro T (one_by a f op))) (all_ok (operations ro) (effect_of_one ro T (one_by a f op)) (each_by a f ops)) e in
    both_none (why_one ro T (one_by a f op)) (first_refusal ro (effect_of_one ro T (one_by a f op)) a f ops) p.0 (none_in_turn ro (effect_of_one ro T (one_by a f op)) a f ops p.1)

pub ok_of : (ro : Membership) (T : Tree) (a : ℕ) (f : Format) (ops : List Op) → is_none (batch_refusal ro T a f ops) ≡ true → all_ok (operations ro) T (each_by a f ops) ≡ true
ok_of ro T a f [] e = absurd (let bad : false ≡ true = e in cc)
ok_of ro T a f (op ∷ ops) e = ok_in_turn ro T a f (op ∷ ops) e

-- what was accepted somewhere is some operation
of_ok : (ro : Membership) (T T' : Tree) (a : ℕ) (f : Format) (ops : List Op) → is_none (batch_refusal ro T a f ops) ≡ true → all_ok (operations ro) T' (each_by a f ops) ≡ true → is_none (batch_refusal ro T' a f ops) ≡ true
of_ok ro T T' a f [] e ok = absurd (let bad : false ≡ true = e in cc)
of_ok ro T T' a f (op ∷ ops) e ok = none_in_turn ro T' a f (op ∷ ops) ok

-- ---- the laws

module _ (ro : Membership) where
  law : Lawful (lists_store ro)
  law = lists_lawful ro

  pub batches_lawful : Lawful (store ro)
  batches_lawful = record {
    leaves = λ T x sound ok. law.leaves T (each_by x.author x.format x.operations) sound (ok_of ro T x.author x.format x.operations ok);
    alike = λ T T' x sound sound' ok agree.
        let g = law.alike T T' (each_by x.author x.format x.operations) sound sound' (ok_of ro T x.author x.format x.operations ok) agree in
        record { ok = of_ok ro T T' x.author x.format x.operations ok g.ok; reads = g.reads; writes = g.writes; values = g.values };
    within = λ T x c sound ok. law.within T (each_by x.author x.format x.operations) c sound (ok_of ro T x.author x.format x.operations ok);
    stays_sound = λ T x sound ok. law.stays_sound T (each_by x.author x.format x.operations) sound (ok_of ro T x.author x.format x.operations ok);
    start_sound = law.start_sound;
    apart = law.apart;
    same = law.same;
  }

  pub batch_kind_written : (T : Tree) (x : Action) (p : Place) → Sound T → is_none (why ro T x) ≡ true → has (writes ro T x) (At p KindOf) ≡ true → WholeOrNew T p (has (writes ro T x))
  batch_kind_written T x p sound ok wrote = list_kind ro T (each_by x.author x.format x.operations) p sound (ok_of ro T x.author x.format x.operations ok) wrote

  pub batch_block_written : (T : Tree) (x : Action) (p : Place) (n : ℕ) → Sound T → is_none (why ro T x) ≡ true → has (writes ro T x) (At p (BlockOf n)) ≡ true → KindOrFile T p (has (writes ro T x))
  batch_block_written T x p n sound ok wrote = list_block ro T (each_by x.author x.format x.operations) p n sound (ok_of ro T x.author x.format x.operations ok) wrote

-- ---- one operation alone

or_none : (o : Option Refusal) → option_or o None ≡ o
or_none None = refl
or_none (Some r) = refl

pub why_alone : (ro : Membership) (T : Tree) (a : ℕ) (f : Format) (op : Op) → why ro T (action_by a f (op ∷ [])) ≡ why_one ro T (one_by a f op)
why_alone ro T a f op = or_none (why_one ro T (one_by a f op))

pub effect_alone : (ro : Membership) (T : Tree) (a : ℕ) (f : Format) (op : Op) → effect ro T (action_by a f (op ∷ [])) ≡ effect_of_one ro T (one_by a f op)
effect_alone ro T a f op = refl

pub reads_alone : (ro : Membership) (T : Tree) (a : ℕ) (f : Format) (op : Op) → reads ro T (action_by a f (op ∷ [])) ≡ reads_of_one ro T (one_by a f op)
reads_alone ro T a f op = append-nil (reads_of_one ro T (one_by a f op))

pub writes_alone : (ro : Membership) (T : Tree) (a : ℕ) (f : Format) (op : Op) → writes ro T (action_by a f (op ∷ [])) ≡ writes_of_one ro T (one_by a f op)
writes_alone ro T a f op = append-nil (writes_of_one ro T (one_by a f op))

-- the first of them is accepted
pub first_accepted : (ro : Membership) (T : Tree) (a : ℕ) (f : Format) (op : Op) (ops : List Op) → why ro T (action_by a f (op ∷ ops)) ≡ None → why_one ro T (one_by a f op) ≡ None
first_accepted ro T a f op ops e = none_is (why_one ro T (one_by a f op)) (first_none (why_one ro T (one_by a f op)) (first_refusal ro (effect_of_one ro T (one_by a f op)) a f ops) (ap is_none e)).0
