-- The store is a lawful system: its operations are local, and keep its trees sound.
use Rattle.std.proofs.Common.{◌≡◌, Bool, true, false, cond, Option, Some, None, refl, sym, ap, ◌∙◌, subst, arith}
use Rattle.std.proofs.lemmas.List.Folds.{list_any-append}
use Rattle.std.specs.Option.{is_none}
use Rattle.std.specs.FinMap.{get, empty, get-empty}
use Rattle.su_bytes.specs.Membership.{Membership}
use Rattle.su_bytes.specs.declared.file_ids.FileId.TheVariants.{Group}
use Rattle.su_bytes.specs.declared.file_ids.Kind.TheVariants.{Dir}
use Rattle.su_bytes.specs.Place.{Place, place_cmp, place_eq}
use Rattle.su_node.specs.Inode.{Inode, new_inode}
use Rattle.su_table.specs.Tree.{Tree, genesis}
use Rattle.su_node.specs.Field.{Field.KindOf, Value.Nothing, Value.AKind, Value.APlace, field_value}
use Rattle.su_table.specs.Cell.{Cell, Cell.At, Cell.Pointer, place_value, val}
use Rattle.su_table.specs.Edit.{edits}
use Rattle.su_op.specs.declared.operations.Op.{Op}
use Rattle.su_op.specs.declared.operations.Op.TheVariants.{Create, Unlink, Write, Truncate, Take, Link, Rename, Drop}
use Rattle.su_op.specs.Area.{in_area, has}
use Rattle.su_op.specs.Rule.{Plan, refusal, plan_of, plan_reads, plan_writes}
use Rattle.su_op.specs.Operation.{rule_by_user, rule_of, Row, why, effect, reads, writes}
use Rattle.su_op.specs.Soundness.{WellLinked, IsBodyOf, Sound}
use Rattle.su_undo.specs.System.{LeavesOthers, IsLocal, Lawful}
use Rattle.su_op.specs.Action.{Action}
use Rattle.su_op.specs.Store.{store}
use Rattle.su_op.proofs.KeyLemmas.{get-set_place, place_eq-itself, place_eq-same}
use Rattle.su_op.proofs.InodeChangeLemmas.{number_same}
use Rattle.su_op.proofs.EditLemmas.{CanEdits, edits_leave, edits_alike, edits_sound, tree_same, place_same_value}
use Rattle.su_op.proofs.AreaLemmas.{areas_apart}
use Rattle.su_op.proofs.RuleLemmas.{Admissible, Gives, AgreeOn, PlanMakesNew, gives_of, of_gives}
use Rattle.su_op.proofs.CreateLemmas.{create_admissible}
use Rattle.su_op.proofs.UnlinkLemmas.{unlink_admissible}
use Rattle.su_op.proofs.WriteLemmas.{write_admissible}
use Rattle.su_op.proofs.TruncateLemmas.{truncate_admissible}
use Rattle.su_op.proofs.TakeLemmas.{take_admissible}
use Rattle.su_op.proofs.LinkLemmas.{link_admissible}
use Rattle.su_op.proofs.RenameLemmas.{rename_admissible}
use Rattle.su_op.proofs.DropBodyLemmas.{drop_admissible}
use Rattle.std.proofs.lemmas.Bool.{or_right}

-- ---- operations

-- by cases over them
admissible : (op : Op) → Admissible (λ ro T x. rule_by_user ro T x op) (Row op)
admissible (Create c) = create_admissible c
admissible (Unlink u) = unlink_admissible u
admissible (Write w) = write_admissible w
admissible (Truncate t) = truncate_admissible t
admissible (Take t) = take_admissible t
admissible (Link l) = link_admissible l
admissible (Rename r) = rename_admissible r
admissible (Drop d) = drop_admissible d

pub row_of : (op : Op) → Row op
row_of op = (admissible op).row

-- ---- the same of an action, with its author

local_of : (ro : Membership) (x : Action) (T T' : Tree) (p : Plan) → Sound T → Gives (rule_of ro T x) p → AgreeOn (plan_reads p) T T' → Gives (rule_of ro T' x) p
local_of ro x T T' p sound (user, g) agree = (user, (admissible x.op).local ro x T T' p sound g agree)

can_of : (ro : Membership) (x : Action) (T : Tree) (p : Plan) → Sound T → Gives (rule_of ro T x) p → CanEdits T p.edits
can_of ro x T p sound (user, g) = (admissible x.op).can ro x T p sound g

new_of : (ro : Membership) (x : Action) (T : Tree) (p : Plan) → Gives (rule_of ro T x) p → PlanMakesNew T p
new_of ro x T p (user, g) = (admissible x.op).new ro x T p g

-- ---- the laws

pub none_is : {A : Type 0} (o : Option A) → is_none o ≡ true → o ≡ None
none_is None e = refl
none_is (Some x) e = absurd cc

in_reads : (p : Plan) (c : Cell) → has (plan_writes p) c ≡ true → has (plan_reads p) c ≡ true
in_reads p c e = list_any-append (λ a. in_area a c) p.reads (plan_writes p) ∙ or_right (has p.reads c) (has (plan_writes p) c) e

module _ (ro : Membership) where
  given : (T : Tree) (x : Action) → is_none (why ro T x) ≡ true → Gives (rule_of ro T x) (plan_of (rule_of ro T x))
  unfolding why
  given T x ok = gives_of (rule_of ro T x) (none_is (refusal (rule_of ro T x)) ok)

  pub can_of_action : (T : Tree) (x : Action) → Sound T → is_none (why ro T x) ≡ true → CanEdits T (plan_of (rule_of ro T x)).edits
  can_of_action T x sound ok = can_of ro x T (plan_of (rule_of ro T x)) sound (given T x ok)

  pub new_of_action : (T : Tree) (x : Action) → is_none (why ro T x) ≡ true → PlanMakesNew T (plan_of (rule_of ro T x))
  new_of_action T x ok = new_of ro x T (plan_of (rule_of ro T x)) (given T x ok)

  store_leaves : LeavesOthers (store ro)
  unfolding effect writes
  store_leaves T x sound ok c out = edits_leave T (plan_of (rule_of ro T x)).edits c (can_of_action T x sound ok) out

  store_local : IsLocal (store ro)
  unfolding why effect reads writes
  store_local T T' x sound sound' ok agree =
      let p : Plan = plan_of (rule_of ro T x) in
      let g : Gives (rule_of ro T' x) p = local_of ro x T T' p sound (given T x ok) (record { each = agree }) in
      let (fine, same) = of_gives (rule_of ro T' x) p g in
      let ok' : is_none (refusal (rule_of ro T' x)) ≡ true = ap is_none fine in
      record {
        ok = ok';
        reads = ap plan_reads same;
        writes = ap plan_writes same;
        values = λ c wrote. ap (λ (q : Plan). val (edits T' q.edits) c) same
            ∙ edits_alike T' T p.edits c (can_of ro x T' p sound' g) (can_of_action T x sound ok) (agree c (in_reads p c wrote));
      }

  store_within : (T : Tree) (x : Action) (c : Cell) → Sound T → is_none (why ro T x) ≡ true → has (writes ro T x) c ≡ true → has (reads ro T x) c ≡ true
  unfolding reads writes
  store_within T x c sound ok wrote = in_reads (plan_of (rule_of ro T x)) c wrote

  store_stays_sound : (T : Tree) (x : Action) → Sound T → is_none (why ro T x) ≡ true → Sound (effect ro T x)
  unfolding effect
  store_stays_sound T x sound ok = edits_sound T (plan_of (rule_of ro T x)).edits (can_of_action T x sound ok) sound

  root : Inode
  root = new_inode (Group 0 1) Dir

  root_linked : WellLinked (Some root)
  unfolding root
  root_linked = record { one = λ is. refl; few = λ l e. let same : 1 ≡ l = number_same 1 l e in (omega arith, omega arith) }

  none_linked : WellLinked None
  none_linked = record { one = λ (h, e). absurd cc; few = λ l e. absurd cc }

  genesis_linked : (p : Place) → WellLinked (get genesis.inodes p)
  unfolding genesis root
  genesis_linked p = subst WellLinked (sym (get-set_place empty (0, 1) (Some root) p)) (go (place_eq p (0, 1)))
    where
      go : (b : Bool) → WellLinked (cond b (Some root) (get {R = place_cmp} empty p))
      go true = root_linked
      go false = subst WellLinked (sym (get-empty {X = Inode} place_cmp p)) none_linked

  genesis_root : val genesis (At (0, 1) KindOf) ≡ AKind Dir (Group 0 1)
  unfolding genesis val root
  genesis_root = ap (λ o. field_value o KindOf) (get-set_place empty (0, 1) (Some root) (0, 1) ∙ ap (λ b. cond b (Some root) (get {R = place_cmp} empty (0, 1))) (place_eq-itself (0, 1)))

  genesis_pointer : (g : Place) → val genesis (Pointer g) ≡ cond (place_eq g (0, 1)) (APlace (0, 1)) Nothing
  unfolding genesis val
  genesis_pointer g = ap place_value (get-set_place empty (0, 1) (Some (0, 1)) g ∙ ap (cond (place_eq g (0, 1)) (Some (0, 1))) (get-empty {X = Place} place_cmp g)) ∙ go (place_eq g (0, 1))
    where
      go : (b : Bool) → place_value (cond b (Some (0, 1)) None) ≡ cond b (APlace (0, 1)) Nothing
      go true = refl
      go false = refl

  genesis_sound : Sound genesis
  genesis_sound = record { linked = genesis_linked; homes = λ g p at. go g p (place_eq g (0, 1)) refl (sym (genesis_pointer g) ∙ at) }
    where
      go : (g p : Place) (b : Bool) → place_eq g (0, 1) ≡ b → cond b (APlace (0, 1)) Nothing ≡ APlace p → IsBodyOf genesis g p
      go g p false is e = absurd cc
      go g p true is e =
          let here : (0, 1) ≡ p = place_same_value (0, 1) p e in
          (Dir, ap (λ r. val genesis (At r KindOf)) (sym here) ∙ genesis_root ∙ ap (λ r. AKind Dir (Group r.0 r.1)) (sym (place_eq-same g (0, 1) is)))

  pub store_lawful : Lawful (store ro)
  store_lawful = record {
    leaves = store_leaves;
    alike = store_local;
    within = store_within;
    stays_sound = store_stays_sound;
    apart = areas_apart;
    start_sound = genesis_sound;
    same = tree_same;
  }
