-- Plans of several commands, command by command.
use Rattle.std.proofs.Common.{◌≡◌, ◌∙◌, ℕ, List, [], ◌∷◌, ◌++◌, Result, Ok, Err, refl, ap, sym, append_assoc}
use Rattle.std.specs.Prelude.{IfErr}
use Rattle.su_bytes.specs.Membership.{Membership}
use Rattle.su_bytes.specs.declared.formats.TheConstants.{NEWEST_FORMAT}
use Rattle.su_bytes.specs.declared.refusals.Refusal.{Refusal}
use Rattle.su_table.specs.Tree.{Tree}
use Rattle.su_op.specs.declared.operations.Op.{Op}
use Rattle.su_op.specs.Batch.{action_by, effect}
use Rattle.su_draft.specs.declared.commands.Command.{Command}
use Rattle.su_draft.specs.Refusable.{◌>>=◌}
use Rattle.su_plan.specs.Plan.{and_behind, plan, plan_all}

pub none_before : (r : Result (List Op) Refusal) → r ≡ and_behind [] r
none_before (Ok ops) = refl
none_before (Err e) = refl

both_before : (xs ys : List Op) (r : Result (List Op) Refusal) → and_behind xs (and_behind ys r) ≡ and_behind (xs ++ ys) r
both_before xs ys (Ok ops) = ap Ok (sym (append_assoc xs ys ops))
both_before xs ys (Err e) = refl

-- the first command of several is planned
pub first_planned : (ro : Membership) (T : Tree) (a : ℕ) (command : Command) (commands : List Command) (xs ops : List Op) → plan ro T a command ≡ Ok ops
    → and_behind xs (plan_all ro T a (command ∷ commands)) ≡ and_behind (xs ++ ops) (plan_all ro (effect ro T (action_by a NEWEST_FORMAT ops)) a commands)
first_planned ro T a command commands xs ops is =
    ap (λ r. and_behind xs (r >>= λ os. and_behind os (plan_all ro (effect ro T (action_by a NEWEST_FORMAT os)) a commands))) is
    ∙ both_before xs ops (plan_all ro (effect ro T (action_by a NEWEST_FORMAT ops)) a commands)

pub err_weaker : {A : Type 0} {P Q : Refusal → Type 0} (r : Result A Refusal) → ((e : Refusal) → P e → Q e) → IfErr r P → IfErr r Q
err_weaker (Ok a) f p = tt
err_weaker (Err e) f p = f e p
