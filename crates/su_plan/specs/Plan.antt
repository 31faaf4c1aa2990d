-- The plan of a command: the operations that carry it out, all of them accepted in turn.
use Rattle.std.specs.Prelude.{ℕ, List, [], ◌∷◌, ◌++◌, Option, Some, None, Result, Ok, Err}
use Rattle.su_bytes.specs.declared.formats.TheConstants.{NEWEST_FORMAT}
use Rattle.su_bytes.specs.declared.refusals.Refusal.{Refusal}
use Rattle.su_bytes.specs.Membership.{Membership}
use Rattle.su_table.specs.Tree.{Tree}
use Rattle.su_op.specs.declared.operations.Op.{Op}
use Rattle.su_op.specs.Batch.{action_by, effect, first_refusal}
use Rattle.su_draft.specs.declared.commands.Command.{Command}
use Rattle.su_draft.specs.Refusable.{◌>>=◌}
use Rattle.su_draft.specs.Command.{draft}

-- operations that meet that refusal first, or none
abbrev pub unless_refused : List Op → Option Refusal → Result (List Op) Refusal
unless_refused ops None = Ok ops
unless_refused ops (Some e) = Err e

-- The plan of a command by user a: its draft, where each of these operations, made in the newest
-- format, is accepted after those before it; else the first refusal that they meet.
unfoldable pub plan : Membership → Tree → ℕ → Command → Result (List Op) Refusal
plan ro T a command = do
  ops ← draft ro T a command
  unless_refused ops (first_refusal ro T a NEWEST_FORMAT ops)

-- operations, and behind them those of a plan, if there is one
abbrev pub and_behind : List Op → Result (List Op) Refusal → Result (List Op) Refusal
and_behind ops (Ok more) = Ok (ops ++ more)
and_behind ops (Err e) = Err e

-- The plan of commands by user a, one after another, as one: that of the first, and behind it that
-- of the others on the tree that its operations leave; else the refusal of the first command that
-- has no plan.
abbrev pub plan_all : Membership → Tree → ℕ → List Command → Result (List Op) Refusal
plan_all ro T a [] = Ok []
plan_all ro T a (command ∷ commands) = do
  ops ← plan ro T a command
  and_behind ops (plan_all ro (effect ro T (action_by a NEWEST_FORMAT ops)) a commands)
