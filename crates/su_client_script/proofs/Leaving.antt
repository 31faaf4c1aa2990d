-- What comes behind a command: the client leaves the tree to its server, or nothing.
use Rattle.std.proofs.Common.{◌≡◌, ℕ, Bool, false, List, Option, Result, Ok, Err, inl, inr, refl, sym, subst}
use Rattle.std.specs.Prelude.{◌⊎◌, IfOk}
use Rattle.su_client.specs.Following.{follows_itself}
use Rattle.su_client.specs.Link.{LinkState}
use Rattle.su_client_work.specs.Member.{MemberState}
use Rattle.su_client_lines.specs.Said as said
use Rattle.su_client_lines.specs.Said.{Said, asked_of}
use Rattle.su_client_lines.specs.ClientScript.{line_said}
use Rattle.su_client_lines.specs.declared.commands.ClientCommand.{ClientCommand}
use Rattle.su_client_lines.specs.declared.commands.ClientCommand.TheVariants as command
use Rattle.su_client_script.specs.Calls.{FileCalls}
use Rattle.su_client_script.specs.Carrying.{Carries}
use Rattle.su_client_script.specs.Leaving.{Leaves, LeavesBehind}
use Rattle.su_client_script.specs.Lines.{CarriesThenLeaves, LineDoes, Prints, SaidIsDone}
use Rattle.su_client_script.specs.Step.{FitsCommand, LineSteps, has_committed}
use Rattle.su_client_script.specs.declared.answers.Outcome.{Outcome}
use Rattle.su_client_script.specs.declared.steps.Step.{Step}
use Rattle.su_client_script.specs.declared.steps.Step.TheVariants as step

-- it leaves nothing
leaves_itself : (s : MemberState) → Leaves s s
leaves_itself s = record {
  asks = record { holding = refl; clear = λ clear. clear; signed = refl; next = refl };
  follows = follows_itself s.link;
}

pub leaves_none : (s t : MemberState) → t ≡ s → Leaves s t
leaves_none s t same = subst (Leaves s) (sym same) (leaves_itself s)

-- what holds of a value, holds of it
pub on_ok_if : {A E : Type 0} (r : Result A E) (P Q : A → Type 0) → ((a : A) → P a → Q a) → IfOk r P → IfOk r Q
on_ok_if (Ok a) P Q so holds = so a holds
on_ok_if (Err e) P Q so holds = tt

-- behind a question it leaves nothing
pub leaves_behind : (it : ClientCommand) (out : Outcome) (s t : MemberState) → FitsCommand it out → Leaves s t → (has_committed out ≡ false → t ≡ s) → LeavesBehind it s t
leaves_behind (command.Change c) out s t fits leaves same = leaves
leaves_behind (command.Undo number) out s t fits leaves same = leaves
leaves_behind command.UndoLast out s t fits leaves same = leaves
leaves_behind (command.Rekey file) out s t fits leaves same = leaves
leaves_behind (command.List path) out s t fits leaves same = same fits
leaves_behind (command.Read path off len) out s t fits leaves same = same fits
leaves_behind (command.Save file) out s t fits leaves same = same fits

module _ (M : LinkState → Type 0) (Files : FileCalls) (batches : Bool) (number : ℕ) (line : List ℕ) (it : ClientCommand) (s m t : MemberState) (old new : Option (List ℕ))
    (is : line_said line ≡ said.Said.Asks (asked_of it)) where
  line_does : Prints old new (Carries M Files batches it s m) → LeavesBehind it m t → Prints old new (LineDoes M Files batches line s t)
  line_does (text, carries, printed) behind = (
    text,
    inr (subst (λ (x : Said). SaidIsDone (λ it. CarriesThenLeaves M Files batches it s t text) (λ shown. (t ≡ s) × (text ≡ shown)) x) (sym is) (it, refl, (m, carries, behind))),
    printed,
  )

  -- a line that is carried out
  pub line_steps : (st : Step) → (st ≡ step.Done) ⊎ (st ≡ step.Refused) → Prints old new (Carries M Files batches it s m) → LeavesBehind it m t
      → LineSteps M Files batches number line s t old new st
  line_steps st (inl done) carries behind = subst (LineSteps M Files batches number line s t old new) (sym done) (line_does carries behind)
  line_steps st (inr refused) carries behind = subst (LineSteps M Files batches number line s t old new) (sym refused) (line_does carries behind)
