-- What is carried out for a command, and for a line.
use Rattle.std.proofs.Common.{◌≡◌, ℕ, Bool, List, [], Option, Result, Ok, Err, inl, inr, refl, sym, subst, append-nil}
use Rattle.std.specs.Prelude.{OnOk, OnErr, IfOk, MatchResult}
use Rattle.std.specs.Io.KnownBytes.{Appends}
use Rattle.su_op.specs.declared.operations.Op.{Op}
use Rattle.su_draft.specs.declared.commands.Command.{Command}
use Rattle.su_view.specs.declared.refusals.ViewRefusal.{ViewRefusal}
use Rattle.su_client.specs.Link.{LinkState}
use Rattle.su_view.specs.Holding.{HoldingState}
use Rattle.su_client_work.specs.Member.{MemberState, IsClear, OnlyTakes}
use Rattle.su_client_lines.specs.Said.{Said, asked_of}
use Rattle.su_client_lines.specs.Said as said
use Rattle.su_client_lines.specs.declared.commands.ClientCommand.{ClientCommand}
use Rattle.su_client_lines.specs.declared.commands.ClientCommand.TheVariants as command
use Rattle.su_client_script.specs.Carrying.{Tells, Carries, CarriesChange, CarriesSome, CarriesSomeChange, CommitsSome, CommitsUntil}
use Rattle.su_client_script.specs.Calls.{FileCalls, IsSaved}
use Rattle.su_client_script.specs.Lines.{Prints, SaidIsDone}
use Rattle.su_client_script.specs.Text.{refusal_shown}

pub on_ok_so : {R E : Type 0} (r : Result R E) (X Y : Type 0) → (X → Y) → OnOk r X → OnOk r Y
on_ok_so (Ok x) X Y so holds = so holds
on_ok_so (Err e) X Y so holds = tt

pub on_err_so : {R E : Type 0} (r : Result R E) (X Y : Type 0) → (X → Y) → OnErr r X → OnErr r Y
on_err_so (Ok x) X Y so holds = tt
on_err_so (Err e) X Y so holds = so holds

pub on_err : {R E : Type 0} (r : Result R E) (X : Type 0) → X → OnErr r X
on_err (Ok x) X holds = tt
on_err (Err e) X holds = holds

-- what is printed by what is done, is printed by more that this is
pub prints_so : (old new : Option (List ℕ)) (D E : List ℕ → Type 0) → ((text : List ℕ) → D text → E text) → Prints old new D → Prints old new E
prints_so old new D E so (text, done, printed) = (text, so text done, printed)

pub saved_so : {P : Type 0} (saves : P → List ℕ → List ℕ → P → Type 0) (before after : P) (f file l log : List ℕ) → f ≡ file → l ≡ log → saves before f l after → IsSaved saves file log
saved_so saves before after f file l log same_file same_log is = (before, after, subst (λ x. saves before x log after) same_file (subst (λ x. saves before f x after) same_log is))

-- ---- questions

pub asks_so : {A : Type 0} (r : Result A ViewRefusal) (Looked : LinkState → HoldingState → LinkState → Type 0) (s t : MemberState) (old new : Option (List ℕ)) (Answers : List ℕ → Type 0) (shown : A → List ℕ) (Holds : A → Type 0)
    → OnlyTakes s t → OnOk r (Looked s.link t.holding t.link) → (IsClear t → IfOk r Holds) → ((x : A) → (IsClear t → Holds x) → Answers (shown x))
    → MatchResult r (λ x. Appends old new (shown x)) (λ e. Appends old new (refusal_shown e)) → Prints old new (λ text. Tells Looked (Answers text) s t text)
asks_so (Ok x) Looked s t old new Answers shown Holds takes looks holds so printed = (shown x, record { takes = takes; answers = inr (looks, so x holds) }, printed)
asks_so (Err e) Looked s t old new Answers shown Holds takes looks holds so printed = (refusal_shown e, record { takes = takes; answers = inl (e, refl) }, printed)

-- ---- what is done at most

commits_some : (M : LinkState → Type 0) (s t : MemberState) (text : List ℕ) (parts : List (List Op)) → CommitsUntil M parts s t text → CommitsSome M parts s t
commits_some M s t text parts until = (parts, [], sym (append-nil parts), text, until)

change_some : (M : LinkState → Type 0) (batches : Bool) (it : Command) (s t : MemberState) (text : List ℕ) → CarriesChange M batches it s t text → CarriesSomeChange M batches it s t
change_some M batches it s t text (inl (takes, refused)) = inl takes
change_some M batches it s t text (inr plan) = inr (record {
  turn = plan.turn;
  parts = plan.parts;
  plans = plan.plans;
  clear = plan.clear;
  committed = commits_some M plan.turn t text plan.parts plan.committed;
})

-- what is carried out is no more than that
pub carries_some : (M : LinkState → Type 0) (Files : FileCalls) (batches : Bool) (it : ClientCommand) (s t : MemberState) (text : List ℕ)
    → Carries M Files batches it s t text → CarriesSome M batches it s t
carries_some M Files batches (command.Change it) s t text (ready, moves, done) = (ready, moves, change_some M batches it ready t text done)
carries_some M Files batches (command.Undo number) s t text (r, commits, is) = (r, commits)
carries_some M Files batches command.UndoLast s t text (r, commits, is) = (r, commits)
carries_some M Files batches (command.Rekey file) s t text (inl (same, refused)) = inl same
carries_some M Files batches (command.Rekey file) s t text (inr (key, leaf, r, opens, rekeys, is)) = inr (key, leaf, r, rekeys)
carries_some M Files batches (command.List path) s t text done = done.takes
carries_some M Files batches (command.Read path off len) s t text done = done.takes
carries_some M Files batches (command.Save file) s t text done = done.takes

pub line_some : (M : LinkState → Type 0) (batches : Bool) (x : Said) (it : ClientCommand) (s t : MemberState) → x ≡ said.Said.Asks (asked_of it) → CarriesSome M batches it s t
    → SaidIsDone (λ it. CarriesSome M batches it s t) (λ shown. t ≡ s) x
line_some M batches x it s t is done = subst (λ x. SaidIsDone (λ it. CarriesSome M batches it s t) (λ shown. t ≡ s) x) (sym is) (it, refl, done)
