-- One step of a run: a line, what the client does for it, and what is printed.
use Rattle.std.specs.Prelude.{◌≡◌, ◌⊎◌, ℕ, Bool, true, false, not, List, [], ◌∷◌, Option, None, Some, Result, Ok, Err}
use Rattle.std.specs.Io.KnownBytes.{Appends}
use Rattle.su_view.specs.declared.refusals.ViewRefusal.{ViewRefusal}
use Rattle.su_client.specs.Link.{LinkState}
use Rattle.su_client_work.specs.Member.{MemberState}
use Rattle.su_client_lines.specs.Said.{Said.Bad}
use Rattle.su_client_lines.specs.ClientScript.{line_said}
use Rattle.su_client_lines.specs.declared.commands.ClientCommand.{ClientCommand}
use Rattle.su_client_lines.specs.declared.commands.ClientCommand.TheVariants as command
use Rattle.su_desk_lines.specs.Script.{lines_of}
use Rattle.su_desk_script.specs.Answer.{bad_text}
use Rattle.su_client_script.specs.Calls.{FileCalls}
use Rattle.su_client_script.specs.Lines.{LineDoes, LineDoesSome, LinesDo, Prints}
use Rattle.su_client_script.specs.declared.answers.Outcome.{Outcome}
use Rattle.su_client_script.specs.declared.answers.Outcome.TheVariants as outcome
use Rattle.su_client_script.specs.declared.endings.Ending.{Ending}
use Rattle.su_client_script.specs.declared.endings.Ending.TheVariants as ending
use Rattle.su_client_script.specs.declared.endings.Fault.{Fault}
use Rattle.su_client_script.specs.declared.places.Place.{Place}
use Rattle.su_client_script.specs.declared.places.Place.TheVariants.{First, Later, AfterTake}
use Rattle.su_client_script.specs.declared.steps.Step.{Step}
use Rattle.su_client_script.specs.declared.steps.Step.TheVariants as step

-- whether the turn is held for an operation that stands there in its command
abbrev pub is_first : Place → Bool
is_first First = true
is_first Later = false
is_first AfterTake = false

abbrev pub is_after_take : Place → Bool
is_after_take AfterTake = true
is_after_take _ = false

abbrev pub is_refused : Outcome → Bool
is_refused outcome.Done = false
is_refused outcome.Committed = false
is_refused (outcome.Refused e place) = true

-- whether a commit was made
abbrev pub has_committed : Outcome → Bool
has_committed outcome.Done = false
has_committed outcome.Committed = true
has_committed (outcome.Refused e place) = not (is_first place)

-- this came of what was answered so, of a part that stands there
abbrev pub IsOutcome : {A : Type 0} → Place → Result A ViewRefusal → Outcome → Type 0
IsOutcome place (Ok x) out = out ≡ outcome.Committed
IsOutcome place (Err e) out = out ≡ outcome.Refused e place

-- by a question no commit is made
abbrev pub FitsCommand : ClientCommand → Outcome → Type 0
FitsCommand (command.List path) out = has_committed out ≡ false
FitsCommand (command.Read path off len) out = has_committed out ≡ false
FitsCommand (command.Save file) out = has_committed out ≡ false
FitsCommand _ out = Unit {0}

-- what came of a line that isn't empty, which has that number
abbrev pub LineSteps : (LinkState → Type 0) → FileCalls → Bool → ℕ → List ℕ
    → MemberState → MemberState → Option (List ℕ) → Option (List ℕ) → Step → Type 0
LineSteps MayConnect Files batches number line s t old new (step.Bad mistake) =
    (line_said line ≡ Bad) × (t ≡ s) × Appends old new (bad_text number)
LineSteps MayConnect Files batches number line s t old new step.Over = ⊥
LineSteps MayConnect Files batches number line s t old new _ =
    Prints old new (LineDoes MayConnect Files batches line s t)

-- what came of the next line of an input, of which this much is left then
abbrev pub Steps : (LinkState → Type 0) → FileCalls → Bool → ℕ → List ℕ
    → MemberState → MemberState → Option (List ℕ) → Option (List ℕ) → Option (List ℕ)
    → Result Step Fault → Type 0
Steps MayConnect Files batches number input s t known old new (Ok step.Over) =
    (lines_of input ≡ []) × (t ≡ s) × Appends old new []
Steps MayConnect Files batches number input s t known old new (Ok (step.Bad mistake)) =
    (line : List ℕ) × (others : List (List ℕ)) × (lines_of input ≡ line ∷ others)
    × (line_said line ≡ Bad) × (t ≡ s) × Appends old new (bad_text number)
Steps MayConnect Files batches number input s t known old new (Ok _) =
    (line rest : List ℕ) × (known ≡ Some rest) × (lines_of input ≡ line ∷ lines_of rest)
    × Prints old new (LinesDo MayConnect Files batches (line ∷ []) s t)
Steps MayConnect Files batches number input s t known old new (Err fault) =
    (t ≡ s)
    ⊎ ((line : List ℕ) × (others : List (List ℕ)) × (lines_of input ≡ line ∷ others)
    × LineDoesSome MayConnect batches line s t)

-- how the run ends with a step of that number, if it does
abbrev pub EndsWith : ℕ → Step → Option Ending → Type 0
EndsWith number step.Done end = end ≡ None
EndsWith number step.Refused end = (end ≡ None) ⊎ (end ≡ Some (ending.Refused number))
EndsWith number (step.Bad mistake) end = end ≡ Some (ending.BadLine number mistake)
EndsWith number step.Over end = end ≡ Some ending.Finished
