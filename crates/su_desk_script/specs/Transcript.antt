-- What a desk prints for a script: line by line the stated text of each answer.
use Rattle.std.specs.Prelude.{◌≡◌, ℕ, ◌+◌, ◌⊎◌, List, [], ◌∷◌, ◌++◌, Option, None, Some, replicate}
use Rattle.su_bytes.specs.Membership.{Membership, membership_of_keys}
use Rattle.su_bytes.specs.declared.formats.Format.{Format}
use Rattle.su_bytes.specs.declared.refusals.Refusal.{Refusal}
use Rattle.su_bytes.specs.declared.rosters.TheConstants.{KEY_LENGTH}
use Rattle.su_bytes.specs.declared.refusals.Refusal.TheVariants.{NoMemory}
use Rattle.su_desk.specs.Desk.{DeskState}
use Rattle.su_desk_lines.specs.declared.ranges.Command.{Command}
use Rattle.su_desk_lines.specs.declared.verbs.Verb.{Verb}
use Rattle.su_desk_lines.specs.Desk.{Spoken, command_said, line_said}
use Rattle.su_desk_script.specs.declared.desk.Ending.{Ending}
use Rattle.su_desk_script.specs.declared.desk.Ending.TheVariants as ending
use Rattle.su_desk_script.specs.declared.desk.Status.{Status}
use Rattle.su_desk_script.specs.declared.desk.Status.TheVariants.{Finished, Fault, BadLine}
use Rattle.su_desk_lines.specs.Script.{lines_of}
use Rattle.su_desk_lines.specs.Range.{word_refusal}
use Rattle.su_desk_script.specs.Answer.{refused_text, bad_text}
use Rattle.su_desk_script.specs.Session.{SessionState, Does}

-- the status of a program whose run ended so
abbrev pub status_of : Ending → Status
status_of ending.Finished = Finished
status_of (ending.BadLine number mistake) = BadLine
status_of (ending.Failed fault) = Fault

-- the exit status
abbrev pub status_code : Status → ℕ
status_code Finished = 0
status_code Fault = 1
status_code BadLine = 2

-- A command is carried out that has the words; one whose words are refused changes nothing, and so does
-- one for which there is no memory.
abbrev pub Says : SessionState → Spoken Verb → Option Refusal → List ℕ → SessionState → Type 0
Says d said None out d' = (command : Command) × (command_said command ≡ said) × Does d command out d'
Says d said (Some r) out d' = ((out ≡ refused_text r) ⊎ (out ≡ refused_text NoMemory)) × (d' ≡ d)

-- what a non-empty line prints, and what the desk is then; want of memory changes nothing
abbrev pub LineSays : SessionState → List ℕ → List ℕ → SessionState → Type 0
LineSays d line out d' =
    ((out ≡ refused_text NoMemory) × (d' ≡ d))
    ⊎ ((said : Spoken Verb) × (line_said line ≡ Some said)
    × Says d said (word_refusal d.desk.roster said.values) out d')

-- What is printed for the lines from number k on, and how the run ends: empty lines print nothing, the
-- first line that is no command ends the run.
abbrev pub Transcript : SessionState → ℕ → List (List ℕ) → List ℕ → Status → Type 0
Transcript d k [] out status = (out ≡ []) × (status ≡ Finished)
Transcript d k ([] ∷ lines) out status = Transcript d (k + 1) lines out status
Transcript d k ((b ∷ bs) ∷ lines) out status =
    ((line_said (b ∷ bs) ≡ None) × (out ≡ bad_text k) × (status ≡ BadLine))
    ⊎ ((first : List ℕ) × (rest : List ℕ) × (d' : SessionState) × LineSays d (b ∷ bs) first d'
    × (out ≡ first ++ rest) × Transcript d' (k + 1) lines rest status)

-- n users, whose keys are zero bytes; group 0 has all of them, and group 1 has user 0
abbrev pub desk_members : ℕ → Membership
desk_members n = membership_of_keys (replicate n (replicate KEY_LENGTH 0))

-- a desk of n users with an empty history
abbrev pub new_desk : ℕ → DeskState
new_desk n = record { roster = desk_members n; history = [] }

-- such a desk for changes in that format, and nothing kept
abbrev pub start : ℕ → Format → SessionState
start n format = record { desk = new_desk n; format = format; mark = None }

-- Unless a fault ended the run, the writer holds what it held, and then the transcript of the bytes
-- from line k on.
abbrev pub PrintsFrom : SessionState → ℕ → List ℕ → List ℕ → Option (List ℕ) → Status → Type 0
PrintsFrom d k input before after Fault = Unit {0}
PrintsFrom d k input before after status =
    (out : List ℕ) × (after ≡ Some (before ++ out)) × Transcript d k (lines_of input) out status

-- the same of a whole script, on a new desk of n users for changes in that format
abbrev pub Prints : ℕ → Format → List ℕ → List ℕ → Option (List ℕ) → Status → Type 0
Prints n format input before after status =
    PrintsFrom (start n format) 1 input before after status
