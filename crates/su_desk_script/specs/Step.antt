-- One step of a run: a line, and what it does to the desk, the reader and the writer.
use Rattle.std.specs.Prelude.{◌≡◌, ℕ, ◌+◌, List, ◌++◌, Option, None, Some}
use Rattle.su_desk_script.specs.Session.{SessionState}
use Rattle.su_desk_script.specs.declared.desk.Status.{Status}
use Rattle.su_desk_script.specs.declared.desk.Status.TheVariants.{Fault, BadLine}
use Rattle.su_desk_script.specs.declared.desk.Step.{Step}
use Rattle.su_desk_script.specs.declared.desk.Step.TheVariants.{GoesOn, Ends}
use Rattle.su_desk_lines.specs.Desk.{line_said}
use Rattle.su_desk_lines.specs.Script.{lines_of}
use Rattle.su_desk_script.specs.Transcript.{LineSays, Transcript, PrintsFrom, status_of}
use Rattle.su_desk_script.specs.Answer.{bad_text}

-- Some of the input was carried out and its text written; what the rest prints comes after it.
abbrev pub Continues : SessionState → ℕ → List ℕ → List ℕ
    → SessionState → ℕ → Option (List ℕ) → Option (List ℕ) → Type 0
Continues d k input before d' k' known contents =
    (first : List ℕ) × (rest : List ℕ) × (known ≡ Some rest) × (contents ≡ Some (before ++ first))
    × ((out : List ℕ) (status : Status) → Transcript d' k' (lines_of rest) out status
    → Transcript d k (lines_of input) (first ++ out) status)

-- a step ends the run, or it continues with the next line
abbrev pub Steps : SessionState → ℕ → List ℕ → List ℕ
    → SessionState → Option (List ℕ) → Option (List ℕ) → Step → Type 0
Steps d k input before d' known contents (Ends ending) =
    PrintsFrom d k input before contents (status_of ending)
Steps d k input before d' known contents GoesOn =
    Continues d k input before d' (k + 1) known contents

-- a line ends a run where it is no command, unless a fault comes first
abbrev pub LineEnds : ℕ → List ℕ → List ℕ → Option (List ℕ) → Status → Type 0
LineEnds k line before contents Fault = Unit {0}
LineEnds k line before contents status =
    (line_said line ≡ None) × (contents ≡ Some (before ++ bad_text k)) × (status ≡ BadLine)

-- what a line that is not empty does
abbrev pub LineSteps : SessionState → ℕ → List ℕ → List ℕ
    → SessionState → Option (List ℕ) → Step → Type 0
LineSteps d k line before d' contents (Ends ending) =
    LineEnds k line before contents (status_of ending)
LineSteps d k line before d' contents GoesOn =
    (first : List ℕ) × LineSays d line first d' × (contents ≡ Some (before ++ first))

-- a run ends after the text of a bad line, unless a fault comes first
abbrev pub EndsBadly : ℕ → List ℕ → Option (List ℕ) → Status → Type 0
EndsBadly k before contents Fault = Unit {0}
EndsBadly k before contents status = (contents ≡ Some (before ++ bad_text k)) × (status ≡ BadLine)
