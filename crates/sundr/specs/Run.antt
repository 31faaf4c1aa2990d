-- What the program prints for a command line, and how it ends.
use Rattle.std.specs.Prelude.{◌≡◌, ◌≢◌, ⊤, ℕ, List, ◌++◌, Option, Some, string_bytes, [], ◌∷◌, codes}
use Rattle.std.specs.Fmt.{decimal}
use Rattle.su_arguments.specs.declared.line.Line.{Line}
use Rattle.su_arguments.specs.declared.line.Line.TheVariants.{People, Desk, Keygen, Audit, Serve, Client, Backup, Text}
use Rattle.su_line.specs.declared.faults.LineFault.{LineFault}
use Rattle.su_line.specs.declared.faults.LineFault.TheVariants.{Usage, NoMemory}
use Rattle.su_desk_script.specs.declared.desk.Status.{Status}
use Rattle.su_desk_script.specs.declared.desk.Status.TheVariants.{Finished, Fault, BadLine}
use Rattle.su_desk_script.specs.Transcript.{Prints}
use Rattle.su_audit.specs.Audit.{taken_text}
use Rattle.su_people.specs.declared.outcomes.Outcome.{Outcome}
use Rattle.sundr.specs.declared.endings.Ended.{Ended}
use Rattle.sundr.specs.declared.endings.Ended.TheVariants as ended
use Rattle.sundr.specs.Key.{IsPublicLine}

-- a wrong command line ends the program as a line that is no command does, want of memory as a
-- fault
abbrev pub refused_status : LineFault → Status
refused_status (Usage text) = BadLine
refused_status NoMemory = Fault

-- unless a fault ended the run, the writer holds what it held, and then such a text
abbrev pub PrintsUnlessFault :
    (List ℕ → Type 0) → List ℕ → Option (List ℕ) → Status → Type 0
PrintsUnlessFault P before after Finished =
    (text : List ℕ) × P text × (after ≡ Some (before ++ text))
PrintsUnlessFault P before after Fault = Unit {0}
PrintsUnlessFault P before after BadLine = ⊥

-- unless a fault ended the run, the writer holds what it held, and then some text
abbrev pub AddsUnlessFault : List ℕ → Option (List ℕ) → Status → Type 0
AddsUnlessFault before after Finished = (text : List ℕ) × (after ≡ Some (before ++ text))
AddsUnlessFault before after BadLine = (text : List ℕ) × (after ≡ Some (before ++ text))
AddsUnlessFault before after Fault = Unit {0}

-- `ok N` for some N
abbrev pub IsTakenLine : List ℕ → Type 0
IsTakenLine text = (n : ℕ) × (text ≡ taken_text n)

-- `ok 12 new 3`
abbrev pub copied_text : ℕ → ℕ → List ℕ
copied_text records new =
    codes "ok " ++ (decimal records ++ (codes " new " ++ (decimal new ++ 10 ∷ [])))

-- `ok N new M` for some N and M
abbrev pub IsCopiedLine : List ℕ → Type 0
IsCopiedLine text = (records new : ℕ) × (text ≡ copied_text records new)

-- a desk prints the transcript of its script, a key maker the line of a public key, and a text
-- itself; an audit that ends well prints how many commits it took (of which log no clause can say, as
-- it stands in a file); a server prints nothing; of what a client prints a clause can only say that
-- it comes after what was there, as it rests on what the server shows; a backup that ends well prints
-- how many records the copy has and how many are new; of what is done for people nothing is said here
abbrev pub CarriesOut : Line → List ℕ → List ℕ → Option (List ℕ) → Ended → Type 0
CarriesOut (Desk users format) input before after (ended.Program status) =
    Prints users format input before after status
CarriesOut (Keygen entropy out params) input before after (ended.Program status) =
    PrintsUnlessFault (IsPublicLine params) before after status
CarriesOut (Audit log keys) input before after (ended.Program status) =
    PrintsUnlessFault IsTakenLine before after status
CarriesOut (Serve args) input before after (ended.Program status) =
    (after ≡ Some before) × (status ≢ BadLine)
CarriesOut (Client args) input before after (ended.Program status) =
    AddsUnlessFault before after status
CarriesOut (Backup port to keys) input before after (ended.Program status) =
    PrintsUnlessFault IsCopiedLine before after status
CarriesOut (Text text) input before after (ended.Program status) =
    PrintsUnlessFault (λ t. t ≡ string_bytes text) before after status
CarriesOut (People line) input before after (ended.People outcome) = ⊤
CarriesOut _ input before after _ = ⊥
