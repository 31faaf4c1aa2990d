-- What the lines of a client's script do, one after the other, and what is printed of them. (This
-- project's own.)
use Rattle.std.specs.Prelude.{◌≡◌, ◌⊎◌, ◌+◌, ℕ, Bool, List, [], ◌∷◌, ◌++◌, length, Option}
use Rattle.std.specs.Io.KnownBytes.{Appends}
use Rattle.su_bytes.specs.declared.refusals.Refusal.TheVariants.{NoMemory}
use Rattle.su_view.specs.declared.refusals.ViewRefusal.TheVariants.{Plain}
use Rattle.su_client.specs.Link.{LinkState}
use Rattle.su_client_work.specs.Member.{MemberState}
use Rattle.su_client_lines.specs.Said.{Said, Said.Asks, Said.OutOfRange, Said.Bad, asked_of}
use Rattle.su_client_lines.specs.ClientScript.{line_said}
use Rattle.su_client_lines.specs.declared.commands.ClientCommand.{ClientCommand}
use Rattle.su_desk_script.specs.Answer.{bad_text}
use Rattle.su_client_script.specs.Text.{refusal_shown}
use Rattle.su_client_script.specs.Calls.{FileCalls}
use Rattle.su_client_script.specs.Carrying.{Carries, CarriesSome}
use Rattle.su_client_script.specs.Leaving.{LeavesBehind}
use Rattle.su_client_script.specs.declared.endings.Ending.{Ending}
use Rattle.su_client_script.specs.declared.endings.Ending.TheVariants.{Finished, BadLine, Refused, Failed}

-- ---- a line that isn't empty

-- what such a line says is carried out; a word out of its range is refused
abbrev pub SaidIsDone : (ClientCommand → Type 0) → (List ℕ → Type 0) → Said → Type 0
SaidIsDone Done OnlyPrints (Asks words) =
    (it : ClientCommand) × (asked_of it ≡ words) × Done it
SaidIsDone Done OnlyPrints (OutOfRange e) = OnlyPrints (refusal_shown (Plain e))
SaidIsDone Done OnlyPrints Bad = ⊥

-- A command is carried out, and this is printed of it; then the client may leave the tree to the
-- server.
abbrev pub CarriesThenLeaves : (LinkState → Type 0) → FileCalls → Bool → ClientCommand
    → MemberState → MemberState → List ℕ → Type 0
CarriesThenLeaves MayConnect Files batches it s t text =
    (carried : MemberState) × Carries MayConnect Files batches it s carried text
    × LeavesBehind it carried t

-- A line is carried out, and this is printed of it; or it is refused for want of memory.
abbrev pub LineDoes : (LinkState → Type 0) → FileCalls → Bool → List ℕ
    → MemberState → MemberState → List ℕ → Type 0
LineDoes MayConnect Files batches line s t text =
    ((t ≡ s) × (text ≡ refusal_shown (Plain NoMemory)))
    ⊎ SaidIsDone (λ it. CarriesThenLeaves MayConnect Files batches it s t text)
    (λ shown. (t ≡ s) × (text ≡ shown)) (line_said line)

-- what is done for it at most, where something else fails
abbrev pub LineDoesSome : (LinkState → Type 0) → Bool → List ℕ → MemberState → MemberState → Type 0
LineDoesSome MayConnect batches line s t =
    (t ≡ s)
    ⊎ SaidIsDone (λ it. CarriesSome MayConnect batches it s t) (λ shown. t ≡ s) (line_said line)

-- ---- lines

-- Lines are carried out, one after the other; an empty one does nothing.
abbrev pub LinesDo : (LinkState → Type 0) → FileCalls → Bool → List (List ℕ)
    → MemberState → MemberState → List ℕ → Type 0
LinesDo MayConnect Files batches [] s t text = (t ≡ s) × (text ≡ [])
LinesDo MayConnect Files batches ([] ∷ lines) s t text =
    LinesDo MayConnect Files batches lines s t text
LinesDo MayConnect Files batches ((b ∷ bs) ∷ lines) s t text =
    (between : MemberState) × (first rest : List ℕ)
    × LineDoes MayConnect Files batches (b ∷ bs) s between first
    × LinesDo MayConnect Files batches lines between t rest × (text ≡ first ++ rest)

-- The first lines are carried out; then a fault ends the run, in a line or before one.
pub record LinesFail (MayConnect : LinkState → Type 0) (Files : FileCalls) (batches : Bool)
    (lines : List (List ℕ)) (s t : MemberState) : Type 0 where
  pub done : List (List ℕ)
  pub others : List (List ℕ)
  pub all : lines ≡ done ++ others
  pub between : MemberState
  pub text : List ℕ
  pub lines_do : LinesDo MayConnect Files batches done s between text
  pub last : (t ≡ between)
      ⊎ ((line : List ℕ) × (after : List (List ℕ)) × (others ≡ line ∷ after)
      × LineDoesSome MayConnect batches line between t)

-- How a run of these lines ends, and what it printed: all are carried out; or all before the one of
-- that number, which is no command; or all up to the one of that number, which is refused.
abbrev pub Runs : (LinkState → Type 0) → FileCalls → Bool → List (List ℕ)
    → MemberState → MemberState → List ℕ → Ending → Type 0
Runs MayConnect Files batches lines s t text Finished =
    LinesDo MayConnect Files batches lines s t text
Runs MayConnect Files batches lines s t text (BadLine number mistake) =
    (done others : List (List ℕ)) × (line first : List ℕ) × (lines ≡ done ++ line ∷ others)
    × (number ≡ length done + 1) × LinesDo MayConnect Files batches done s t first
    × (line_said line ≡ Bad) × (text ≡ first ++ bad_text number)
Runs MayConnect Files batches lines s t text (Refused number) =
    (done others : List (List ℕ)) × (lines ≡ done ++ others) × (number ≡ length done)
    × LinesDo MayConnect Files batches done s t text
Runs MayConnect Files batches lines s t text (Failed fault) =
    LinesFail MayConnect Files batches lines s t

-- ---- what is printed

-- it is done, and a text comes of it, which is written behind what was
abbrev pub Prints : Option (List ℕ) → Option (List ℕ) → (List ℕ → Type 0) → Type 0
Prints old new Does = (text : List ℕ) × Does text × Appends old new text

-- so it is, unless the run ended in a fault
abbrev pub PrintsUnlessFault : Option (List ℕ) → Option (List ℕ) → (List ℕ → Type 0) → Ending
    → Type 0
PrintsUnlessFault old new Does (Failed fault) = (text : List ℕ) × Does text
PrintsUnlessFault old new Does _ = Prints old new Does
