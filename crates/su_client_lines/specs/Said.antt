-- What a line of a client's script says: a command, and what the words after its own word say.
use Rattle.std.specs.Prelude.{List, [], ◌∷◌}
use Rattle.su_bytes.specs.declared.refusals.Refusal.{Refusal}
use Rattle.su_draft.specs.declared.commands.Command.{Command}
use Rattle.su_draft.specs.declared.commands.Command.TheVariants as command
use Rattle.su_desk_lines.specs.Form.{Value, Value.Number, Value.Size, Value.Bytes, Value.Text}
use Rattle.su_client_lines.specs.declared.commands.ClientCommand.{ClientCommand}
use Rattle.su_client_lines.specs.declared.commands.ClientCommand.TheVariants as client
use Rattle.su_client_lines.specs.declared.commands.ClientLine.{ClientLine}
use Rattle.su_client_lines.specs.declared.commands.ClientLine.TheVariants as line
use Rattle.su_client_lines.specs.declared.verbs.Verb.{Verb}
use Rattle.su_client_lines.specs.declared.verbs.Verb.TheVariants as verb
use Rattle.su_client_lines.specs.declared.verbs.PathVerb.{PathVerb}
use Rattle.su_client_lines.specs.declared.verbs.PathVerb.TheVariants as path_verb

-- which command it is, and what the words after its own say
pub record Spoken (V : Type 0) : Type 0 where
  pub verb : V
  pub values : List Value

-- what a line says
pub data Said : Type 0 where
  Asks : Spoken Verb → Said
  OutOfRange : Refusal → Said
  Bad : Said

abbrev pub spoken : {V : Type 0} → V → List Value → Spoken V
spoken v values = record { verb = v; values = values }

-- the words of a command that is planned
abbrev pub change_of : Command → Spoken PathVerb
change_of (command.Mkdir path) = spoken path_verb.Mkdir (Text path.items ∷ [])
change_of (command.Create path) = spoken path_verb.Create (Text path.items ∷ [])
change_of (command.Write path off bytes) =
    spoken path_verb.Write (Text path.items ∷ Size off ∷ Bytes bytes.items ∷ [])
change_of (command.Truncate path size) =
    spoken path_verb.Truncate (Text path.items ∷ Size size ∷ [])
change_of (command.Link old new) = spoken path_verb.Link (Text old.items ∷ Text new.items ∷ [])
change_of (command.Rename old new) =
    spoken path_verb.Rename (Text old.items ∷ Text new.items ∷ [])
change_of (command.Remove path) = spoken path_verb.Remove (Text path.items ∷ [])
change_of command.Tidy = spoken path_verb.Tidy []

-- the words of a command
abbrev pub asked_of : ClientCommand → Spoken Verb
asked_of (client.Change c) = spoken (verb.Change (change_of c).verb) (change_of c).values
asked_of (client.Undo number) = spoken verb.Undo (Number number ∷ [])
asked_of client.UndoLast = spoken verb.UndoLast []
asked_of (client.List path) = spoken verb.List (Text path.items ∷ [])
asked_of (client.Read path off len) =
    spoken verb.Read (Text path.items ∷ Number off ∷ Number len ∷ [])
asked_of (client.Rekey file) = spoken verb.Rekey (Text file.items ∷ [])
asked_of (client.Save file) = spoken verb.Save (Text file.items ∷ [])

abbrev pub line_of : ClientLine → Said
line_of (line.Command c) = Said.Asks (asked_of c)
line_of (line.OutOfRange e) = Said.OutOfRange e
line_of line.Bad = Said.Bad
