-- A client's script: which command a line is.
use Rattle.std.specs.Prelude.{ℕ, List, [], ◌∷◌, length, map, Option, Some, None, cond, nat_lt}
use Rattle.su_bytes.specs.declared.refusals.Refusal.{Refusal}
use Rattle.su_desk_lines.specs.declared.forms.WordKind.{WordKind}
use Rattle.su_desk_lines.specs.Form.{Row, Value, form_of, read_values, value_refusal}
use Rattle.su_desk_lines.specs.Script.{has_empty_word, longest_line, words_of}
use Rattle.su_client_lines.specs.declared.verbs.TheConstants.{CLIENT_FORMS}
use Rattle.su_client_lines.specs.declared.verbs.Verb.{Verb}
use Rattle.su_client_lines.specs.Said.{Said, Said.Asks, Said.OutOfRange, Said.Bad, spoken}

-- the table of the commands
abbrev pub client_rows : List (Row Verb)
client_rows =
    map (λ form. record { word = form.0.now; verb = form.1; kinds = form.2.now }) CLIENT_FORMS

-- a command, unless one of its words is refused
abbrev pub asked_unless : Option Refusal → Verb → List Value → Said
asked_unless None verb values = Asks (spoken verb values)
asked_unless (Some refusal) verb values = OutOfRange refusal

-- a command that has words which say this
abbrev pub verb_said : Verb → List Value → Said
verb_said verb values = asked_unless (value_refusal values) verb values

-- a command, or none where its words are not those of its form
abbrev pub values_said : Verb → Option (List Value) → Said
values_said verb None = Bad
values_said verb (Some values) = verb_said verb values

-- the words after a command's own
abbrev pub read_form : Verb → List WordKind → List (List ℕ) → Said
read_form verb kinds arguments = values_said verb (read_values kinds arguments)

-- the words after a first one that has this row, if any has it
abbrev pub read_row : Option (Row Verb) → List (List ℕ) → Said
read_row None arguments = Bad
read_row (Some row) arguments = read_form row.verb row.kinds arguments

-- words of which none is empty
abbrev pub read_words : List (List ℕ) → Said
read_words [] = Bad
read_words (word ∷ arguments) = read_row (form_of client_rows word) arguments

-- What the words of a line say. A line with an empty word is no command.
abbrev pub words_said : List (List ℕ) → Said
words_said words = cond (has_empty_word words) Bad (read_words words)

-- What a line says. One of more than 140,000 bytes is no command.
abbrev pub line_said : List ℕ → Said
line_said line = cond (nat_lt longest_line (length line)) Bad (words_said (words_of line))
