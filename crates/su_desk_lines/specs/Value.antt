-- What the words of a command say, as code holds it.
use Rattle.std.specs.Prelude.{List, map}
use Rattle.su_desk_lines.specs.declared.values.Value.{Value as Held}
use Rattle.su_desk_lines.specs.declared.values.Value.TheVariants as held
use Rattle.su_desk_lines.specs.declared.words.Word.{Word}
use Rattle.su_desk_lines.specs.declared.words.Word.TheVariants as word
use Rattle.su_desk_lines.specs.declared.words.Words.{Words}
use Rattle.su_desk_lines.specs.Form.{Value}
use Rattle.su_desk_lines.specs.Raw.{file_of, principal_of}

abbrev pub value_of : Held → Value
value_of (held.User a) = Value.User a
value_of (held.Number n) = Value.Number n
value_of (held.Size n) = Value.Size n
value_of (held.Body n) = Value.Body n
value_of (held.Name name) = Value.Name name.now
value_of (held.File f) = Value.File (file_of f)
value_of (held.Principal p) = Value.Principal (principal_of p)
value_of (held.Bytes bytes) = Value.Bytes bytes.items
value_of (held.Key key) = Value.Key key
value_of (held.Text text) = Value.Text text.now

-- of a word in its range
abbrev pub said_by : Word → Value
said_by (word.User a) = Value.User a
said_by (word.Number n) = Value.Number n
said_by (word.Size n) = Value.Size n
said_by (word.Body n) = Value.Body n
said_by (word.Name name) = Value.Name name
said_by (word.File f) = Value.File f
said_by (word.Principal p) = Value.Principal p
said_by (word.Bytes bytes) = Value.Bytes bytes.items
said_by (word.Key key) = Value.Key key
said_by (word.Text text) = Value.Text text.items

-- of the words that are left
abbrev pub left_of : Words → List Value
left_of words = map said_by words.left.items
