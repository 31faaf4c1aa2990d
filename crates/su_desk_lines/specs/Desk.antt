-- A desk script: which command a line is.
use Rattle.std.specs.Prelude.{ℕ, Bool, true, false, List, [], ◌∷◌, length, map, codes, Option, Some, None, cond, nat_lt}
use Rattle.std.specs.Global.{Vec}
use Rattle.std.specs.List.{flat_map, slice_split}
use Rattle.std.specs.Option.{option_map}
use Rattle.su_op.specs.declared.operations.Op.{Op}
use Rattle.su_op.specs.declared.operations.Op.TheVariants.{Create, Unlink, Write, Truncate, Take, Link, Rename, Drop}
use Rattle.su_op.specs.declared.operations.Change.{Change}
use Rattle.su_op.specs.declared.operations.Change.TheVariants.{Do, Undo, Rekey}
use Rattle.su_desk_lines.specs.declared.ranges.Command.{Command}
use Rattle.su_desk_lines.specs.declared.ranges.Command.TheVariants as command
use Rattle.su_desk_lines.specs.declared.ranges.Question.{Question}
use Rattle.su_desk_lines.specs.declared.ranges.Question.TheVariants.{List as Listing, Read, Describe, Handle}
use Rattle.su_desk_lines.specs.declared.parse.Spoken.{Spoken as Held}
use Rattle.su_desk_lines.specs.declared.verbs.TheConstants.{USER_FORMS, OTHER_FORMS}
use Rattle.su_desk_lines.specs.declared.verbs.Verb.{Verb}
use Rattle.su_desk_lines.specs.declared.verbs.Verb.TheVariants as verb
use Rattle.su_desk_lines.specs.declared.verbs.ChangeVerb.{ChangeVerb}
use Rattle.su_desk_lines.specs.declared.verbs.ChangeVerb.TheVariants as change
use Rattle.su_desk_lines.specs.declared.verbs.QuestionVerb.{QuestionVerb}
use Rattle.su_desk_lines.specs.declared.verbs.QuestionVerb.TheVariants as question
use Rattle.su_desk_lines.specs.Form.{Row, Value, Value.User, Value.Number, Value.Size, Value.Body, Value.Name, Value.File, Value.Principal, Value.Bytes, Value.Key, form_of, read_values}
use Rattle.su_desk_lines.specs.Script.{each_given, given, has_empty_word, is_word, longest_line, read_number, words_of}
use Rattle.su_desk_lines.specs.Value.{value_of}
use Rattle.su_desk_lines.specs.declared.values.Value.{Value as HeldValue}

-- which command it is, or which operations a batch has, in their order; and what all its words say
pub record Spoken (V : Type 0) : Type 0 where
  pub verbs : List V
  pub values : List Value

-- one command
abbrev pub spoken : {V : Type 0} → V → List Value → Spoken V
spoken v values = record { verbs = v ∷ []; values = values }

abbrev pub spoken_of : Held → Spoken Verb
spoken_of held = record { verbs = held.verbs.items; values = map value_of held.values.items }

-- ---- the words of a command

-- which operation it is, and what its words say
abbrev pub operation_said : Op → ChangeVerb × List Value
operation_said (Create c) =
    (change.Create c.kind, File c.dir ∷ Name c.name ∷ File c.file ∷ Body c.body ∷ [])
operation_said (Unlink u) = (change.Unlink, File u.dir ∷ Name u.name ∷ File u.file ∷ [])
operation_said (Write w) = (change.Write, File w.file ∷ Size w.off ∷ Bytes w.bytes ∷ [])
operation_said (Truncate t) = (change.Truncate, File t.file ∷ Size t.size ∷ [])
operation_said (Take t) = (change.Take, File t.file ∷ Body t.body ∷ [])
operation_said (Link l) = (change.Link, File l.dir ∷ Name l.name ∷ File l.file ∷ [])
operation_said (Rename r) =
    (change.Rename, File r.from_ ∷ Name r.old_ ∷ File r.to_ ∷ Name r.new_ ∷ File r.file ∷ [])
operation_said (Drop d) = (change.Drop, Body d.body ∷ [])

-- operations, one after another
abbrev pub batch_said : List Op → Spoken ChangeVerb
batch_said ops = record {
  verbs = map (λ op. (operation_said op).0) ops;
  values = flat_map (λ op. (operation_said op).1) ops;
}

abbrev pub change_said : Change → Spoken ChangeVerb
change_said (Do ops) = batch_said ops
change_said (Undo n) = spoken change.Undo (Number n ∷ [])
change_said (Rekey k) = spoken change.Rekey (Key k ∷ [])

abbrev pub question_said : Question → QuestionVerb × List Value
question_said (Listing dir) = (question.List, File dir ∷ [])
question_said (Read f off len) = (question.Read, File f ∷ Number off ∷ Number len ∷ [])
question_said (Describe f) = (question.Describe, File f ∷ [])
question_said (Handle p) = (question.Handle, Principal p ∷ [])

-- a user's command begins with the user
abbrev pub command_said : Command → Spoken Verb
command_said (command.Apply a c) = record {
  verbs = map (λ v. verb.Change v) (change_said c).verbs;
  values = User a ∷ (change_said c).values;
}
command_said (command.UndoLast a) = spoken verb.UndoLast (User a ∷ [])
command_said (command.Ask q) = spoken (verb.Ask (question_said q).0) (question_said q).1
command_said command.Versions = spoken verb.Versions []
command_said command.Mark = spoken verb.Mark []
command_said command.Same = spoken verb.Same []

-- ---- lines

-- the tables of the commands of a user, and of the other ones
abbrev pub user_rows : List (Row Verb)
user_rows =
    map (λ form. record { word = form.0.now; verb = form.1; kinds = form.2.now }) USER_FORMS

abbrev pub other_rows : List (Row Verb)
other_rows =
    map (λ form. record { word = form.0.now; verb = form.1; kinds = form.2.now }) OTHER_FORMS

-- the words after a command's own, which has this row, if any has it
abbrev pub read_row : Option (Row Verb) → List (List ℕ) → Option (Verb × List Value)
read_row None arguments = None
read_row (Some row) arguments =
    option_map (λ values. (row.verb, values)) (read_values row.kinds arguments)

-- what code holds of such words
abbrev pub row_said : Verb × Vec HeldValue → Verb × List Value
row_said (v, values) = (v, map value_of values.items)

-- such words as a line of their own
abbrev pub read_alone : Option (Row Verb) → List (List ℕ) → Option (Spoken Verb)
read_alone row arguments = option_map (λ said. spoken said.0 said.1) (read_row row arguments)

-- it makes an operation, as each command of a batch does
abbrev pub makes_operation : ChangeVerb → Bool
makes_operation change.Undo = false
makes_operation change.Rekey = false
makes_operation _ = true

abbrev pub is_operation : Verb → Bool
is_operation (verb.Change v) = makes_operation v
is_operation _ = false

abbrev pub if_operation : Verb × List Value → Option (Verb × List Value)
if_operation said = cond (is_operation said.0) (Some said) None

-- the words of one operation of a batch; nothing where they are none of an operation
abbrev pub read_operation : List (List ℕ) → Option (Verb × List Value)
read_operation [] = None
read_operation (word ∷ arguments) =
    given (read_row (form_of user_rows word) arguments) if_operation

-- the words of each operation of a batch, between which the word `+` stands
abbrev pub operations_of : List (List ℕ) → List (List (List ℕ))
operations_of words = slice_split (is_word (codes "+")) words

-- what they say, one after another
abbrev pub together : List (Verb × List Value) → Spoken Verb
together all = record { verbs = map (λ said. said.0) all; values = flat_map (λ said. said.1) all }

-- the words after `batch`
abbrev pub read_batch : List (List ℕ) → Option (Spoken Verb)
read_batch words = option_map together (each_given read_operation (operations_of words))

abbrev pub by_user : ℕ → Spoken Verb → Spoken Verb
by_user a said = record { verbs = said.verbs; values = User a ∷ said.values }

-- a user's command, by its own word and those after it
abbrev pub read_command : List ℕ → List (List ℕ) → Option (Spoken Verb)
read_command word arguments =
    cond (is_word (codes "batch") word) (read_batch arguments)
    (read_alone (form_of user_rows word) arguments)

-- a user's command, after the user's number
abbrev pub read_user : ℕ → List (List ℕ) → Option (Spoken Verb)
read_user a [] = None
read_user a (word ∷ arguments) = option_map (by_user a) (read_command word arguments)

-- a command of the user whose number the first word is, or of no user where it is none
abbrev pub read_first : Option ℕ → List ℕ → List (List ℕ) → Option (Spoken Verb)
read_first (Some a) first others = read_user a others
read_first None first others = read_alone (form_of other_rows first) others

-- words of which none is empty
abbrev pub read_words : List (List ℕ) → Option (Spoken Verb)
read_words [] = None
read_words (first ∷ others) = read_first (read_number first) first others

-- What the words of a line say, with each number as it stands there. A line with an empty word is no command.
abbrev pub words_said : List (List ℕ) → Option (Spoken Verb)
words_said words = cond (has_empty_word words) None (read_words words)

-- What a line says; nothing where it is no command, as one of more than 140,000 bytes.
abbrev pub line_said : List ℕ → Option (Spoken Verb)
line_said line = cond (nat_lt longest_line (length line)) None (words_said (words_of line))
