-- The forms of commands, and what the words of a command say that are read by its form.
use Rattle.std.specs.Prelude.{ℕ, ◌^◌, Bool, true, List, [], ◌∷◌, Option, Some, None, cond, find, nat_lt}
use Rattle.std.specs.Borrow.{Bor}
use Rattle.std.specs.List.{list_all}
use Rattle.std.specs.Option.{option_map}
use Rattle.su_bytes.specs.declared.file_ids.FileId.{FileId}
use Rattle.su_bytes.specs.declared.file_ids.FileId.TheVariants as file_id
use Rattle.su_bytes.specs.declared.principals.Principal.{Principal as AnyPrincipal}
use Rattle.su_bytes.specs.declared.refusals.Refusal.{Refusal}
use Rattle.su_bytes.specs.declared.refusals.Refusal.TheVariants.{BadName, BadNumber}
use Rattle.su_bytes.specs.FileId.{is_file_id, is_inum}
use Rattle.su_bytes.specs.Name.{is_name}
use Rattle.su_bytes.specs.Principal.{is_principal, is_user}
use Rattle.su_desk_lines.specs.declared.forms.WordKind.{WordKind}
use Rattle.su_desk_lines.specs.declared.forms.WordKind.TheVariants as kind
use Rattle.su_desk_lines.specs.Script.{given, is_word, read_bytes, read_file, read_key, read_number, read_principal}

-- ---- forms

-- a command's own word, which command it is, and what the words after it are
pub record Row (V : Type 0) : Type 0 where
  pub word : List ℕ
  pub verb : V
  pub kinds : List WordKind

abbrev pub row_of : {V : Type 0} → Bor (List ℕ) × V × Bor (List WordKind) → Row V
row_of form = record { word = form.0.now; verb = form.1; kinds = form.2.now }

-- the first row of a word
abbrev pub form_of : {V : Type 0} → List (Row V) → List ℕ → Option (Row V)
form_of rows word = find (λ row. is_word row.word word) rows

-- ---- words

-- what a word says; its numbers may be out of range, and its name bad
pub data Value : Type 0 where
  -- the user whose command it is
  User : ℕ → Value
  Number : ℕ → Value
  Size : ℕ → Value
  Body : ℕ → Value
  Name : List ℕ → Value
  File : FileId → Value
  Principal : AnyPrincipal → Value
  Bytes : List ℕ → Value
  -- the bytes of a public key
  Key : List ℕ → Value
  Text : List ℕ → Value

-- what a word of a kind other than hex digits of any length says
abbrev pub read_plain : WordKind → List ℕ → Option Value
read_plain kind.Number word = option_map (λ n. Value.Number n) (read_number word)
read_plain kind.Size word = option_map (λ n. Value.Size n) (read_number word)
read_plain kind.Body word = option_map (λ n. Value.Body n) (read_number word)
read_plain kind.OwnBody word = option_map (λ n. Value.Body n) (read_number word)
read_plain kind.Name word = Some (Value.Name word)
read_plain kind.File word = option_map (λ f. Value.File f) (read_file word)
read_plain kind.Principal word = option_map (λ p. Value.Principal p) (read_principal word)
read_plain kind.Hex word = None
read_plain kind.Path word = Some (Value.Text word)
read_plain kind.FileName word = Some (Value.Text word)
read_plain kind.Key word = option_map (λ key. Value.Key key) (read_key word)

-- what a word of a kind says; nothing where it is no such word
abbrev pub read_value : WordKind → List ℕ → Option Value
read_value kind.Hex word = option_map (λ bytes. Value.Bytes bytes) (read_bytes word)
read_value k word = read_plain k word

-- the number of its own that a file of a user has
abbrev pub own_body : Value → Option ℕ
own_body (Value.File (file_id.User u i)) = Some i
own_body _ = None

-- what stands for a word that is left out, after a file with that number of its own
abbrev pub left_out : WordKind → Option ℕ → Option Value
left_out kind.OwnBody own = option_map (λ n. Value.Body n) own
left_out _ own = None

-- what the first word says, or what stands for it
abbrev pub first_value : WordKind → Option ℕ → List (List ℕ) → Option Value
first_value k own [] = left_out k own
first_value k own (word ∷ words) = read_value k word

abbrev pub words_after : List (List ℕ) → List (List ℕ)
words_after [] = []
words_after (word ∷ words) = words

-- where no word is left
abbrev pub at_end : List (List ℕ) → Option (List Value)
at_end [] = Some []
at_end (word ∷ words) = None

-- what words of these kinds say, after a word with that number of its own
abbrev pub read_after : List WordKind → Option ℕ → List (List ℕ) → Option (List Value)
read_after [] own words = at_end words
read_after (k ∷ kinds) own words =
    given (first_value k own words) (λ value.
    option_map (λ values. value ∷ values) (read_after kinds (own_body value) (words_after words)))

-- what the words after a command's own say; nothing where they are too few, too many or other ones
abbrev pub read_values : List WordKind → List (List ℕ) → Option (List Value)
read_values kinds words = read_after kinds None words

-- ---- ranges

-- it is no bad name
abbrev pub is_good_name : Value → Bool
is_good_name (Value.Name name) = is_name name
is_good_name _ = true

-- it is no number out of its range
abbrev pub is_good_number : Value → Bool
is_good_number (Value.User a) = is_user a
is_good_number (Value.Size n) = nat_lt n (2 ^ 32)
is_good_number (Value.Body n) = is_inum n
is_good_number (Value.File f) = is_file_id f
is_good_number (Value.Principal p) = is_principal p
is_good_number _ = true

-- How words are refused: a bad name is BadName; then any other word out of its range is BadNumber.
abbrev pub value_refusal : List Value → Option Refusal
value_refusal values =
    cond (list_all is_good_name values)
    (cond (list_all is_good_number values) None (Some BadNumber)) (Some BadName)
