-- Lines of a client's script, and what they say.
use Rattle.std.specs.Prelude.{◌≡◌, refl, [], ◌∷◌, codes}
use Rattle.hex.specs.Hex.{decode_pairs}
use Rattle.su_bytes.specs.declared.refusals.Refusal.TheVariants.{BadNumber}
use Rattle.su_desk_lines.specs.Form.{Value.Number, Value.Size, Value.Bytes, Value.Text}
use Rattle.su_desk_lines.specs.Script.{read_bytes, read_number}
use Rattle.su_client_lines.specs.declared.verbs.Verb.TheVariants.{Change, Read}
use Rattle.su_client_lines.specs.declared.verbs.PathVerb.TheVariants.{Mkdir, Write, Truncate, Rename, Tidy}
use Rattle.su_client_lines.specs.Said.{Said.Asks, Said.OutOfRange, Said.Bad, spoken}
use Rattle.su_client_lines.specs.ClientScript.{line_said}

pub a_directory : line_said (codes "mkdir /a") ≡ Asks (spoken (Change Mkdir) (Text (codes "/a") ∷ []))
a_directory = refl

pub a_write : line_said (codes "write /a 7 4f6B") ≡ Asks (spoken (Change Write) (Text (codes "/a") ∷ Size 7 ∷ Bytes (79 ∷ 107 ∷ []) ∷ []))
unfolding read_number read_bytes decode_pairs
a_write = refl

pub old_before_new : line_said (codes "rename /a /b") ≡ Asks (spoken (Change Rename) (Text (codes "/a") ∷ Text (codes "/b") ∷ []))
old_before_new = refl

pub off_before_len : line_said (codes "cat /a 5 18446744073709551615") ≡ Asks (spoken Read (Text (codes "/a") ∷ Number 5 ∷ Number 18446744073709551615 ∷ []))
unfolding read_number
off_before_len = refl

pub the_last_size : line_said (codes "truncate /a 4294967295") ≡ Asks (spoken (Change Truncate) (Text (codes "/a") ∷ Size 4294967295 ∷ []))
unfolding read_number
the_last_size = refl

pub a_size_out_of_range : line_said (codes "truncate /a 4294967296") ≡ OutOfRange BadNumber
unfolding read_number
a_size_out_of_range = refl

pub a_number_past_64_bits : line_said (codes "truncate /a 18446744073709551616") ≡ Bad
unfolding read_number
a_number_past_64_bits = refl

pub hex_before_range : line_said (codes "write /a 4294967296 4") ≡ Bad
unfolding read_number read_bytes
hex_before_range = refl

pub no_words : line_said (codes "tidy") ≡ Asks (spoken (Change Tidy) [])
no_words = refl

pub two_spaces : line_said (codes "ls  /a") ≡ Bad
two_spaces = refl

pub a_word_too_many : line_said (codes "undo_last 3") ≡ Bad
a_word_too_many = refl
