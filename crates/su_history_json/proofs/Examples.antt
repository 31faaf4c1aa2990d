-- Worked examples of the definitions.
use Rattle.std.proofs.Common.{◌≡◌, ℕ, List, [], ◌∷◌, Some, codes, refl}
use Rattle.std.specs.Fmt.{digits}
use Rattle.std.specs.Str.{chars, is_utf8}
use lib.Utf8.{encode}
use Rattle.hex.specs.Hex.{encode_with}
use Rattle.serde_json.proofs.OnLiterals.{serde_json_on_literals}
use Rattle.serde_json.specs.Written.{compact_text}
use Rattle.su_bytes.specs.declared.file_ids.FileId.TheVariants.{Group}
use Rattle.su_history.specs.declared.line.Line.{Line}
use Rattle.su_history.specs.declared.line.Deed.{Deed}
use Rattle.su_history.specs.declared.line.Deed.TheVariants.{Wrote, NamedKey}
use Rattle.su_history.specs.declared.line.Fate.{Fate}
use Rattle.su_history.specs.declared.line.Fate.TheVariants.{Undone, Lasting}
use Rattle.su_history_text.specs.FileNames.{Names, path_at}
use Rattle.su_history_json.specs.Json.{history_data}

-- user 0 is ann
team : List (List ℕ × List ℕ)
team = (codes "ann", []) ∷ []

abbrev line : ℕ → ℕ → ℕ → Deed → Fate → Line
line first last author deed fate = record { first = first; last = last; author = author; deed = deed; fate = fate }

no_lines : (names : Names) → compact_text (history_data team names []) ≡ codes "[]"
no_lines names = refl

another_key : (names : Names) → compact_text (history_data team names (line 3 3 0 NamedKey Lasting ∷ []))
    ≡ codes "[{\"author\":\"ann\",\"bytes\":null,\"first\":3,\"last\":3,\"path\":null,\"undid\":null,\"undone_by\":null,\"what\":\"rekeyed\"}]"
unfolding team serde_json_on_literals digits
another_key names = refl

-- a quote in a name
a_write : (names : Names) → path_at names (Group 0 7) ≡ Some (codes "/a\"b") → compact_text (history_data team names (line 4 6 0 (Wrote (Group 0 7) 4096) (Undone 9) ∷ []))
    ≡ codes "[{\"author\":\"ann\",\"bytes\":4096,\"first\":4,\"last\":6,\"path\":\"/a\\\"b\",\"undid\":null,\"undone_by\":9,\"what\":\"wrote\"}]"
unfolding team serde_json_on_literals is_utf8 chars encode encode_with digits
a_write names is = rw is refl
