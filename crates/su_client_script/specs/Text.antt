-- What is printed of a command. (This project's own format.)
use Rattle.std.specs.Prelude.{◌≡◌, ℕ, List, [], ◌∷◌, ◌++◌, ◌&&◌, cond, not, codes, nat_eq, nat_le, Result, Ok, Err}
use Rattle.std.specs.List.{flat_map}
use Rattle.hex.specs.Hex.{encode_lower}
use Rattle.su_bytes.specs.declared.file_ids.FileId.{FileId}
use Rattle.su_bytes.specs.FileId.{file_id_text}
use Rattle.su_node.specs.Name.{Name}
use Rattle.su_desk_script.specs.Answer.{answer_text}
use Rattle.su_view.specs.declared.refusals.ViewRefusal.{ViewRefusal}
use Rattle.su_view.specs.Refusal.{view_refusal_text}

-- `no 39 Change 28 Blocked 3`
abbrev pub refusal_shown : ViewRefusal → List ℕ
refusal_shown e = codes "no " ++ (view_refusal_text e ++ 10 ∷ [])

-- a byte of a name: as it is, but what a terminal may act on, and a backslash, as `\x0a`
abbrev pub byte_shown : ℕ → List ℕ
byte_shown b =
    cond (nat_le 32 b && (not (nat_eq b 127) && not (nat_eq b 92))) (b ∷ [])
    (92 ∷ 120 ∷ encode_lower (b ∷ []))

abbrev pub bytes_shown : List ℕ → List ℕ
bytes_shown bytes = flat_map byte_shown bytes

-- `f G0:3`
abbrev pub entry_shown : Name × FileId → List ℕ
entry_shown entry = bytes_shown entry.0 ++ 32 ∷ (file_id_text entry.1 ++ 10 ∷ [])

-- a line for each name
abbrev pub listing_shown : List (Name × FileId) → List ℕ
listing_shown names = flat_map entry_shown names

-- `ok 4`, or the refusal
abbrev pub number_shown : Result ℕ ViewRefusal → List ℕ
number_shown (Ok n) = answer_text (Ok n)
number_shown (Err e) = refusal_shown e

-- a refusal, whichever it is
abbrev pub IsRefusal : List ℕ → Type 0
IsRefusal text = (e : ViewRefusal) × (text ≡ refusal_shown e)
