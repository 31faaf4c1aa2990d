-- The parts of a line of text.
use Rattle.std.specs.Prelude.{ℕ, Bool, ◌-◌, ◌==◌, ◌||◌, not, if◌then◌else◌, List, [], ◌∷◌, ◌++◌, codes, length, max, replicate, option_map, unwrap_or}
use Rattle.std.specs.Fmt.{decimal}
use Rattle.std.specs.List.{count_by, list_all}
use Rattle.su_bytes.specs.declared.file_ids.FileId.{FileId}
use Rattle.su_bytes.specs.FileId.{file_id_text}
use Rattle.su_spelling.specs.Shown.{is_control, shown}
use Rattle.su_team.specs.Team.{name_at}
use Rattle.su_history_text.specs.FileNames.{Names, path_at}

-- with spaces behind it, up to a width
abbrev pub padded : ℕ → List ℕ → List ℕ
padded width text = text ++ replicate (width - length text) 32

-- `240`, or `198..214`
abbrev pub numbers_text : ℕ → ℕ → List ℕ
numbers_text first last =
    if first == last then decimal first else decimal first ++ codes ".." ++ decimal last

-- how a file is called: its path, or its id where no path leads to it
abbrev pub file_text : Names → FileId → List ℕ
file_text names f = unwrap_or (option_map shown (path_at names f)) (file_id_text f)

-- `1 byte`, or `10 bytes`
abbrev pub size_text : ℕ → List ℕ
size_text n = decimal n ++ (if n == 1 then codes " byte" else codes " bytes")

-- the name of a user, or `user 7` of one who isn't in the team
abbrev pub author_text : List (List ℕ × List ℕ) → ℕ → List ℕ
author_text team a = unwrap_or (name_at team a) (codes "user " ++ decimal a)

-- how many bytes the longest name of a team has
abbrev pub longest_name : List (List ℕ × List ℕ) → ℕ
longest_name [] = 0
longest_name (u ∷ users) = max (length u.0) (longest_name users)

-- ---- beside them

-- no byte of it ends a line or acts on a terminal
abbrev pub stays_on_line : List ℕ → Bool
stays_on_line text = list_all (λ b. not (is_control b)) text

-- the same, but for line feeds
abbrev pub stays_on_lines : List ℕ → Bool
stays_on_lines text = list_all (λ b. b == 10 || not (is_control b)) text

-- how many line feeds it has
abbrev pub line_feeds : List ℕ → ℕ
line_feeds text = count_by (λ b. b == 10) text
