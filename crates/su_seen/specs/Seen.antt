-- Up to which commits files were seen, and the lines that tell it.
use Rattle.std.specs.Prelude.{◌≡◌, ℕ, ◌<◌, ◌≤◌, ◌^◌, List, [], ◌∷◌, ◌++◌, length, drop}
use Rattle.std.specs.Cmp.Lexicographic.{slice_cmp}
use Rattle.std.specs.Coded.{Coded, coded_ℕ, coded_list}
use Rattle.std.specs.FinMap.{FinMap, code, insert, empty}
use Rattle.std.specs.List.{flat_map}
use Rattle.std.specs.Ordering.{nat_cmp}
use Rattle.su_spelling.specs.Shown.{AreBytes}
use Rattle.su_seen.specs.Line.{seen_line}

-- the map from paths to the numbers of commits
abbrev pub Seen : Type 0
Seen = FinMap (slice_cmp nat_cmp) ℕ

abbrev pub seen_code : Coded Seen
seen_code = code (coded_list coded_ℕ) coded_ℕ

-- a file by its path and number, of which a line tells
pub record IsFile (file : List ℕ × ℕ) : Type 0 where
  pub path : AreBytes file.0
  pub number : file.1 < 2 ^ 64

-- the line that tells of a file, with its line feed
abbrev pub file_line : List ℕ × ℕ → List ℕ
file_line file = seen_line file.1 file.0 ++ 10 ∷ []

-- The lines that tell of files.
abbrev pub file_lines : List (List ℕ × ℕ) → List ℕ
file_lines files = flat_map file_line files

-- What such lines tell, each of them behind those before it: of two with one path the later one.
abbrev pub told_by : Seen → List (List ℕ × ℕ) → Seen
told_by seen [] = seen
told_by seen (file ∷ files) = told_by (insert seen file.0 file.1) files

-- a line was taken from the front of a text, and what it tells was noted
pub record TakesLine (before after : Seen) (text : List ℕ) (taken : ℕ) : Type 0 where
  pub file : List ℕ × ℕ
  pub line : text ≡ file_line file ++ drop taken text
  pub noted : after ≡ insert before file.0 file.1
  pub some_byte : 0 < taken
  pub within : taken ≤ length text

-- what lines that stand in a text tell is this
pub record IsTold (text : List ℕ) (seen : Seen) : Type 0 where
  pub files : List (List ℕ × ℕ)
  pub lines : text ≡ file_lines files
  pub told : seen ≡ told_by empty files
