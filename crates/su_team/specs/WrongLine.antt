-- Which line of a text is the first that is wrong.
use Rattle.std.specs.Prelude.{◌≡◌, ℕ, ◌+◌, ◌⊎◌, ◌<◌, ◌≤◌, drop, List, [], ◌∷◌, ◌++◌, length, ⊤}
use Rattle.su_team.specs.declared.faults.TextFault.{TextFault}
use Rattle.su_team.specs.declared.faults.TextFault.TheVariants.{Line, NoMemory}
use Rattle.su_team.specs.Team.{AreUsers, first_line, team_text, user_line, user_lines}

-- behind these users the text goes on with the line of one that may come next
pub record GoesOn (users : List (List ℕ × List ℕ)) (rest : List ℕ) : Type 0 where
  pub user : List ℕ × List ℕ
  pub behind : List ℕ
  pub are_users : AreUsers (users ++ user ∷ [])
  pub line : rest ≡ user_line user ++ behind

-- the line of a further user was taken from the front of these bytes
pub record TakesUser (users more : List (List ℕ × List ℕ)) (bytes : List ℕ) (taken : ℕ)
    : Type 0 where
  pub user : List ℕ × List ℕ
  pub is_last : more ≡ users ++ user ∷ []
  pub are_users : AreUsers more
  pub line : bytes ≡ user_line user ++ drop taken bytes
  pub some_byte : 0 < taken
  pub within : taken ≤ length bytes

-- the line behind these users is told as wrong, and isn't that of another one
abbrev pub Stops : List (List ℕ × List ℕ) → List ℕ → TextFault → Type 0
Stops users rest (Line n mistake) = (n ≡ length users + 2) × (GoesOn users rest → ⊥)
Stops users rest NoMemory = ⊤

-- some lines of users, behind which one is told as wrong
pub record LinesStopAt (lines : List ℕ) (n : ℕ) : Type 0 where
  pub users : List (List ℕ × List ℕ)
  pub rest : List ℕ
  pub are_users : AreUsers users
  pub lines_are : lines ≡ user_lines users ++ rest
  pub number : n ≡ length users + 2
  pub stuck : GoesOn users rest → ⊥
  pub goes_on : rest ≡ [] → ⊥

abbrev pub LinesStop : List ℕ → TextFault → Type 0
LinesStop lines (Line n mistake) = LinesStopAt lines n
LinesStop lines NoMemory = ⊤

-- the first line, which is another one than that of a team
abbrev pub IsFirstLineWrong : List ℕ → ℕ → Type 0
IsFirstLineWrong text n = (n ≡ 1) × ((behind : List ℕ) → text ≡ first_line ++ behind → ⊥)

-- the line behind those of some users: they may be in a team, but the text neither goes on with
-- another one, nor ends with a team
pub record IsUserLineWrong (text : List ℕ) (n : ℕ) : Type 0 where
  pub users : List (List ℕ × List ℕ)
  pub rest : List ℕ
  pub are_users : AreUsers users
  pub text_is : text ≡ team_text users ++ rest
  pub number : n ≡ length users + 2
  pub stuck : GoesOn users rest → ⊥
  pub ends : rest ≡ [] → users ≡ []

-- The line n is the first that is wrong in a text of a team.
abbrev pub IsWrong : List ℕ → ℕ → Type 0
IsWrong text n = IsFirstLineWrong text n ⊎ IsUserLineWrong text n

-- a fault tells of the text what is so
abbrev pub TellsOf : List ℕ → TextFault → Type 0
TellsOf text (Line n mistake) = IsWrong text n
TellsOf text NoMemory = ⊤
