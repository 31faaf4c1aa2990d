-- What a command line of people may say.
use Rattle.std.specs.Prelude.{◌≡◌, ◌≢◌, ℕ, ◌≤◌, ◌*◌, true, ⊤, List, [], length, IfSome}
use Rattle.su_people_line.specs.declared.deeds.PeopleLine.{PeopleLine}
use Rattle.su_people_line.specs.declared.deeds.Deed.{Deed}
use Rattle.su_people_line.specs.declared.deeds.Deed.TheVariants.{Init, Put, Get, List as Ls, Cat, MakeFolders, Move, Remove, Link, History, Show, Diff, Undo, WhyBlocked, UndoWithBlockers, Status, Compare, Verify, Rekey, Where}
use Rattle.su_people_line.specs.Server.{IsServer}

-- the number of a commit, or how many lines are told
abbrev pub IsNumber : ℕ → Type 0
IsNumber n = 1 ≤ n

-- 1 to 8 groups of 4 bytes: the front of a digest of 32, or all of it
pub record IsFront (bytes : List ℕ) : Type 0 where
  pub groups : ℕ
  pub some : 1 ≤ groups
  pub few : groups ≤ 8
  pub size : length bytes ≡ 4 * groups

-- each number is in its range, a last commit isn't before the first one, and where several paths may be
-- given there is one
abbrev pub HasGoodNumbers : Deed → Type 0
HasGoodNumbers (Init args) = IsServer args.server
HasGoodNumbers (Put args) = args.locals.items ≢ []
HasGoodNumbers (Get args) = ⊤
HasGoodNumbers (Ls path long) = ⊤
HasGoodNumbers (Cat path) = ⊤
HasGoodNumbers (MakeFolders paths parents) = paths.items ≢ []
HasGoodNumbers (Move path other) = ⊤
HasGoodNumbers (Remove paths recursive) = paths.items ≢ []
HasGoodNumbers (Link path other) = ⊤
HasGoodNumbers (History count path) = IfSome count IsNumber
HasGoodNumbers (Show number) = IsNumber number
HasGoodNumbers (Diff number) = IsNumber number
HasGoodNumbers (Undo first last) = IsNumber first × (first ≤ last)
HasGoodNumbers (WhyBlocked number) = IsNumber number
HasGoodNumbers (UndoWithBlockers number) = IsNumber number
HasGoodNumbers Status = ⊤
HasGoodNumbers (Compare args) = IsFront args.front.items
HasGoodNumbers Verify = ⊤
HasGoodNumbers Rekey = ⊤
HasGoodNumbers (Where server) = IfSome server IsServer

-- JSON is asked for of these alone
abbrev pub MayBeJson : Deed → Type 0
MayBeJson (Ls path long) = ⊤
MayBeJson (History count path) = ⊤
MayBeJson (Show number) = ⊤
MayBeJson Status = ⊤
MayBeJson (WhyBlocked number) = ⊤
MayBeJson _ = ⊥

-- a line that can be carried out as it stands: a new state folder is made where it says, and nowhere else
pub record IsGood (line : PeopleLine) : Type 0 where
  pub numbers : HasGoodNumbers line.deed
  pub json : line.json ≡ true → MayBeJson line.deed
