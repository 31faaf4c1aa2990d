-- What the words of a command line for people say, by what was found for each id.
use Rattle.std.specs.Prelude.{◌≡◌, ℕ, Bool, true, false, ⊤, List, Option, Some, codes, map, option_map}
use Rattle.std.specs.String.{string_bytes}
use Rattle.std.specs.Str.Parse.{digits_value, without_leading_plus}
use Rattle.clap.specs.Matches.{first_value, matched_of, one_text, raw_values}
use Rattle.clap.specs.declared.parser.matches.Found.{Found}
use Rattle.su_people_line.specs.declared.deeds.Deed.{Deed}
use Rattle.su_people_line.specs.declared.deeds.Deed.TheVariants.{Init, Put, Get, List as Ls, Cat, MakeFolders, Move, Remove, Link, History, Show, Diff, Undo, WhyBlocked, UndoWithBlockers, Status, Compare, Verify, Rekey, Where}

-- the word of an id
abbrev pub IsWord : Found → List ℕ → List ℕ → Type 0
IsWord f id word = first_value f id ≡ Some word

-- the word of an id that may be left out
abbrev pub MayBeWord : Found → List ℕ → Option (List ℕ) → Type 0
MayBeWord f id word = first_value f id ≡ word

-- the words of an id
abbrev pub AreWords : Found → List ℕ → List (List ℕ) → Type 0
AreWords f id words = option_map raw_values (matched_of f id) ≡ Some words

-- whether a flag is there
pub record IsFlag (f : Found) (id : List ℕ) (is : Bool) : Type 0 where
  pub given : one_text f id ≡ Some (codes "true") → is ≡ true
  pub left_out : one_text f id ≡ Some (codes "false") → is ≡ false

-- the number of an id
abbrev pub IsNumberWord : Found → List ℕ → ℕ → Type 0
IsNumberWord f id n =
    (text : List ℕ) → one_text f id ≡ Some text → n ≡ digits_value 10 (without_leading_plus text)

-- each path, option and flag is what the words say of it
abbrev pub Says : Found → Deed → Type 0
Says f (Init args) =
    IsWord f (codes "folder") (string_bytes args.folder)
    × IsWord f (codes "team") (string_bytes args.team)
    × IsWord f (codes "user") (string_bytes args.user)
    × IsWord f (codes "key") (string_bytes args.key)
Says f (Put args) =
    AreWords f (codes "locals") (map string_bytes args.locals.items)
    × IsWord f (codes "path") (string_bytes args.path)
    × IsFlag f (codes "recursive") args.recursive
    × IsFlag f (codes "over") args.over
    × IsFlag f (codes "each") args.each
    × IsFlag f (codes "dry-run") args.dry_run
Says f (Get args) =
    IsWord f (codes "path") (string_bytes args.path)
    × IsWord f (codes "local") (string_bytes args.local)
    × IsFlag f (codes "recursive") args.recursive
    × IsFlag f (codes "over") args.over
Says f (Ls path long) =
    MayBeWord f (codes "path") (option_map string_bytes path) × IsFlag f (codes "long") long
Says f (Cat path) = IsWord f (codes "path") (string_bytes path)
Says f (MakeFolders paths parents) =
    AreWords f (codes "paths") (map string_bytes paths.items)
    × IsFlag f (codes "parents") parents
Says f (Move path other) =
    IsWord f (codes "path") (string_bytes path) × IsWord f (codes "other") (string_bytes other)
Says f (Remove paths recursive) =
    AreWords f (codes "paths") (map string_bytes paths.items)
    × IsFlag f (codes "recursive") recursive
Says f (Link path other) =
    IsWord f (codes "path") (string_bytes path) × IsWord f (codes "other") (string_bytes other)
Says f (History count path) = MayBeWord f (codes "path") (option_map string_bytes path)
Says f (Show number) = IsNumberWord f (codes "number") number
Says f (Diff number) = IsNumberWord f (codes "number") number
Says f (Undo first last) =
    IsFlag f (codes "why") false × IsFlag f (codes "with-blockers") false
Says f (WhyBlocked number) = IsFlag f (codes "why") true
Says f (UndoWithBlockers number) = IsFlag f (codes "with-blockers") true
Says f Status = ⊤
Says f (Compare args) = IsNumberWord f (codes "number") args.number
Says f Verify = ⊤
Says f Rekey = ⊤
Says f (Where server) = ⊤
