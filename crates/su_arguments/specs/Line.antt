-- What a command line says.
use Rattle.std.specs.Prelude.{⊤, length, IfSome}
use Rattle.su_line.specs.Port.{IsPort}
use Rattle.su_lms.specs.ParameterSets.{CanBeMade}
use Rattle.su_people_line.specs.Deed.{IsGood}
use Rattle.su_arguments.specs.declared.line.Line.{Line}
use Rattle.su_arguments.specs.declared.line.Line.TheVariants.{People, Desk, Keygen, Audit, Serve, Client, Backup, Text}
use Rattle.su_arguments.specs.Ranges.{IsUserCount, IsUser, IsWorkerCount, IsCapacity, IsTurnLimit, IsIdleLimit}
use Rattle.su_arguments.specs.Ranges.{IsSessionCount, IsCacheSize, IsTryCount, IsLeafCount}

-- what people ask for can be carried out as it stands, each number is in its range, there are the keys of 1 to 64 users, and a key to be made is of a kind
-- that can be made
abbrev pub HasGoodNumbers : Line → Type 0
HasGoodNumbers (People line) = IsGood line
HasGoodNumbers (Desk users format) = IsUserCount users
HasGoodNumbers (Keygen entropy out params) = CanBeMade params.lms params.ots
HasGoodNumbers (Audit log keys) = IsUserCount (length keys.items)
HasGoodNumbers (Serve args) =
    IsPort args.port × IsWorkerCount args.workers × IsCapacity args.capacity
    × IsTurnLimit args.turn_seconds × IsIdleLimit args.idle_minutes
    × IfSome args.sessions IsSessionCount × IsCacheSize args.cache
    × IsUserCount (length args.keys.items)
HasGoodNumbers (Client args) =
    IsPort args.port × IsUser args.user × IsTryCount args.tries
    × IsLeafCount args.leaves_ahead × IsUserCount (length args.keys.items)
HasGoodNumbers (Backup port to keys) = IsPort port × IsUserCount (length keys.items)
HasGoodNumbers (Text text) = ⊤
