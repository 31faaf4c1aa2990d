-- Which refusals tell that a server showed what it may not. (SUNDR, section 3: what a client checks.)
use Rattle.std.specs.Prelude.{Bool, true, false, not}
use Rattle.su_bytes.specs.declared.refusals.Refusal.{Refusal}
use Rattle.su_bytes.specs.declared.refusals.Refusal.TheVariants.{Malformed, MissingBlock, WrongBlock, NotOrdered, BadSignature, WrongPrev, WrongVector, KeyReuse, OldFormat, WrongKey}
use Rattle.su_view.specs.declared.refusals.ViewRefusal.{ViewRefusal}
use Rattle.su_view.specs.declared.refusals.ViewRefusal.TheVariants.{Plain, WrongHandle, Change, OwnMissing}

-- A commit or an item that may not be: it is none, is another one, is not signed, or does not follow.
-- An item that is missing is one where no commits are taken: it was given to the server before.
abbrev pub is_of_server : Bool → Refusal → Bool
is_of_server takes (Malformed at) = true
is_of_server takes MissingBlock = not takes
is_of_server takes WrongBlock = true
is_of_server takes (NotOrdered i j) = true
is_of_server takes BadSignature = true
is_of_server takes (WrongPrev n) = true
is_of_server takes WrongVector = true
is_of_server takes KeyReuse = true
is_of_server takes OldFormat = true
is_of_server takes WrongKey = true
is_of_server takes _ = false

-- of a refusal of what a server shows; a change that is refused is a lie only where it is another's,
-- which was taken, and not one's own, which was made
abbrev pub is_lie : Bool → ViewRefusal → Bool
is_lie takes (Plain e) = is_of_server takes e
is_lie takes (WrongHandle p) = true
is_lie takes (Change e) = takes
is_lie takes OwnMissing = true
