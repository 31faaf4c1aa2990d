-- The answer to a change after a history, and good histories.
use Rattle.std.specs.Prelude.{◌≡◌, ℕ, ◌+◌, Bool, ◌&&◌, cond, List, [], ◌∷◌, ◌++◌, length, Option, None, Some, Result, Ok, Err, nat_eq}
use Rattle.std.specs.Option.{option_or}
use Rattle.su_bytes.specs.Format.{is_as_new}
use Rattle.su_bytes.specs.Keys.{is_among}
use Rattle.su_bytes.specs.Membership.{Membership, has_user}
use Rattle.su_bytes.specs.declared.formats.Format.{Format}
use Rattle.su_bytes.specs.declared.formats.TheConstants.{FIRST_FORMAT}
use Rattle.su_bytes.specs.declared.refusals.Refusal.{Refusal}
use Rattle.su_bytes.specs.declared.refusals.Refusal.TheVariants.{BadKey, NoUser, NoOperation, NotOperation, AlreadyUndone, NotAuthor, Blocked, KeyReuse, OldFormat}
use Rattle.su_lms.specs.Signature.{is_public_key}
use Rattle.su_op.specs.declared.operations.Change.{Change}
use Rattle.su_op.specs.declared.operations.Change.TheVariants.{Do, Undo, Rekey}
use Rattle.su_op.specs.Action.{change_format}
use Rattle.su_op.specs.Batch.{why}
use Rattle.su_desk.specs.declared.entries.Entry.{Entry}
use Rattle.su_desk.specs.History.{action_of, entry_at, format_after, keys_after, undoer}
use Rattle.su_desk.specs.Applied.{tree_after}
use Rattle.su_desk.specs.Blocker.{blocker}

-- the refusal of an undo by what stands in its way, if something does
abbrev pub blocked_refusal : Option ℕ → Option Refusal
blocked_refusal None = None
blocked_refusal (Some m) = Some (Blocked m)

-- the refusal of an undo of n by the entry that undid n, if one did
abbrev pub undone_refusal : ℕ → Option ℕ → Option Refusal
undone_refusal n None = None
undone_refusal n (Some by) = Some (AlreadyUndone n by)

-- why entry n, which made that change, is no live operation
abbrev pub change_refusal : List Entry → ℕ → Change → Option Refusal
change_refusal h n (Do op) = undone_refusal n (undoer h n)
change_refusal h n _ = Some (NotOperation n)

-- the same where there may be no such entry
abbrev pub entry_refusal : List Entry → ℕ → Option Entry → Option Refusal
entry_refusal h n None = Some (NoOperation n)
entry_refusal h n (Some e) = change_refusal h n e.change

-- why n is no live operation: no such entry; an undo or a rekey; undone already
abbrev pub live_refusal : List Entry → ℕ → Option Refusal
live_refusal h n = entry_refusal h n (entry_at h n)

-- of an undo by user a of another's entry
abbrev pub author_refusal : ℕ → Option Entry → Option Refusal
author_refusal a None = None
author_refusal a (Some e) = cond (nat_eq a e.author) None (Some (NotAuthor e.author))

-- why user a may not undo n: no such user; n is no live operation; another's; blocked
abbrev pub undo_refusal : Membership → List Entry → ℕ → ℕ → Option Refusal
undo_refusal ro h a n =
    cond (has_user ro a)
    (option_or (live_refusal h n)
    (option_or (author_refusal a (entry_at h n)) (blocked_refusal (blocker ro h n))))
    (Some (NoUser a))

-- why user a may not name k as the next key: no such user; no key; one that a user has or had
abbrev pub rekey_refusal : Membership → List Entry → ℕ → List ℕ → Option Refusal
rekey_refusal ro h a k =
    cond (has_user ro a)
    (cond (is_public_key k) (cond (is_among (keys_after ro h) k) (Some KeyReuse) None) (Some BadKey))
    (Some (NoUser a))

-- a format fits a change after a history: it is as new as that of the last entry, and has the change
abbrev pub has_format : List Entry → Format → Change → Bool
has_format h f c = is_as_new f (format_after h) && is_as_new f (change_format c)

-- the newer of two formats
abbrev pub newer : Format → Format → Format
newer f g = cond (is_as_new f g) f g

-- the format in which a change is made after a history, where nobody says which: the first in which
-- lists are begun, that of the last entry, or the oldest that has the change, whichever is newest
abbrev pub made_format : List Entry → Change → Format
made_format h c = newer (newer FIRST_FORMAT (format_after h)) (change_format c)

-- why a change in format f is refused after a history for its format alone
abbrev pub format_refusal : List Entry → Format → Change → Option Refusal
format_refusal h f c = cond (has_format h f c) None (Some OldFormat)

-- why an entry, whose change is given, is refused after a history, whatever its format. (After a
-- good history there always is a tree.)
abbrev pub refusal_by_change : Membership → List Entry → Entry → Change → Option Refusal
refusal_by_change ro h e (Do op) = why ro (tree_after ro h) (action_of e op)
refusal_by_change ro h e (Undo n) = undo_refusal ro h e.author n
refusal_by_change ro h e (Rekey k) = rekey_refusal ro h e.author k

-- why an entry is refused after a history: first of all for its format
abbrev pub refusal_of : Membership → List Entry → Entry → Option Refusal
refusal_of ro h e =
    option_or (format_refusal h e.format e.change) (refusal_by_change ro h e e.change)

-- number n, or the refusal if there is one
abbrev pub reply : ℕ → Option Refusal → Result ℕ Refusal
reply n None = Ok n
reply n (Some r) = Err r

-- The answer to an entry: its number, or the refusal.
unfoldable pub answer : Membership → List Entry → Entry → Result ℕ Refusal
answer ro h e = reply (length h + 1) (refusal_of ro h e)

-- each of the further entries was accepted after those before it
abbrev pub GoodAfter : Membership → List Entry → List Entry → Type 0
GoodAfter ro h [] = Unit {0}
GoodAfter ro h (e ∷ es) = (refusal_of ro h e ≡ None) × GoodAfter ro (h ++ e ∷ []) es

-- a good history: each of its entries was accepted after those before it
abbrev pub Good : Membership → List Entry → Type 0
Good ro h = GoodAfter ro [] h
