-- What the desk is for, in one place: of a roster, a history and the tree of a desk.
use Rattle.std.specs.Prelude.{◌≡◌, ◌↔◌, ℕ, ◌≤◌, List, [], ◌∷◌, ◌++◌, true, None, Some, All}
use Rattle.su_bytes.specs.Format.{is_as_new}
use Rattle.su_bytes.specs.Membership.{Membership}
use Rattle.su_bytes.specs.declared.formats.Format.{Format}
use Rattle.su_bytes.specs.declared.principals.Principal.{Principal}
use Rattle.su_table.specs.Tree.{Tree, genesis}
use Rattle.su_op.specs.Batch.{store}
use Rattle.su_undo.specs.Replay.{CanBeTakenOut}
use Rattle.su_desk.specs.declared.entries.Entry.{Entry}
use Rattle.su_desk.specs.History.{NumberedAction, actions, undo_by, undos, live, replay, tree, last_live, format_after}
use Rattle.su_desk.specs.Applied.{GoesAsApplied}
use Rattle.su_desk.specs.Version.{version}
use Rattle.su_desk.specs.Blocker.{blocker, ReadsCellOf, IsLastReader}
use Rattle.su_desk.specs.Answer.{blocked_refusal, undo_refusal, GoodAfter}

-- what holds of a roster, a good history and the tree that it leaves
pub record Headline (ro : Membership) (h : List Entry) (T : Tree) : Type 0 where
  -- the tree is a replay of the operations that weren't undone, none of which the replay refuses
  pub replayed : tree ro h ≡ Some T
  -- in the replay each live operation goes as it did where it was applied, and finds the same in
  -- the cells that it reads
  pub as_applied : (before after : List NumberedAction) (t : NumberedAction) (S : Tree)
      → live h ≡ before ++ t ∷ after → replay ro genesis before ≡ Some S → GoesAsApplied ro h S t
  -- version numbers don't fall with a further entry, be it an undo
  pub rising : (e : Entry) (p : Principal) → version ro h p ≤ version ro (h ++ e ∷ []) p
  -- the latest operation that wasn't undone is never blocked
  pub latest : blocker ro h (last_live h) ≡ None
  -- undone from the last on, each by its author, in whichever format is as new as the last entry's,
  -- live operations are never blocked or refused
  pub accepted : (f : Format) (ts us : List NumberedAction) → is_as_new f (format_after h) ≡ true
      → live h ≡ ts ++ us → GoodAfter ro h (undos f us)
  -- and the tree comes by every earlier point: after the undos of the last ones it is the replay of
  -- those before them
  pub every_point : (f : Format) (ts us : List NumberedAction) → live h ≡ ts ++ us
      → tree ro (h ++ undos f us) ≡ replay ro genesis ts
  -- an undo, in whichever format, takes its operation out of the live ones, and that alone, so that
  -- the tree is the replay of the others
  pub out : (before after : List NumberedAction) (t : NumberedAction) (a : ℕ) (f : Format)
      → live h ≡ before ++ t ∷ after → live (h ++ undo_by a f t.number ∷ []) ≡ before ++ after
  pub undone : (before after : List NumberedAction) (t : NumberedAction) (a : ℕ) (f : Format)
      → live h ≡ before ++ t ∷ after
      → tree ro (h ++ undo_by a f t.number ∷ []) ≡ replay ro genesis (before ++ after)
  -- where nothing blocks its undo, the later operations go alike without it, and that replay is a
  -- tree that holds in the cells that it wrote what stood there before it, and in all others what T
  -- holds
  pub taken_out : (before after : List NumberedAction) (t : NumberedAction)
      → live h ≡ before ++ t ∷ after → blocker ro h t.number ≡ None
      → CanBeTakenOut (store ro) genesis (actions before) t.action (actions after) T
  -- the undo of a live operation by its author is refused just where it has a blocker, which it
  -- names
  pub blocked : (before after : List NumberedAction) (t : NumberedAction)
      → live h ≡ before ++ t ∷ after
      → undo_refusal ro h t.action.author t.number ≡ blocked_refusal (blocker ro h t.number)
  -- a blocker is the last live operation that came later and read a cell that the undone one wrote;
  -- there is none just where no live operation did
  pub named : (n m : ℕ) → (blocker ro h n ≡ Some m) ↔ IsLastReader ro h n m
  pub free : (n : ℕ) → (blocker ro h n ≡ None) ↔ All (λ t. ¬ ReadsCellOf ro h n t) (live h)
