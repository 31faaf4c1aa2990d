-- The tree that a history leaves is sound.
use Rattle.std.proofs.Common.{◌≡◌, Bool, true, false, cond, List, [], ◌∷◌, Option, Some, None, refl, subst}
use Rattle.std.specs.Option.{is_none, unwrap_or}
use Rattle.su_bytes.specs.Membership.{Membership}
use Rattle.su_table.specs.Tree.{Tree, genesis}
use Rattle.su_op.specs.Batch.{why, effect}
use Rattle.su_op.specs.Soundness.{Sound}
use Rattle.su_op.proofs.Public.{batches_lawful}
use Rattle.su_desk.specs.declared.entries.Entry.{Entry}
use Rattle.su_desk.specs.History.{NumberedAction, live, replay, tree}
use Rattle.su_desk.specs.Applied.{tree_after}

first_accepted : (b : Bool) (o : Option Tree) (T : Tree) → cond b o None ≡ Some T → (b ≡ true) × (o ≡ Some T)
first_accepted true o T e = (refl, e)
first_accepted false o T e = absurd cc

some_same : (S T : Tree) → Some S ≡ Some T → S ≡ T
some_same S T e = cc

-- operations lead from a sound tree to a sound one
sound_on : (ro : Membership) (ts : List NumberedAction) (S T : Tree) → Sound S → replay ro S ts ≡ Some T → Sound T
sound_on ro [] S T sound e = subst Sound (some_same S T e) sound
sound_on ro (t ∷ ts) S T sound e =
    let (ok, rest) = first_accepted (is_none (why ro S t.action)) (replay ro (effect ro S t.action) ts) T e in
    sound_on ro ts (effect ro S t.action) T ((batches_lawful ro).stays_sound S t.action sound ok) rest

pub sound_after : (ro : Membership) (h : List Entry) → Sound (tree_after ro h)
unfolding tree
sound_after ro h = go (replay ro genesis (live h)) refl
  where
    go : (o : Option Tree) → replay ro genesis (live h) ≡ o → Sound (unwrap_or o genesis)
    go None is = (batches_lawful ro).start_sound
    go (Some T) is = sound_on ro (live h) genesis T (batches_lawful ro).start_sound is
