-- What an operation that is rehearsed meets, and makes of the tree of a desk.
use Rattle.std.proofs.Common.{◌≡◌, ◌+◌, length, Option, Some, None, Ok, Err, sym, ap, ◌∙◌}
use Rattle.std.specs.Option.{unwrap_or}
use Rattle.su_bytes.specs.declared.refusals.Refusal.{Refusal}
use Rattle.su_table.specs.Tree.{genesis}
use Rattle.su_op.specs.Batch.{Action, why, effect}
use Rattle.su_op.specs.declared.operations.Change.TheVariants.{Do}
use Rattle.su_desk.specs.History.{entry_doing}
use Rattle.su_desk.specs.Answer.{format_refusal, refusal_of, Good, answer, reply}
use Rattle.su_desk.specs.Desk.{DeskState, with_entry}
use Rattle.su_desk.specs.Trial.{tree_of}
use Rattle.su_desk.proofs.FormatLemmas.{by_change, change_accepted}
use Rattle.su_desk.proofs.Replays.{tree_done}

-- an accepted operation has its effect on the tree of a desk
pub effect_done : (d : DeskState) (x : Action) → Good d.roster d.history → why d.roster (tree_of d) x ≡ None → tree_of (with_entry d (entry_doing x)) ≡ effect d.roster (tree_of d) x
effect_done d x good accepted = ap (λ o. unwrap_or o genesis) (tree_done d.roster d.history x good accepted)

-- an accepted change is an accepted operation
pub why_accepted : (d : DeskState) (x : Action) → refusal_of d.roster d.history (entry_doing x) ≡ None → why d.roster (tree_of d) x ≡ None
why_accepted d x accepted = change_accepted d.roster d.history (entry_doing x) accepted

-- a refusal of the change is one of the operation, in a format that fits
pub why_refused : (d : DeskState) (x : Action) (e : Refusal) → format_refusal d.history x.format (Do x.operations) ≡ None → answer d.roster d.history (entry_doing x) ≡ Err e → why d.roster (tree_of d) x ≡ Some e
unfolding answer
why_refused d x e fits is = go (why d.roster (tree_of d) x) (sym (ap (reply (length d.history + 1)) (by_change d.roster d.history (entry_doing x) fits)) ∙ is)
  where
    go : (o : Option Refusal) → reply (length d.history + 1) o ≡ Err e → o ≡ Some e
    go None f = absurd (let bad : Ok (length d.history + 1) ≡ Err e = f in cc)
    go (Some r) f = let same : r ≡ e = cc in ap Some same
