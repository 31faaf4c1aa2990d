-- What operations write can be kept, and is put back right after them.
use Rattle.std.proofs.Common.{◌≡◌, None, sym, ap, ◌∙◌}
use Rattle.std.specs.List.{All}
use Rattle.std.specs.Option.{is_none}
use Rattle.su_bytes.specs.Membership.{Membership}
use Rattle.su_table.specs.Tree.{Tree}
use Rattle.su_table.specs.Cell.{Cell}
use Rattle.su_op.specs.Area.{has}
use Rattle.su_op.specs.Operation.{why, effect, writes}
use Rattle.su_op.specs.Soundness.{Sound}
use Rattle.su_op.specs.Action.{Action}
use Rattle.su_op.proofs.Public.{kinds_new, store_lawful}
use Rattle.su_inverse.specs.declared.inverses.Inverse.{Inverse}
use Rattle.su_inverse.specs.Kept.{CanKeep, inverse_areas, IsKeptOf, IsPutBack}

pub writes_kept : (ro : Membership) (T : Tree) (x : Action) → why ro T x ≡ None → All (CanKeep T) (writes ro T x)
writes_kept ro T x ok = kinds_new ro T x (ap is_none ok)

pub put_back_after : (ro : Membership) (T : Tree) (x : Action) (i : Inverse) → Sound T → why ro T x ≡ None
    → ((c : Cell) → has (inverse_areas i) c ≡ has (writes ro T x) c) → IsKeptOf i T → IsPutBack i (effect ro T x) T
put_back_after ro T x i sound ok areas kept =
    record { kept = kept; others = λ c out. (store_lawful ro).leaves T x sound (ap is_none ok) c (sym (areas c) ∙ out) }
