use Rattle.std.proofs.Common.{◌≡◌, ℕ, List, subst, arith}
use Rattle.std.specs.Prelude.{MatchOption}
use Rattle.hex.specs.Hex.{encode_lower}
use Rattle.su_team.specs.Team.{IsKey}
use Rattle.su_team.proofs.Digits.{front_key_of, no_key_there}
use Rattle.su_team.proofs.lines.front_key.Goals as goal

pub returns-then-bytes-le-KEY_DIGITS : goal.returns-then-bytes-le-KEY_DIGITS
returns-then-bytes-le-KEY_DIGITS c key rest is e =
    let there = no_key_there c.args.bytes.now key rest is e in grind (arith, there)

pub returns : goal.returns
returns c =
    let bytes = c.args.bytes.now in
    front_key_of c.read_key.result bytes c.if-bytes-le-KEY_DIGITS.false c.if-bytes-ne10.false
    (subst (λ (it : List ℕ). MatchOption c.read_key.result ((key : List ℕ) → IsKey key → it ≡ encode_lower key → ⊥) (λ key. IsKey key × (it ≡ encode_lower key))) c.split_at.ensures.front c.read_key.ensures)
