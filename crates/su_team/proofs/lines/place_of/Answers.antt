use Rattle.std.proofs.Common.{Some, sym, ap, ◌∙◌}
use Rattle.std.specs.Prelude.{option_map}
use Rattle.std.proofs.lemmas.Option.{slice_get-get_or}
use Rattle.su_team.specs.TeamUsers.{told}
use Rattle.su_team.proofs.Digits.{equal_bytes}
use Rattle.su_team.proofs.lines.place_of.Goals as goal

pub returns-then-eq : goal.returns-then-eq
returns-then-eq c =
    let user = c.index-users-place.result in
    let at = slice_get-get_or c.args.users.now c.loop-place.place user c.loop-place-test.true ∙ ap Some (sym c.index-users-place.is) in
    ap (option_map (λ u. (told u).0)) at ∙ ap Some (sym c.as_slice.ensures.value ∙ equal_bytes c.as_slice.result.now c.args.name.now c.if-eq.ensures)
