use Rattle.std.proofs.Common.{ℕ, List, ◌∙◌, sym, ap, subst, arith}
use Rattle.std.specs.Prelude.{All, ◌≢◌, option_map}
use Rattle.std.specs.List.{slice_get}
use Rattle.std.proofs.lemmas.Bool.{le-leb}
use Rattle.su_team.specs.declared.lines.TeamUser.{TeamUser}
use Rattle.su_team.specs.Team.{name_at}
use Rattle.su_team.specs.TeamUsers.{told, users_of}
use Rattle.su_team.proofs.TeamUserLemmas.{apart_from, name_at-users_of, named_within, none_has}
use Rattle.su_team.proofs.teams.Team.user_of.Goals as goal

pub returns-in_err-place : goal.returns-in_err-place
returns-in_err-place c =
    let items = c.self.inside.users.items in
    let apart = apart_from items c.args.name.now (subst (All (λ u. (told u).0 ≢ c.args.name.now)) c.deref.ensures.value c.in_err-place.ensures) in
    let team : All (λ u. u.0 ≢ c.args.name.now) c.args.self.now = subst (All (λ u. u.0 ≢ c.args.name.now)) c.self.view_is apart in
    none_has c.from_residual.result c.args.self.now c.args.name.now c.from_residual.ensures team

pub unreachable-requires : goal.unreachable-requires
unreachable-requires c =
    let items = c.self.inside.users.items in
    let place = c.in_ok-place.place in
    let at = ap (λ (it : List TeamUser). option_map (λ u. (told u).0) (slice_get it place)) (sym c.deref.ensures.value) ∙ c.in_ok-place.ensures in
    let within = named_within items c.args.name.now place at in
    let few = c.self.invariant.are_users.few in
    let yes = le-leb place 63 (omega (arith, within, few)) in
    let no = c.in-Err.ensures.accepted.1 yes in cc no

pub returns : goal.returns
returns c =
    let items = c.self.inside.users.items in
    let place = c.in_ok-place.place in
    let at = ap (λ (it : List TeamUser). option_map (λ u. (told u).0) (slice_get it place)) (sym c.deref.ensures.value) ∙ c.in_ok-place.ensures in
    ap (λ (it : List (List ℕ × List ℕ)). name_at it c.in-Ok.user) (sym c.self.view_is)
    ∙ ap (name_at (users_of items)) c.in-Ok.ensures.value ∙ name_at-users_of items place ∙ at
