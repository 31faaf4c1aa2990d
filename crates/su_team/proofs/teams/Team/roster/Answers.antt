use Rattle.std.proofs.Common.{◌≡◌, map, List, ℕ, ◌∙◌, sym, ap, subst}
use Rattle.std.specs.Prelude.{IfOk}
use Rattle.su_bytes.specs.Membership.{membership_of_keys}
use Rattle.su_team.specs.TeamUsers.{told}
use Rattle.su_team.proofs.TeamUserLemmas.{keys-users_of}
use Rattle.su_team.proofs.teams.Team.roster.Goals as goal

pub returns-clause-value : goal.returns-clause-value
returns-clause-value c =
    let items = c.self.inside.users.items in
    let keys : c.deref-2.result.now ≡ map (λ u. u.1) c.args.self.now =
    c.deref-2.ensures.value ∙ c.in_ok-keys.ensures ∙ ap (map (λ u. (told u).1)) c.deref.ensures.value ∙ sym (keys-users_of items) ∙ ap (map (λ u. u.1)) c.self.view_is in
    subst (λ (it : List (List ℕ)). IfOk c.of_keys.result (λ roster. roster ≡ membership_of_keys it)) keys c.of_keys.ensures.value
