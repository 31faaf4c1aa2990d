use Rattle.std.proofs.Common.{ap, sym, subst, map, ◌∙◌}
use Rattle.su_bytes.specs.Membership.{IsRoster}
use Rattle.su_bytes.specs.declared.rosters.RosterUser.{RosterUser}
use Rattle.su_bytes.proofs.KeyMemberships.{membership_of-of_keys, IsRoster-some_keys}
use Rattle.su_bytes.proofs.rosters.Roster.of_keys.Goals as goal

pub returns-clause-value : goal.returns-clause-value
returns-clause-value c =
    membership_of-of_keys c.in_ok-users.users.items c.in_ok-groups.groups.items c.in_ok-all.all.items c.args.keys.now c.in_ok-users.ensures
    (c.in_ok-all.ensures ∙ ap (map (λ (u : RosterUser). u.user)) c.deref.ensures.value) c.in_ok-groups.ensures

pub invariant_of-result : goal.invariant_of-result
invariant_of-result c =
    let same = membership_of-of_keys c.in_ok-users.users.items c.in_ok-groups.groups.items c.in_ok-all.all.items c.args.keys.now c.in_ok-users.ensures
    (c.in_ok-all.ensures ∙ ap (map (λ (u : RosterUser). u.user)) c.deref.ensures.value) c.in_ok-groups.ensures in
    subst IsRoster (sym same) (IsRoster-some_keys c.args.keys.now c.requires.first)
