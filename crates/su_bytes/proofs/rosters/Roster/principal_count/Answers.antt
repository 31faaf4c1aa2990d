use Rattle.std.proofs.Common.{map, sym, subst, arith}
use Rattle.std.specs.List.Sorted.{IsStrictlyIncreasing}
use Rattle.su_bytes.proofs.Memberships.{length-rising, users_ascend, groups_ascend}
use Rattle.su_bytes.proofs.rosters.Roster.principal_count.Goals as goal

pub returns-clause-few : goal.returns-clause-few
returns-clause-few c =
    let us = c.self.inside.users.items in
    let gs = c.self.inside.groups.items in
    let user = c.in-Some-Some.ensures.item in
    let group = c.in-Some-Some.ensures'.item in
    let users = length-rising (λ u. u.user) c.deref.result.now c.in-Some-Some.user.now
    (subst (λ l. IsStrictlyIncreasing (map (λ u. u.user) l)) (sym c.deref.ensures.value) (users_ascend us gs c.self.invariant)) user.3.0 (sym user.1) in
    let groups = length-rising (λ g. g.group) c.deref-2.result.now c.in-Some-Some.group.now
    (subst (λ l. IsStrictlyIncreasing (map (λ g. g.group) l)) (sym c.deref-2.ensures.value) (groups_ascend us gs c.self.invariant)) group.3.0 (sym group.1) in
    grind (
      arith,
      users,
      groups,
      c.number-user.ensures.value,
      c.number-user.ensures.range,
      c.number-group.ensures.value,
      c.number-group.ensures.range,
      c.deref.ensures.value,
      c.deref-2.ensures.value,
      c.len.ensures,
      c.len-2.ensures,
    )
