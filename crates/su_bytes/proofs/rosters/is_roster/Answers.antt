use Rattle.std.proofs.Common.{sym, ◌∙◌}
use Rattle.su_bytes.proofs.Memberships.{IsRoster-from_parts, users_ascend, groups_ascend, groups_have_members}
use Rattle.su_bytes.proofs.rosters.is_roster.Goals as goal
use Rattle.su_bytes.proofs.rosters.is_roster.Goals.{then-not-ascend-via-then-not-ascend, then-not-ascend-via-else-not-ascend+then-not-ascend-2}

pub returns-then-not-ascend : goal.returns-then-not-ascend
returns-then-not-ascend c = (
  λ h. cc,
  λ r.
      elim c.then-not-ascend.branch [
        | then-not-ascend-via-then-not-ascend w ↦ sym w.if-not-ascend.true ∙ c.ascend.ensures.1 (users_ascend c.args.users.now c.args.groups.now r)
        | then-not-ascend-via-else-not-ascend+then-not-ascend-2 w ↦ sym w.if-not-ascend-2.true ∙ w.ascend-else-not-ascend.ensures.1 (groups_ascend c.args.users.now c.args.groups.now r)
      ],
)

pub returns : goal.returns
returns c = (
  λ all. IsRoster-from_parts c.args.users.now c.args.groups.now (sym c.lists_user.ensures ∙ c.if-not-lists_user.false) (sym c.lists_member.ensures ∙ c.if-not-lists_member.false)
      (c.ascend.ensures.0 c.if-not-ascend.false) (c.ascend-else-not-ascend.ensures.0 c.if-not-ascend-2.false) (c.have_members.ensures.0 all),
  λ r. c.have_members.ensures.1 (groups_have_members c.args.users.now c.args.groups.now r),
)
