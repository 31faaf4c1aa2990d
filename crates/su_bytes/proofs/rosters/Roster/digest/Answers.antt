use Rattle.std.proofs.Common.{◌≡◌, ℕ, List, [], ◌∷◌, ◌++◌, length, codes, sym, ap, ◌∙◌}
use Rattle.std.specs.List.{flat_map}
use Rattle.std.proofs.lemmas.List.{length-map}
use Rattle.sha2.specs.Sha256.{sha256}
use Rattle.su_bytes.specs.Roster.{users_of, groups_of, membership_of}
use Rattle.su_bytes.specs.RosterBytes.{user_bytes, members_bytes, roster_bytes, roster_digest}
use Rattle.su_bytes.specs.declared.rosters.RosterUser.{RosterUser}
use Rattle.su_bytes.specs.declared.rosters.RosterGroup.{RosterGroup}
use Rattle.su_bytes.proofs.Memberships.{users_ascend, groups_ascend, members_ascend}
use Rattle.su_bytes.proofs.rosters.Roster.digest.Goals as goal

pub feed_users-requires : goal.feed_users-requires
feed_users-requires c =
    rw c.deref.ensures.value (users_ascend c.self.inside.users.items c.self.inside.groups.items c.self.invariant)

pub feed_groups-requires-clause-groups : goal.feed_groups-requires-clause-groups
feed_groups-requires-clause-groups c =
    rw c.deref-2.ensures.value (groups_ascend c.self.inside.users.items c.self.inside.groups.items c.self.invariant)

pub feed_groups-requires-clause-members : goal.feed_groups-requires-clause-members
feed_groups-requires-clause-members c =
    rw c.deref-2.ensures.value (members_ascend c.self.inside.users.items c.self.inside.groups.items c.self.invariant)

-- what was hashed is the roster's bytes
spelled : (users us : List RosterUser) (groups gs : List RosterGroup) → us ≡ users → gs ≡ groups
    → (codes "SR01" ++ (length us ∷ flat_map user_bytes (users_of us))) ++ (length gs ∷ flat_map members_bytes (groups_of gs))
    ≡ roster_bytes (membership_of users groups)
unfolding roster_bytes
spelled users us groups gs same_users same_groups =
    let counted = λ (n k : ℕ). codes "SR01" ++ (n ∷ (flat_map user_bytes (users_of users) ++ (k ∷ flat_map members_bytes (groups_of groups)))) in
    (λ i. codes "SR01" ++ (length (same_users i) ∷ (flat_map user_bytes (users_of (same_users i)) ++ (length (same_groups i) ∷ flat_map members_bytes (groups_of (same_groups i))))))
    ∙ (λ i. counted (sym (length-map {B = ℕ × List ℕ} users (λ u. (u.user, u.key))) i) (sym (length-map {B = ℕ × List ℕ} groups (λ g. (g.group, g.members.items))) i))

pub returns : goal.returns
returns c =
    let fed = c.finalize.ensures _ (c.feed_groups.ensures _ (c.feed_users.ensures _ (c.update.ensures [] c.new-hasher.ensures))) in
    c.new.ensures ∙ fed ∙ ap sha256 (spelled c.self.inside.users.items c.deref.result.now c.self.inside.groups.items c.deref-2.result.now c.deref.ensures.value c.deref-2.ensures.value)
    ∙ ap roster_digest c.self.view_is
