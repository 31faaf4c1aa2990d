use Rattle.std.proofs.Common.{◌∷◌, ◌++◌, length, subst, sym, ap, ◌∙◌, arith}
use Rattle.std.specs.List.{flat_map}
use Rattle.std.proofs.lemmas.List.{take_all}
use Rattle.std.proofs.lemmas.List.Folds.{flat_map-map}
use Rattle.sha2.specs.Hashers.{Holds256}
use Rattle.su_bytes.specs.RosterBytes.{members_bytes}
use Rattle.su_bytes.specs.declared.rosters.RosterGroup.{RosterGroup}
use Rattle.su_bytes.proofs.rosters.digests.feed_groups.Goals as goal

pub returns : goal.returns
returns c =
    let spelled = λ (g : RosterGroup). members_bytes (g.group, g.members.items) in
    let all = ap (flat_map spelled) (take_all c.loop-entry.entry-index c.args.groups.now (omega (arith, c.loop-entry-test.false))) in
    let same = all ∙ sym (flat_map-map members_bytes (λ g. (g.group, g.members.items)) c.args.groups.now) in
    λ m held. subst (λ bytes. Holds256 c.loop-entry.hasher (m ++ length c.args.groups.now ∷ bytes)) same (c.loop-entry.invariant m held)
