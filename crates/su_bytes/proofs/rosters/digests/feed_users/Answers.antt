use Rattle.std.proofs.Common.{◌∷◌, ◌++◌, length, subst, sym, ap, ◌∙◌, arith}
use Rattle.std.specs.List.{flat_map}
use Rattle.std.proofs.lemmas.List.{take_all}
use Rattle.std.proofs.lemmas.List.Folds.{flat_map-map}
use Rattle.sha2.specs.Hashers.{Holds256}
use Rattle.su_bytes.specs.RosterBytes.{user_bytes}
use Rattle.su_bytes.specs.declared.rosters.RosterUser.{RosterUser}
use Rattle.su_bytes.proofs.rosters.digests.feed_users.Goals as goal

pub returns : goal.returns
returns c =
    let spelled = λ (u : RosterUser). user_bytes (u.user, u.key) in
    let all = ap (flat_map spelled) (take_all c.loop-entry.entry-index c.args.users.now (omega (arith, c.loop-entry-test.false))) in
    let same = all ∙ sym (flat_map-map user_bytes (λ u. (u.user, u.key)) c.args.users.now) in
    λ m held. subst (λ bytes. Holds256 c.loop-entry.hasher (m ++ length c.args.users.now ∷ bytes)) same (c.loop-entry.invariant m held)
