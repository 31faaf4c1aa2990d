use Rattle.std.proofs.Common.{◌≡◌, ◌∙◌, sym, ap, subst, None}
use Rattle.std.specs.FinMap.{get}
use Rattle.su_node.specs.Inode.{has_no_names}
use Rattle.su_table.specs.Query.{is_bare_at}
use Rattle.su_part.specs.Part.{StandsAt, at_number}
use Rattle.su_part.proofs.UserLemmas.{asked_there, not_loaded}
use Rattle.su_part.proofs.users.UserPart.is_bare.Goals as goal

pub returns-in-Some-clause-value : goal.returns-in-Some-clause-value
unfolding is_bare_at
returns-in-Some-clause-value g c u T h free =
    let after = c.fetch.ensures.loads.stands (u, T) h free in
    let k = c.number.result in
    let here = subst (λ x. StandsAt x (get T.inodes (u, k))) (sym c.in-Some.ensures.value) (after.inodes k) in
    asked_there (get T.inodes (u, k)) c.in-Some.inode.now (λ o. c.is_bare.result ≡ has_no_names o) here c.is_bare.ensures ∙ ap (λ n. has_no_names (get T.inodes (u, n))) c.number.ensures.value

pub returns-in-None-clause-value : goal.returns-in-None-clause-value
unfolding is_bare_at
returns-in-None-clause-value g c u T h free =
    let after = c.fetch.ensures.loads.stands (u, T) h free in
    let none : None ≡ at_number c.fetch.new.self.inodes.entries c.args.number = c.in-None.ensures.value ∙ ap (at_number c.fetch.new.self.inodes.entries) c.number.ensures.value in
    sym (ap has_no_names (not_loaded (get T.inodes (u, c.args.number)) _ (c.in_ok-fetch.ensures.has.inode.there u T after) none))
