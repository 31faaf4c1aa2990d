use Rattle.std.proofs.Common.{◌≡◌, ◌∙◌, sym, ap, subst, None, option_map}
use Rattle.std.specs.Prelude.{IfOk}
use Rattle.std.specs.FinMap.{get}
use Rattle.su_node.specs.Inode.{names_of}
use Rattle.su_part.specs.Part.{StandsAt, at_number}
use Rattle.su_part.proofs.UserLemmas.{asked_there, not_loaded}
use Rattle.su_part.proofs.users.UserPart.names.Goals as goal

pub returns-in-Some-clause-value : goal.returns-in-Some-clause-value
returns-in-Some-clause-value g c u T h free =
    let after = c.fetch.ensures.loads.stands (u, T) h free in
    let k = c.number.result in
    let here = subst (λ x. StandsAt x (get T.inodes (u, k))) (sym c.in-Some.ensures.value) (after.inodes k) in
    subst (λ n. IfOk c.names.result (λ list. option_map (λ v. v.items) list ≡ names_of (get T.inodes (u, n)))) c.number.ensures.value
    (asked_there (get T.inodes (u, k)) c.in-Some.inode.now (λ o. IfOk c.names.result (λ list. option_map (λ v. v.items) list ≡ names_of o)) here c.names.ensures.value)

pub returns-in-None-clause-value : goal.returns-in-None-clause-value
returns-in-None-clause-value g c u T h free =
    let after = c.fetch.ensures.loads.stands (u, T) h free in
    let none : None ≡ at_number c.fetch.new.self.inodes.entries c.args.number = c.in-None.ensures.value ∙ ap (at_number c.fetch.new.self.inodes.entries) c.number.ensures.value in
    sym (ap names_of (not_loaded (get T.inodes (u, c.args.number)) _ (c.in_ok-fetch.ensures.has.inode.there u T after) none))
