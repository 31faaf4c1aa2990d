use Rattle.std.proofs.Common.{◌≡◌, ◌∙◌, sym, ap, subst, None, option_map}
use Rattle.std.specs.Prelude.{IfOk}
use Rattle.std.specs.FinMap.{get}
use Rattle.su_node.specs.Inode.{bytes_of, within}
use Rattle.su_part.specs.Part.{StandsAt, at_number}
use Rattle.su_part.proofs.UserLemmas.{asked_there, not_loaded}
use Rattle.su_part.proofs.users.UserPart.read_at.Goals as goal

pub returns-in-Some-clause-value : goal.returns-in-Some-clause-value
returns-in-Some-clause-value g c u T h free =
    let after = c.fetch.ensures.loads.stands (u, T) h free in
    let k = c.number.result in
    let here = subst (λ x. StandsAt x (get T.inodes (u, k))) (sym c.in-Some.ensures.value) (after.inodes k) in
    subst (λ n. IfOk c.read_at.result (λ bytes. option_map (λ v. v.items) bytes ≡ option_map (within c.args.off c.args.len) (bytes_of (get T.inodes (u, n))))) c.number.ensures.value
    (asked_there (get T.inodes (u, k)) c.in-Some.inode.now (λ o. IfOk c.read_at.result (λ bytes. option_map (λ v. v.items) bytes ≡ option_map (within c.args.off c.args.len) (bytes_of o))) here c.read_at.ensures.value)

pub returns-in-None-clause-value : goal.returns-in-None-clause-value
returns-in-None-clause-value g c u T h free =
    let after = c.fetch.ensures.loads.stands (u, T) h free in
    let none : None ≡ at_number c.fetch.new.self.inodes.entries c.args.number = c.in-None.ensures.value ∙ ap (at_number c.fetch.new.self.inodes.entries) c.number.ensures.value in
    sym (ap (λ o. option_map (within c.args.off c.args.len) (bytes_of o)) (not_loaded (get T.inodes (u, c.args.number)) _ (c.in_ok-fetch.ensures.has.inode.there u T after) none))
