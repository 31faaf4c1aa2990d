use Rattle.std.proofs.Common.{◌≡◌, ◌∙◌, sym, ap, subst, None}
use Rattle.std.specs.FinMap.{get}
use Rattle.su_node.specs.Field.{Field.NameOf, field_value}
use Rattle.su_table.specs.Cell.{val}
use Rattle.su_part.specs.Part.{StandsAt, at_number}
use Rattle.su_part.proofs.UserLemmas.{field_there, not_loaded}
use Rattle.su_part.proofs.users.UserPart.name_at.Goals as goal

pub returns-in-Some-clause-value : goal.returns-in-Some-clause-value
unfolding val
returns-in-Some-clause-value g c u T h free =
    let after = c.fetch.ensures.loads.stands (u, T) h free in
    let k = c.number.result in
    let here = subst (λ x. StandsAt x (get T.inodes (u, k))) (sym c.in-Some.ensures.value) (after.inodes k) in
    field_there (get T.inodes (u, k)) c.in-Some.inode.now _ (NameOf c.args.name.now) here c.name_get.ensures ∙ ap (λ n. field_value (get T.inodes (u, n)) (NameOf c.args.name.now)) c.number.ensures.value

pub returns-clause-value : goal.returns-clause-value
unfolding val
returns-clause-value g c u T h free =
    let after = c.fetch.ensures.loads.stands (u, T) h free in
    let none : None ≡ at_number c.fetch.new.self.inodes.entries c.args.number = c.in-None.ensures.value ∙ ap (at_number c.fetch.new.self.inodes.entries) c.number.ensures.value in
    sym (ap (λ o. field_value o (NameOf c.args.name.now)) (not_loaded (get T.inodes (u, c.args.number)) _ (c.in_ok-fetch.ensures.has.inode.there u T after) none))
