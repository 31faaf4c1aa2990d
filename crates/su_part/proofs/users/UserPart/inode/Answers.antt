use Rattle.std.proofs.Common.{◌∙◌, ap, sym, subst}
use Rattle.std.specs.FinMap.{get}
use Rattle.su_part.specs.Part.{StandsJust, at_number}
use Rattle.su_part.proofs.UserLemmas.{taken_out}
use Rattle.su_part.proofs.users.UserPart.inode.Goals as goal

pub returns : goal.returns
returns c u T h there =
    let found = c.get.ensures.value ∙ ap (at_number c.args.self.now.inodes.entries) c.number.ensures.value in
    subst (λ v. StandsJust v (get T.inodes (u, c.args.number))) (sym found) (taken_out (get T.inodes (u, c.args.number)) (at_number c.args.self.now.inodes.entries c.args.number) (h.inodes c.args.number) there)
