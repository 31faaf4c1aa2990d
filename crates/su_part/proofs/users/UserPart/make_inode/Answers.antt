use Rattle.std.proofs.Common.{refl, subst, sym}
use Rattle.std.specs.Prelude.{IsSome, OnOk}
use Rattle.su_node.specs.Inode.{new_inode}
use Rattle.su_part.specs.Part.{IfLoaded, IsAllIn, StandsUser}
use Rattle.su_part.proofs.ContentLemmas.{meant_new}
use Rattle.su_part.proofs.UserLemmas.{made_edit, on_ok}
use Rattle.su_part.proofs.users.UserPart.make_inode.Goals as goal

pub returns-clause-ok : goal.returns-clause-ok
returns-clause-ok c u T h known =
    subst (λ S. OnOk c.put_inode.result (StandsUser u c.put_inode.new.self S)) (made_edit T (u, c.args.number) c.args.home c.args.kind)
    (c.put_inode.ensures.ok u T (new_inode c.args.home c.args.kind) h known c.new-inode.ensures.stands (meant_new c.args.home c.args.kind c.requires.meant))

pub returns-clause-there : goal.returns-clause-there
returns-clause-there c = on_ok c.put_inode.result (λ e. subst IsSome (sym e) refl) c.put_inode.ensures.there

pub returns-clause-all : goal.returns-clause-all
returns-clause-all c = on_ok c.put_inode.result (λ e. subst (IfLoaded (λ i. IsAllIn i.content)) (sym e) c.new-inode.ensures.all) c.put_inode.ensures.there
