use Rattle.std.proofs.Common.{◌≡◌, ◌∙◌, ap, sym, Some, None, true, false, cond}
use Rattle.su_bytes.specs.declared.file_ids.FileId.TheVariants.{User}
use Rattle.su_bytes.specs.Place.{Place, file_eq}
use Rattle.su_table.specs.Query.{body, home_body, pointer_body}
use Rattle.su_node.specs.Field.{Field.KindOf}
use Rattle.su_table.proofs.Stores.{val-At, val-Pointer, pointer_body-place_value, file_eq-derived}
use Rattle.su_table.proofs.forests.Forest.body.Goals as goal

pub returns-in_err-inode-in-User : goal.returns-in_err-inode-in-User
unfolding body
returns-in_err-inode-in-User c =
    let p : Place = (c.in-User.user, c.in-User.number) in
    c.from_residual.ensures
    ∙ sym (ap (λ v. home_body v (User c.in-User.user c.in-User.number) p) (val-At c.self.inside.inodes.entries _ c.args.self.now c.self.view_is p KindOf _ c.in_err-inode-in-User.ensures.value))
    ∙ ap (body c.args.self.now) (sym c.in-User.is)

pub returns-then-eq : goal.returns-then-eq
unfolding body
returns-then-eq c =
    let p : Place = (c.in-User.user, c.in-User.number) in
    let f = User c.in-User.user c.in-User.number in
    let home = c.in_ok-inode-in-User.inode.now.home in
    let same : file_eq home f ≡ true = ap (λ h. file_eq h f) (sym c.home-home.ensures) ∙ sym (file_eq-derived c.home-home.result f) ∙ sym c.eq.ensures ∙ c.if-eq.true in
    sym (ap (λ b. cond b (Some p) None) same)
    ∙ sym (ap (λ v. home_body v f p) (val-At c.self.inside.inodes.entries _ c.args.self.now c.self.view_is p KindOf _ c.in_ok-inode-in-User.ensures.value))
    ∙ ap (body c.args.self.now) (sym c.in-User.is)

pub returns-else-eq : goal.returns-else-eq
unfolding body
returns-else-eq c =
    let p : Place = (c.in-User.user, c.in-User.number) in
    let f = User c.in-User.user c.in-User.number in
    let home = c.in_ok-inode-in-User.inode.now.home in
    let differs : file_eq home f ≡ false = ap (λ h. file_eq h f) (sym c.home-home.ensures) ∙ sym (file_eq-derived c.home-home.result f) ∙ sym c.eq.ensures ∙ c.if-eq.false in
    sym (ap (λ b. cond b (Some p) None) differs)
    ∙ sym (ap (λ v. home_body v f p) (val-At c.self.inside.inodes.entries _ c.args.self.now c.self.view_is p KindOf _ c.in_ok-inode-in-User.ensures.value))
    ∙ ap (body c.args.self.now) (sym c.in-User.is)

pub returns-in-Group : goal.returns-in-Group
unfolding body
returns-in-Group c =
    let g : Place = (c.in-Group.group, c.in-Group.number) in
    c.copied.ensures ∙ sym (pointer_body-place_value _)
    ∙ sym (ap pointer_body (val-Pointer _ c.self.inside.pointers.entries c.args.self.now c.self.view_is g _ c.get-in-Group.ensures.value))
    ∙ ap (body c.args.self.now) (sym c.in-Group.is)
