use Rattle.std.proofs.Common.{◌≡◌, ◌∙◌, ap, sym, Some, None, true, false, cond}
use Rattle.su_bytes.specs.declared.file_ids.FileId.TheVariants.{User}
use Rattle.su_bytes.specs.Place.{Place, file_eq}
use Rattle.su_node.specs.Field.{Field.KindOf}
use Rattle.su_table.specs.Cell.{val}
use Rattle.su_table.specs.Query.{body, home_body}
use Rattle.su_table.proofs.Stores.{pointer_body-place_value, file_eq-derived}
use Rattle.su_part_forest.specs.Seen.{seen}
use Rattle.su_part_forest.proofs.Asked.{cell_seen, kind_is, loaded_stands}
use Rattle.su_part_forest.proofs.forests.PartForest.body.Goals as goal

pub returns-in_err-inode-in-User : goal.returns-in_err-inode-in-User
unfolding body
returns-in_err-inode-in-User c sound =
    let p : Place = (c.in-User.user, c.in-User.number) in
    c.from_residual.ensures
    ∙ sym (ap (λ v. home_body v (User c.in-User.user c.in-User.number) p) (cell_seen c.args.self.now p KindOf None c.in_err-inode-in-User.ensures.loaded))
    ∙ ap (body (seen c.args.self.now)) (sym c.in-User.is)

pub returns-then-eq : goal.returns-then-eq
unfolding body
returns-then-eq c sound =
    let p : Place = (c.in-User.user, c.in-User.number) in
    let f = User c.in-User.user c.in-User.number in
    let found = c.in_ok-inode-in-User.ensures.loaded in
    let x = loaded_stands c.args.self.now sound p c.in_ok-inode-in-User.inode.now found in
    let same : file_eq x.0.home f ≡ true = ap (λ h. file_eq h f) (sym (c.home-home.ensures x.0 x.1)) ∙ sym (file_eq-derived c.home-home.result f) ∙ sym c.eq.ensures ∙ c.if-eq.true in
    sym (ap (λ b. cond b (Some p) None) same)
    ∙ sym (ap (λ v. home_body v f p) (kind_is c.args.self.now p c.in_ok-inode-in-User.inode.now found x.0 x.1))
    ∙ ap (body (seen c.args.self.now)) (sym c.in-User.is)

pub returns-else-eq : goal.returns-else-eq
unfolding body
returns-else-eq c sound =
    let p : Place = (c.in-User.user, c.in-User.number) in
    let f = User c.in-User.user c.in-User.number in
    let found = c.in_ok-inode-in-User.ensures.loaded in
    let x = loaded_stands c.args.self.now sound p c.in_ok-inode-in-User.inode.now found in
    let differs : file_eq x.0.home f ≡ false = ap (λ h. file_eq h f) (sym (c.home-home.ensures x.0 x.1)) ∙ sym (file_eq-derived c.home-home.result f) ∙ sym c.eq.ensures ∙ c.if-eq.false in
    sym (ap (λ b. cond b (Some p) None) differs)
    ∙ sym (ap (λ v. home_body v f p) (kind_is c.args.self.now p c.in_ok-inode-in-User.inode.now found x.0 x.1))
    ∙ ap (body (seen c.args.self.now)) (sym c.in-User.is)

pub returns-in-Group : goal.returns-in-Group
unfolding body val
returns-in-Group c sound = c.pointer.ensures sound ∙ sym (pointer_body-place_value _) ∙ ap (body (seen c.args.self.now)) (sym c.in-Group.is)
