use Rattle.std.proofs.Common.{◌∙◌, sym, Some, None}
use Rattle.su_node.specs.Field.{Field.NameOf}
use Rattle.su_part_forest.proofs.Asked.{cell_seen}
use Rattle.su_part_forest.proofs.Public.{inode_of_name, name_seen}
use Rattle.su_part_inverse.proofs.Reading.{just_there, there_at}
use Rattle.su_part_inverse.proofs.returns.name_at.Goals as goal

pub returns-in-Some : goal.returns-in-Some
returns-in-Some c T h has =
    let f = c.args.forest.now in
    let p = c.args.place.now in
    let x = c.args.name.now in
    let (i, is, stands) = just_there _ _ (c.in-Some.ensures.there T h (there_at f T h p (inode_of_name f T h p x has))) in
    c.name_find.ensures i stands ∙ sym (cell_seen f p (NameOf x) (Some c.in-Some.inode.now) c.in-Some.ensures.loaded) ∙ name_seen f T h p x has

pub returns-in-None : goal.returns-in-None
returns-in-None c T h has =
    let f = c.args.forest.now in
    let p = c.args.place.now in
    let x = c.args.name.now in
    sym (cell_seen f p (NameOf x) None c.in-None.ensures.loaded) ∙ name_seen f T h p x has
