use Rattle.std.proofs.Common.{◌∙◌, sym, None, Some}
use Rattle.su_part_forest.proofs.Asked.{loaded_stands, bare_is}
use Rattle.su_part_forest.proofs.forests.PartForest.is_bare.Goals as goal

pub returns-in-Some : goal.returns-in-Some
returns-in-Some c sound =
    let found = c.in-Some.ensures.loaded in
    let x = loaded_stands c.args.self.now sound c.args.place c.in-Some.inode.now found in
    c.shows_no_names.ensures x.0 x.1 ∙ sym (bare_is c.args.self.now c.args.place (Some c.in-Some.inode.now) found)

pub returns-in-None : goal.returns-in-None
returns-in-None c sound = sym (bare_is c.args.self.now c.args.place None c.in-None.ensures.loaded)
