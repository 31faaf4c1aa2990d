use Rattle.std.proofs.Common.{◌∙◌, ap, sym, subst}
use Rattle.std.specs.FinMap.{get}
use Rattle.std.specs.Option.{option_map, option_copied, option_and_then}
use Rattle.su_part.specs.Part.{StandsJust, at_number}
use Rattle.su_part.specs.Seen.{seen_inode, loaded_inodes}
use Rattle.su_part_forest.proofs.Asked.{just_there}
use Rattle.su_part_forest.proofs.Seeing.{seen_inodes}
use Rattle.su_part_forest.proofs.forests.PartForest.inode.Goals as goal

pub returns-in_err-part-clause-loaded : goal.returns-in_err-part-clause-loaded
returns-in_err-part-clause-loaded c = ap option_copied c.from_residual.ensures ∙ ap (option_and_then (λ q. at_number (loaded_inodes q) c.args.place.1)) c.in_err-part.ensures

pub returns-in_err-part-clause-seen : goal.returns-in_err-part-clause-seen
returns-in_err-part-clause-seen c =
    let loaded = ap option_copied c.from_residual.ensures ∙ ap (option_and_then (λ q. at_number (loaded_inodes q) c.args.place.1)) c.in_err-part.ensures in
    ap (option_map seen_inode) loaded ∙ sym (seen_inodes c.args.self.now c.args.place)

pub returns-in_err-part-clause-there : goal.returns-in_err-part-clause-there
returns-in_err-part-clause-there c T h there =
    let loaded = ap option_copied c.from_residual.ensures ∙ ap (option_and_then (λ q. at_number (loaded_inodes q) c.args.place.1)) c.in_err-part.ensures in
    subst (λ o. StandsJust o (get T.inodes c.args.place)) (sym loaded) (just_there c.args.self.now T h c.args.place there)

pub returns-clause-loaded : goal.returns-clause-loaded
returns-clause-loaded c = c.find.ensures ∙ ap (option_and_then (λ q. at_number (loaded_inodes q) c.args.place.1)) c.in_ok-part.ensures

pub returns-clause-seen : goal.returns-clause-seen
returns-clause-seen c =
    let loaded = c.find.ensures ∙ ap (option_and_then (λ q. at_number (loaded_inodes q) c.args.place.1)) c.in_ok-part.ensures in
    ap (option_map seen_inode) loaded ∙ sym (seen_inodes c.args.self.now c.args.place)

pub returns-clause-there : goal.returns-clause-there
returns-clause-there c T h there =
    let loaded = c.find.ensures ∙ ap (option_and_then (λ q. at_number (loaded_inodes q) c.args.place.1)) c.in_ok-part.ensures in
    subst (λ o. StandsJust o (get T.inodes c.args.place)) (sym loaded) (just_there c.args.self.now T h c.args.place there)
