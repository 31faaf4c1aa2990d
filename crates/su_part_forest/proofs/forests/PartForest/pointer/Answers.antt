use Rattle.std.proofs.Common.{◌∙◌, ap, sym}
use Rattle.std.specs.FinMap.{find}
use Rattle.std.specs.Option.{option_and_then}
use Rattle.std.specs.Ordering.{nat_cmp}
use Rattle.su_bytes.specs.Principal.{is_group}
use Rattle.su_group_part.specs.Part.{StandsGroup}
use Rattle.su_part_forest.specs.Forest.{group_part}
use Rattle.su_part_forest.specs.Seen.{loaded_pointers}
use Rattle.su_part_forest.proofs.Asked.{part_is}
use Rattle.su_part_forest.proofs.Seeing.{seen_pointers}
use Rattle.su_part_forest.proofs.forests.PartForest.pointer.Goals as goal

pub returns-in_err-part : goal.returns-in_err-part
returns-in_err-part c sound =
    c.from_residual.ensures ∙ ap (option_and_then (λ p. find nat_cmp c.args.file.1 (loaded_pointers p))) c.in_err-part.ensures ∙ sym (seen_pointers c.args.self.now c.args.file)

pub returns : goal.returns
returns c sound =
    let g = c.args.file.0 in
    let stands = part_is (λ p. StandsGroup g p sound.0) (is_group g) (group_part g c.args.self.now) c.in_ok-part.part.now c.in_ok-part.ensures (sound.1.groups g) in
    c.find.ensures g sound.0 stands ∙ ap (option_and_then (λ p. find nat_cmp c.args.file.1 (loaded_pointers p))) c.in_ok-part.ensures ∙ sym (seen_pointers c.args.self.now c.args.file)
