use Rattle.std.proofs.Common.{◌∙◌, ap}
use Rattle.su_part.specs.Part.{at_number}
use Rattle.su_part.proofs.users.UserPart.find.Goals as goal

pub returns : goal.returns
returns c = c.get.ensures.value ∙ ap (at_number c.args.self.now.inodes.entries) c.number.ensures.value
