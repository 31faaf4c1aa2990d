use Rattle.su_pieces.proofs.SoundTrees.{sound_after}
use Rattle.su_pieces.proofs.laws.histories_leave_sound_trees.Goals as goal

pub returns : goal.returns
returns c = sound_after
