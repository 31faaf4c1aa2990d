use Rattle.std.proofs.Common.{subst}
use Rattle.su_part.specs.Known.Want.{AnInode}
use Rattle.su_part_forest.specs.Forest.{Stands}
use Rattle.su_part_forest.specs.Known.Want.{OfUser}
use Rattle.su_perform.proofs.PerformLemmas.{goes_edits}
use Rattle.su_perform.proofs.unlink.AcceptedUnlink.remove_file.Goals as goal

pub returns : goal.returns
returns c T h inode pointer =
    let x = c.args.self.now in
    let known = c.remove_pointer.ensures.known T h pointer (OfUser x.place.0 (AnInode x.place.1)) inode in
    subst (Stands c.remove_inode.new.self) (goes_edits T x.unlink.now.file x.place) (c.remove_inode.ensures.stands _ (c.remove_pointer.ensures.stands T h pointer) known)
