use Rattle.std.proofs.Common.{None, sym, subst}
use Rattle.su_node.specs.InodeChange.InodeChange.{Named}
use Rattle.su_op.specs.Footprint.{edits_areas}
use Rattle.su_part.specs.Known.Want.{AnInode}
use Rattle.su_part.specs.declared.fetches.Wanted.TheVariants.{Nothing}
use Rattle.su_part_forest.specs.Forest.{Stands}
use Rattle.su_part_forest.specs.Known.Want.{OfUser}
use Rattle.su_part_forest.proofs.EditLifting.{small_inum}
use Rattle.su_table.specs.Edit.{Edit.Inodes, edit, edits}
use Rattle.su_perform.specs.Loaded.{HasAreas}
use Rattle.su_perform.proofs.PerformLemmas.{few_links, goes_known, knows_named, knows_open, last_link, pointer_stays}
use Rattle.su_perform.proofs.unlink.AcceptedUnlink.perform.Goals as goal

pub returns-then-self-ge2 : goal.returns-then-self-ge2
returns-then-self-ge2 c = record {
  stands = λ T h has.
      let x = c.args.self.now in
      let f = c.args.forest.now in
      let small = small_inum c.number-directory.result x.directory.1 c.number-directory.ensures.range.1 c.number-directory.ensures.value in
      let small_place = small_inum c.number-place.result x.place.1 c.number-place.ensures.range.1 c.number-place.ensures.value in
      let name = knows_named f T h x.directory x.unlink.now.name small c.byte_count-bytes.ensures.key has.0 in
      let few = few_links x.links x.unlink.now.file x.place c.if-self-ge2.true in
      let areas = subst (λ es. HasAreas T f (edits_areas es)) few has.1 in
      let known = c.remove_name.ensures.known T h name (OfUser x.place.0 (AnInode x.place.1)) (knows_open f T h x.place Nothing small_place areas.0) in
      subst (λ es. Stands c.set_links.new.self (edits (edit T (Inodes x.directory (Named x.unlink.now.name None))) es)) (sym few) (c.set_links.ensures.stands _ (c.remove_name.ensures.stands T h name) known);
}

pub returns-else-self-ge2 : goal.returns-else-self-ge2
returns-else-self-ge2 c = record {
  stands = λ T h has.
      let x = c.args.self.now in
      let f = c.args.forest.now in
      let small = small_inum c.number-directory.result x.directory.1 c.number-directory.ensures.range.1 c.number-directory.ensures.value in
      let small_place = small_inum c.number-place.result x.place.1 c.number-place.ensures.range.1 c.number-place.ensures.value in
      let name = knows_named f T h x.directory x.unlink.now.name small c.byte_count-bytes.ensures.key has.0 in
      let last = last_link x.links x.unlink.now.file x.place c.if-self-ge2.false in
      let goes = goes_known f T h x.unlink.now.file x.place small_place (subst (λ es. HasAreas T f (edits_areas es)) last has.1) in
      let known = c.remove_name.ensures.known T h name in
      let V = edit T (Inodes x.directory (Named x.unlink.now.name None)) in
      subst (λ es. Stands c.remove_file.new.forest (edits V es)) (sym last)
      (c.remove_file.ensures V (c.remove_name.ensures.stands T h name) (known (OfUser x.place.0 (AnInode x.place.1)) goes.1) (pointer_stays f c.remove_name.new.self T V known x.unlink.now.file goes.0));
}
