use Rattle.su_host.proofs.stores.FolderShelfStoreVolumeDiskFile.make.Goals as goal

pub returns : goal.returns
returns c = record {
  empty = c.over.ensures.fresh c.in_ok-file.ensures.fresh;
  shown = c.over.ensures.shown c.in_ok-file.ensures.fresh;
}
