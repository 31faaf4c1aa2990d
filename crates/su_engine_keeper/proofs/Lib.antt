mod Examples
mod KeeperLemmas
mod KeptLemmas
mod MachineLemmas
