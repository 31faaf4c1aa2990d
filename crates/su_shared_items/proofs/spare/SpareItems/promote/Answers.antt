use Rattle.std.specs.Str.{bytes_eq}
use Rattle.su_shared_items.proofs.Counting.{counted-promoted}
use Rattle.su_shared_items.proofs.spare.SpareItems.promote.Goals as goal

pub invariant_of-self : goal.invariant_of-self
invariant_of-self c =
    (rw (c.promote.ensures.entries, c.as_bytes.ensures) (counted-promoted (bytes_eq c.args.digest.now) c.self.inside.items.entries c.self.inside.taken c.self.inside.room c.self.invariant.0), rw c.promote.ensures.entries c.self.invariant.1)
