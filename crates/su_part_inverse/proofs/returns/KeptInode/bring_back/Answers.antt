use Rattle.std.specs.FinMap.{get}
use Rattle.su_part.specs.declared.fetches.Wanted.TheVariants.{Nothing}
use Rattle.su_part_inverse.specs.Steps.{or_new}
use Rattle.su_part_inverse.proofs.Final.{held_parts}
use Rattle.su_part_inverse.proofs.Reading.{open_has}
use Rattle.su_part_inverse.proofs.returns.KeptInode.bring_back.Goals as goal

pub returns-clause-ok : goal.returns-clause-ok
returns-clause-ok c F T h held =
    let i = or_new (get T.inodes c.args.self.now.place) in
    let (stands, meant) = held_parts T c.args.self.now held in
    c.exchange_inode.ensures.ok F i h (c.in_ok-copy.ensures.stands i stands) meant

pub returns-clause-known : goal.returns-clause-known
returns-clause-known c F T h held =
    let i = or_new (get T.inodes c.args.self.now.place) in
    let (stands, meant) = held_parts T c.args.self.now held in
    c.exchange_inode.ensures.known F i h (c.in_ok-copy.ensures.stands i stands) meant

pub returns-clause-added : goal.returns-clause-added
returns-clause-added c F T h held =
    let i = or_new (get T.inodes c.args.self.now.place) in
    let (stands, meant) = held_parts T c.args.self.now held in
    c.exchange_inode.ensures.added F i h (c.in_ok-copy.ensures.stands i stands) meant

pub returns-clause-loaded : goal.returns-clause-loaded
returns-clause-loaded c F h has = c.exchange_inode.ensures.loaded F h (open_has c.args.forest.now F h c.args.self.now.place Nothing has)
