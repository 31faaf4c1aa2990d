use Rattle.std.proofs.Common.{◌≡◌, ◌∙◌, IsTrue, refl, ap, sym, subst}
use Rattle.std.specs.Prelude.{Ok, Err}
use Rattle.std.specs.FinMap.{get}
use Rattle.std.proofs.lemmas.Result.{err_from_is_err_and}
use Rattle.su_bytes.specs.declared.refusals.Refusal.TheVariants.{NoMemory}
use Rattle.su_tree.specs.Number.{number_bits}
use Rattle.su_part_tree.specs.Part.{reaches}
use Rattle.su_table.specs.Handle.{user_table}
use Rattle.su_part.specs.Part.{StandsAt, at_number}
use Rattle.su_part.proofs.LoadLemmas.{answered, err_is, handed_on, item_got, loads_on, none_got}
use Rattle.su_part.proofs.FetchLemmas.{inode_there, table_loaded}
use Rattle.su_part.proofs.UserLemmas.{IsItemAt, all_on, all_with_path, all_with_inode, small_number, table_value, none_there, read_inode, inserted}
use Rattle.su_part.proofs.users.UserPart.load_inode.Goals as goal

pub returns-in_err-reach-clause-loads : goal.returns-in_err-reach-clause-loads
returns-in_err-reach-clause-loads g c =
    let p = err_from_is_err_and c.from_residual.result c.from_residual.ensures.1 in
    let is : c.reach.result ≡ Err p.0 = cc (c.in_err-reach.was, p.2) in
    handed_on p.0 is p.1 (table_loaded g.S.BlockSource.may_give g.S.BlockSource.failed g.S.BlockSource.follows c.args.self.now c.reach.new.self c.args.source.now c.reach.new.source c.reach.result (record { stands = c.reach.ensures.stands; malformed = c.reach.ensures.malformed; failed = c.reach.ensures.failed; refused = c.reach.ensures.refused; keeps = c.reach.ensures.keeps; no_more = c.reach.ensures.no_more; follows = c.reach.ensures.follows }))

pub returns-then-contains_key-clause-loads : goal.returns-then-contains_key-clause-loads
returns-then-contains_key-clause-loads g c = answered (Ok tt) tt (table_loaded g.S.BlockSource.may_give g.S.BlockSource.failed g.S.BlockSource.follows c.args.self.now c.reach.new.self c.args.source.now c.reach.new.source c.reach.result (record { stands = c.reach.ensures.stands; malformed = c.reach.ensures.malformed; failed = c.reach.ensures.failed; refused = c.reach.ensures.refused; keeps = c.reach.ensures.keeps; no_more = c.reach.ensures.no_more; follows = c.reach.ensures.follows }))

pub returns-in-None-clause-loads : goal.returns-in-None-clause-loads
returns-in-None-clause-loads g c = answered (Ok tt) tt (table_loaded g.S.BlockSource.may_give g.S.BlockSource.failed g.S.BlockSource.follows c.args.self.now c.reach.new.self c.args.source.now c.reach.new.source c.reach.result (record { stands = c.reach.ensures.stands; malformed = c.reach.ensures.malformed; failed = c.reach.ensures.failed; refused = c.reach.ensures.refused; keeps = c.reach.ensures.keeps; no_more = c.reach.ensures.no_more; follows = c.reach.ensures.follows }))

pub returns-in-None-clause-has : goal.returns-in-None-clause-has
returns-in-None-clause-has g c = record {
  path = subst (λ n. IsTrue (reaches number_bits n c.reach.new.self)) c.number-key.ensures.value c.in_ok-reach.ensures.reached;
  there = λ u T h some.
      let is = small_number c.number-key.result c.number-key.ensures.range.1 in
      let none = none_there (get T.inodes (u, c.number-key.result)) (c.in-None.ensures (user_table T u) h.table ∙ table_value u c.number-key.result T c.reach.new.self h.table is) in
      absurd (some (ap (λ n. get T.inodes (u, n)) (sym c.number-key.ensures.value) ∙ none));
}

pub returns-in_err-item-clause-loads : goal.returns-in_err-item-clause-loads
returns-in_err-item-clause-loads g c =
    let p = err_from_is_err_and c.from_residual-in_err-item.result c.from_residual-in_err-item.ensures.1 in
    let is : c.get_inode.result ≡ Err p.0 = cc (c.in_err-item.was, p.2) in
    loads_on all_on g.met.S.BlockSource.follows_on (table_loaded g.S.BlockSource.may_give g.S.BlockSource.failed g.S.BlockSource.follows c.args.self.now c.reach.new.self c.args.source.now c.reach.new.source c.reach.result (record { stands = c.reach.ensures.stands; malformed = c.reach.ensures.malformed; failed = c.reach.ensures.failed; refused = c.reach.ensures.refused; keeps = c.reach.ensures.keeps; no_more = c.reach.ensures.no_more; follows = c.reach.ensures.follows }))
    (none_got (λ y s. IsItemAt y.0 c.number-key.result y.1 s) (record { table = c.reach.new.self; inodes = c.args.self.now.inodes; alloc = c.args.self.now.alloc }) (inode_there c.number-key.result c.in-Some.digest.now (record { table = c.reach.new.self; inodes = c.args.self.now.inodes; alloc = c.args.self.now.alloc }) (small_number c.number-key.result c.number-key.ensures.range.1) c.in-Some.ensures) c.get_inode.ensures p.0 is p.1 (all_with_path (record { table = c.reach.new.self; inodes = c.args.self.now.inodes; alloc = c.args.self.now.alloc }) (record { table = c.reach.new.self; inodes = c.args.self.now.inodes; alloc = c.args.self.now.alloc }) (λ n h. h) refl))

pub returns-in_err-insert-clause-loads : goal.returns-in_err-insert-clause-loads
returns-in_err-insert-clause-loads g c =
    let p = err_from_is_err_and c.from_residual-in_err-insert.result c.from_residual-in_err-insert.ensures.1 in
    loads_on all_on g.met.S.BlockSource.follows_on (table_loaded g.S.BlockSource.may_give g.S.BlockSource.failed g.S.BlockSource.follows c.args.self.now c.reach.new.self c.args.source.now c.reach.new.source c.reach.result (record { stands = c.reach.ensures.stands; malformed = c.reach.ensures.malformed; failed = c.reach.ensures.failed; refused = c.reach.ensures.refused; keeps = c.reach.ensures.keeps; no_more = c.reach.ensures.no_more; follows = c.reach.ensures.follows }))
    (item_got (λ y s. IsItemAt y.0 c.number-key.result y.1 s) (record { table = c.reach.new.self; inodes = c.args.self.now.inodes; alloc = c.args.self.now.alloc }) (inode_there c.number-key.result c.in-Some.digest.now (record { table = c.reach.new.self; inodes = c.args.self.now.inodes; alloc = c.args.self.now.alloc }) (small_number c.number-key.result c.number-key.ensures.range.1) c.in-Some.ensures) c.get_inode.ensures
    (record { table = c.reach.new.self; inodes = c.insert.new.self; alloc = c.args.self.now.alloc }) c.in_ok-item.item c.from_residual-in_err-insert.result c.in_ok-item.was (err_is c.from_residual-in_err-insert.result p.0 (λ e. e ≡ NoMemory) p.1 p.2)
    (all_with_path (record { table = c.reach.new.self; inodes = c.args.self.now.inodes; alloc = c.args.self.now.alloc }) (record { table = c.reach.new.self; inodes = c.insert.new.self; alloc = c.args.self.now.alloc }) (λ n h. h) c.in_err-insert.ensures.err)
    (λ x h i is sp. record { table = h.table; meant = h.meant; inodes = λ k. subst (λ y. StandsAt (at_number y k) (get x.1.inodes (x.0, k))) (sym c.in_err-insert.ensures.err) (h.inodes k) }))

pub returns-clause-loads : goal.returns-clause-loads
returns-clause-loads g c =
    loads_on all_on g.met.S.BlockSource.follows_on (table_loaded g.S.BlockSource.may_give g.S.BlockSource.failed g.S.BlockSource.follows c.args.self.now c.reach.new.self c.args.source.now c.reach.new.source c.reach.result (record { stands = c.reach.ensures.stands; malformed = c.reach.ensures.malformed; failed = c.reach.ensures.failed; refused = c.reach.ensures.refused; keeps = c.reach.ensures.keeps; no_more = c.reach.ensures.no_more; follows = c.reach.ensures.follows }))
    (item_got (λ y s. IsItemAt y.0 c.number-key.result y.1 s) (record { table = c.reach.new.self; inodes = c.args.self.now.inodes; alloc = c.args.self.now.alloc }) (inode_there c.number-key.result c.in-Some.digest.now (record { table = c.reach.new.self; inodes = c.args.self.now.inodes; alloc = c.args.self.now.alloc }) (small_number c.number-key.result c.number-key.ensures.range.1) c.in-Some.ensures) c.get_inode.ensures
    (record { table = c.reach.new.self; inodes = c.insert.new.self; alloc = c.args.self.now.alloc }) c.in_ok-item.item (Ok tt) c.in_ok-item.was tt
    (all_with_inode (record { table = c.reach.new.self; inodes = c.args.self.now.inodes; alloc = c.args.self.now.alloc }) (record { table = c.reach.new.self; inodes = c.insert.new.self; alloc = c.args.self.now.alloc }) c.number-key.result c.of_item.result (λ n h. h) (sym c.contains_key.ensures ∙ c.if-contains_key.false) c.in_ok-insert.ensures.updates.0)
    (λ x h i is sp. record {
      table = h.table;
      meant = h.meant;
      inodes = inserted c.args.self.now.inodes.entries c.insert.new.self.entries c.number-key.result c.of_item.result (λ k. get x.1.inodes (x.0, k)) c.in_ok-insert.ensures.updates.0 h.inodes
          (read_inode x.0 c.number-key.result x.1 i c.in_ok-item.item c.of_item.result is sp c.of_item.ensures);
    }))
