use Rattle.std.proofs.Common.{◌≢◌, ◌∙◌, ap, sym, subst, IsTrue}
use Rattle.std.specs.Prelude.{None, IsSome}
use Rattle.su_part.specs.Part.{at_number}
use Rattle.std.specs.Option.{option_map}
use Rattle.std.specs.FinMap.{get}
use Rattle.su_tree.specs.Number.{number_bits}
use Rattle.su_part_tree.specs.Part.{reaches}
use Rattle.su_node.specs.Digest.{inode_digest}
use Rattle.su_table.specs.Handle.{user_table}
use Rattle.su_part.proofs.UserLemmas.{small_number, table_value, none_there}
use Rattle.su_part.proofs.users.UserPart.has_inode.Goals as goal

pub returns-in-Some-clause-told : goal.returns-in-Some-clause-told
returns-in-Some-clause-told c u T h has =
    let is = small_number c.number-key.result c.number-key.ensures.range.1 in
    let some : get T.inodes (u, c.args.number) ≢ None = λ none.
    let gone = c.in-Some.ensures (user_table T u) h.table ∙ table_value u c.number-key.result T c.args.self.now.table h.table is
    ∙ ap (λ n. option_map inode_digest (get T.inodes (u, n))) c.number-key.ensures.value ∙ ap (option_map inode_digest) none in
    absurd cc in
    let there = subst (λ n. IsSome (at_number c.args.self.now.inodes.entries n)) (sym c.number-key.ensures.value) (has.there u T h some) in
    sym c.if-contains_key.false ∙ c.contains_key.ensures ∙ there

pub returns-in-None-clause-found : goal.returns-in-None-clause-found
returns-in-None-clause-found c told = record {
  path = subst (λ n. IsTrue (reaches number_bits n c.args.self.now.table)) c.number-key.ensures.value (sym c.reaches.ensures ∙ c.if-not-reaches.false);
  there = λ u T h some.
      let is = small_number c.number-key.result c.number-key.ensures.range.1 in
      let none = none_there (get T.inodes (u, c.number-key.result)) (c.in-None.ensures (user_table T u) h.table ∙ table_value u c.number-key.result T c.args.self.now.table h.table is) in
      absurd (some (ap (λ n. get T.inodes (u, n)) (sym c.number-key.ensures.value) ∙ none));
}
