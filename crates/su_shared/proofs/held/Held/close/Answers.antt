use Rattle.std.proofs.Common.{rules}
use Rattle.std.proofs.lemmas.List.Sorted.{IsNonDecreasingBy-from_sort_by_key}
use Rattle.su_shared.proofs.Closing.{handed_back}
use Rattle.su_shared.proofs.held.Held.close.Goals as goal

pub returns-clause-err : goal.returns-clause-err
returns-clause-err g c =
    let up = IsNonDecreasingBy-from_sort_by_key (λ s. s.number) _ c.sort_unstable_by_key.ensures.sorted (λ a r q k. search rules) in
    handed_back c.close_in_order.result c.args.self c.args.seats.items c.sort_unstable_by_key.new.self.items c.sort_unstable_by_key.ensures.permutation up c.close_in_order.ensures.err
