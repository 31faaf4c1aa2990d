use Rattle.std.proofs.Common.{refl, sym, subst, ◌∙◌}
use Rattle.su_used_keys.specs.UsedKeys.{HasJust}
use Rattle.su_version.specs.Chain.{chain_head, chain_format, chain_vector, last_leaf}
use Rattle.su_version.proofs.Public.{key_at_first, keys_at_first}
use Rattle.su_chain.proofs.ends.ChainEnd.new.Goals as goal

pub returns-clause-end : goal.returns-clause-end
unfolding chain_head chain_format chain_vector last_leaf
returns-clause-end c = record {
  chain = tt;
  number = refl;
  head = c.digest.ensures;
  format = refl;
  vector = c.in_ok-vector.ensures.value;
  users = c.in_ok-users.ensures.long;
  keys = λ u user. c.in_ok-users.ensures.keys u user ∙ sym (key_at_first c.args.roster.now u);
  leaves = λ u user. c.in_ok-users.ensures.leaves u;
  used = subst (λ keys. HasJust keys c.in_ok-used.used) (sym (keys_at_first c.args.roster.now)) c.in_ok-used.ensures.value;
}
