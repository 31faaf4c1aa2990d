-- The keys that the changes of a legal list name are those of its version structures.
use Rattle.std.proofs.Common.{◌≡◌, List, [], ◌∷◌, ◌++◌, sym, ap, refl}
use Rattle.std.specs.Prelude.{option_to_list}
use Rattle.su_bytes.specs.Membership.{Membership}
use Rattle.su_bytes.specs.Keys.{roster_keys}
use Rattle.su_desk.specs.History.{named_keys, keys_after}
use Rattle.su_version.specs.Chain.{next_keys, chain_keys}
use Rattle.su_legal.specs.Legal.{Committed, commits_of, history, LegalAfter, Legal}

named_so : (ro : Membership) (before cs : List Committed) → LegalAfter ro before cs → named_keys (history cs) ≡ next_keys (commits_of cs)
named_so ro before [] legal = refl
named_so ro before (c ∷ cs) (may, legal) = λ i.
    option_to_list (sym may.fits.next_key_is i) ++ named_so ro (before ++ c ∷ []) cs legal i

-- the keys that users have or had after a legal list, as a desk and as a chain counts them
pub keys_told : (ro : Membership) (cs : List Committed) → Legal ro cs → keys_after ro (history cs) ≡ chain_keys ro (commits_of cs)
unfolding chain_keys
keys_told ro cs legal = ap (λ keys. roster_keys ro ++ keys) (named_so ro [] cs legal)
