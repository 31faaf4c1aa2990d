-- The vectors of a chain are as long as the roster has principals.
use Rattle.std.proofs.Common.{◌≡◌, ℕ, List, [], ◌∷◌, ◌++◌, length, refl, sym, ap, ◌∙◌}
use Rattle.std.proofs.lemmas.List.{length-map}
use Rattle.su_bytes.specs.Membership.{Membership}
use Rattle.su_bytes.specs.Principal.{principals}
use Rattle.su_vector.specs.Vector.{zeros}
use Rattle.su_vector.proofs.Public.{length-bump}
use Rattle.su_version.specs.Commit.{Commit}
use Rattle.su_version.specs.Chain.{last_vector, chain_vector, ChainAfter, IsChain}
use Rattle.su_version.proofs.Nexts.{next_counts}

last_vector-push : (v : List ℕ) (cs : List Commit) (c : Commit) → last_vector v (cs ++ c ∷ []) ≡ c.version.vector
last_vector-push v [] c = refl
last_vector-push v (d ∷ cs) c = last_vector-push d.version.vector cs c

longs : (ro : Membership) (before cs : List Commit) → ChainAfter ro before cs → length (chain_vector ro before) ≡ length (principals ro) → length (last_vector (chain_vector ro before) cs) ≡ length (principals ro)
unfolding chain_vector
longs ro before [] chain long = long
longs ro before (c ∷ cs) (next, chain) long =
    let here : length c.version.vector ≡ length (principals ro) = ap length (next_counts ro before c next).vector_is ∙ length-bump ro (chain_vector ro before) c.version.author _ long in
    let pushed : chain_vector ro (before ++ c ∷ []) ≡ c.version.vector = last_vector-push (zeros ro) before c in
    ap (λ v. length (last_vector v cs)) (sym pushed) ∙ longs ro (before ++ c ∷ []) cs chain (ap length pushed ∙ here)

-- the vector of a chain has a number for each principal
pub length-chain_vector : (ro : Membership) (cs : List Commit) → IsChain ro cs → length (chain_vector ro cs) ≡ length (principals ro)
unfolding chain_vector
length-chain_vector ro cs chain = longs ro [] cs chain (length-map (principals ro) (λ p. 0))
