-- How commits follow one another: groups of a roster, and leaves of a chain.
use Rattle.std.proofs.Common.{◌≡◌, ℕ, true, List, [], ◌∷◌, ◌++◌, map, refl, sym, ap, ◌∙◌}
use Rattle.std.specs.List.{list_any, AllByRecursion}
use Rattle.su_bytes.specs.Membership.{Membership, has_number}
use Rattle.su_bytes.specs.Principal.{principals, user_principal, group_principal}
use Rattle.su_bytes.specs.declared.principals.Principal.{Principal}
use Rattle.su_bytes.proofs.Public.{list_any-map}
use Rattle.su_vector.specs.Vector.{bump, numbers_after}
use Rattle.su_version.specs.Commit.{Commit}
use Rattle.su_version.specs.Chain.{is_that_group, CountsOn}

behind_users : (g : ℕ) (us : List (ℕ × List ℕ)) (ps : List Principal) → list_any (is_that_group g) (map user_principal us ++ ps) ≡ list_any (is_that_group g) ps
behind_users g [] ps = refl
behind_users g (u ∷ us) ps = behind_users g us ps

-- a group is among the principals where it is in the roster
pub group_listed : (ro : Membership) (g : ℕ) → list_any (is_that_group g) (principals ro) ≡ has_number ro.groups g
group_listed ro g = behind_users g ro.users (map group_principal ro.groups) ∙ list_any-map (is_that_group g) group_principal ro.groups

-- what holds of each in one word holds in another
pub all_so : {A : Type 0} {P Q : A → Type 0} → ((a : A) → P a → Q a) → (xs : List A) → AllByRecursion P xs → AllByRecursion Q xs
all_so f [] all = tt
all_so f (x ∷ xs) (here, others) = (f x here, all_so f xs others)

-- ---- what counts on, by the principals

module _ (ro : Membership) (before : List ℕ) (c : Commit) (ps : List Principal) (are : ps ≡ principals ro) where
  pub counts_from : AllByRecursion (λ g. list_any (is_that_group g.0) ps ≡ true) c.version.groups → c.version.vector ≡ numbers_after ps before c.version.author (map (λ g. g.0) c.version.groups) → CountsOn ro before c
  unfolding bump
  counts_from known after = record {
    groups = all_so (λ g is. sym (group_listed ro g.0) ∙ ap (list_any (is_that_group g.0)) (sym are) ∙ is) c.version.groups known;
    vector_is = after ∙ ap (λ l. numbers_after l before c.version.author (map (λ g. g.0) c.version.groups)) are;
  }

  pub groups_known : CountsOn ro before c → AllByRecursion (λ g. list_any (is_that_group g.0) ps ≡ true) c.version.groups
  groups_known counts = all_so (λ g is. ap (list_any (is_that_group g.0)) are ∙ group_listed ro g.0 ∙ is) c.version.groups counts.groups

  pub vector_after : CountsOn ro before c → c.version.vector ≡ numbers_after ps before c.version.author (map (λ g. g.0) c.version.groups)
  unfolding bump
  vector_after counts = counts.vector_is ∙ ap (λ l. numbers_after l before c.version.author (map (λ g. g.0) c.version.groups)) (sym are)
