-- Lists that hold one commit, or have one head, are one up to it.
use Rattle.std.proofs.Common.{◌≡◌, ℕ, ◌+◌, ◌-◌, List, [], ◌∷◌, ◌++◌, length, take, Some, sym, ap, ◌∙◌, subst, arith}
use Rattle.su_bytes.specs.Membership.{Membership}
use Rattle.su_version.specs.Version.{Version}
use Rattle.su_version.specs.Commit.{Commit}
use Rattle.su_version.proofs.Public.{next_prev}
use Rattle.su_legal.specs.Legal.{Committed, MayJoin}
use Rattle.su_fork.specs.Numbered.{at}
use Rattle.su_fork.specs.Premises.{hashed, NoCollision}
use Rattle.su_fork.specs.Consistency.{SharedBefore, SharedUpTo}
use Rattle.su_fork.proofs.Places.{split, take_at, at_contains}
use Rattle.su_fork.proofs.Heads.{Within, within_front, placed, same_committed, same_head}
use Rattle.su_fork.proofs.Runs.{IsSeen, within_seen, roster_within}

pub front_within : (strings : List (List ℕ)) (xs : List Committed) (n : ℕ) (c : Committed) → Within strings xs → at xs n ≡ Some c → Within strings (take (n - 1) xs)
front_within strings xs n c w e =
    let s = split xs n c e in
    within_front strings (take (n - 1) xs) (c ∷ s.rest) (subst (Within strings) s.whole w)

number_from : (l m n : ℕ) → l + 1 ≡ m → l + 1 ≡ n → m ≡ n
number_from l m n p q = omega arith

pub shared_before : (ro : Membership) (cs : List Committed) → NoCollision (hashed ro cs) → (xs ys : List Committed) → IsSeen ro cs xs → IsSeen ro cs ys → SharedBefore xs ys
shared_before ro cs apart xs ys hx hy m n c d ec ed is =
    let a = placed ro xs m c hx.legal ec in
    let b = placed ro ys n d hy.legal ed in
    let before = same_head (hashed ro cs) ro apart (roster_within ro cs)
    (take (m - 1) xs) a.legal (front_within (hashed ro cs) xs m c (within_seen ro cs xs hx) ec) (take (n - 1) ys) b.legal (front_within (hashed ro cs) ys n d (within_seen ro cs ys hy) ed)
    (sym (next_prev ro _ c.commit a.joins.next) ∙ ap (λ (x : Version). x.prev) is ∙ next_prev ro _ d.commit b.joins.next) in
    let sm = split xs m c ec in
    let sn = split ys n d ed in
    (number_from (length (take (m - 1) xs)) m n sm.number (ap (λ l. length l + 1) before ∙ sn.number), before)

pub shared : (ro : Membership) (cs : List Committed) → NoCollision (hashed ro cs) → (xs ys : List Committed) → IsSeen ro cs xs → IsSeen ro cs ys → SharedUpTo xs ys
shared ro cs apart xs ys hx hy m n c d ec ed is =
    let a = placed ro xs m c hx.legal ec in
    let b = placed ro ys n d hy.legal ed in
    let before = shared_before ro cs apart xs ys hx hy m n c d ec ed (ap (λ (x : Commit). x.version) is) in
    let both = same_committed (hashed ro cs) ro (take (m - 1) xs) (take (n - 1) ys) c d apart
    ((within_seen ro cs xs hx).changes c (at_contains xs m c ec)) ((within_seen ro cs ys hy).changes d (at_contains ys n d ed)) a.joins b.joins is in
    (before.0, take_at xs m c ec ∙ (λ i. before.1 i ++ both i ∷ []) ∙ sym (take_at ys n d ed))

-- a commit of one list may follow another list only if that is what stands before it in the first
pub one_place : (ro : Membership) (cs : List Committed) → NoCollision (hashed ro cs) → (xs ys : List Committed) → IsSeen ro cs xs → IsSeen ro cs ys → (n : ℕ) (c : Committed) → at xs n ≡ Some c
    → MayJoin ro ys c → ys ≡ take (n - 1) xs
one_place ro cs apart xs ys hx hy n c e f =
    let a = placed ro xs n c hx.legal e in
    same_head (hashed ro cs) ro apart (roster_within ro cs) ys hy.legal (within_seen ro cs ys hy) (take (n - 1) xs) a.legal (front_within (hashed ro cs) xs n c (within_seen ro cs xs hx) e) (sym (next_prev ro _ c.commit f.next) ∙ next_prev ro _ c.commit a.joins.next)
