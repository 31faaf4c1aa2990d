-- Legal lists: their fronts are legal, each commit may join those before it; and their heads.
use Rattle.std.proofs.Common.{◌≡◌, ℕ, List, [], ◌∷◌, ◌++◌, refl, sym, subst, append_assoc, append-nil}
use Rattle.su_bytes.specs.Membership.{Membership}
use Rattle.su_bytes.specs.RosterBytes.{roster_digest}
use Rattle.su_version.specs.Commit.{commit_digest}
use Rattle.su_version.specs.Chain.{last_digest, chain_head}
use Rattle.su_legal.specs.Legal.{Committed, commits_of, head_of, MayJoin, LegalAfter, Legal}

pub after_front : (ro : Membership) (before xs ys : List Committed) → LegalAfter ro before (xs ++ ys) → LegalAfter ro before xs
after_front ro before [] ys l = tt
after_front ro before (x ∷ xs) ys (f, l) = (f, after_front ro (before ++ x ∷ []) xs ys l)

pub after_rest : (ro : Membership) (before xs ys : List Committed) → LegalAfter ro before (xs ++ ys) → LegalAfter ro (before ++ xs) ys
after_rest ro before [] ys l = subst (λ b. LegalAfter ro b ys) (sym (append-nil before)) l
after_rest ro before (x ∷ xs) ys (f, l) =
    subst (λ b. LegalAfter ro b ys) (append_assoc before (x ∷ []) xs) (after_rest ro (before ++ x ∷ []) xs ys l)

pub after_both : (ro : Membership) (before xs ys : List Committed)
    → LegalAfter ro before xs → LegalAfter ro (before ++ xs) ys → LegalAfter ro before (xs ++ ys)
after_both ro before [] ys l m = subst (λ b. LegalAfter ro b ys) (append-nil before) m
after_both ro before (x ∷ xs) ys (f, l) m =
    (f, after_both ro (before ++ x ∷ []) xs ys l (subst (λ b. LegalAfter ro b ys) (sym (append_assoc before (x ∷ []) xs)) m))

pub legal_front : (ro : Membership) (xs ys : List Committed) → Legal ro (xs ++ ys) → Legal ro xs
legal_front ro xs ys l = after_front ro [] xs ys l

-- a commit between others may join those before it
pub legal_next : (ro : Membership) (xs ys : List Committed) (c : Committed) → Legal ro (xs ++ c ∷ ys) → MayJoin ro xs c
legal_next ro xs ys c l = (after_rest ro [] xs (c ∷ ys) l).0

pub legal_further : (ro : Membership) (cs : List Committed) (c : Committed) → Legal ro cs → MayJoin ro cs c → Legal ro (cs ++ c ∷ [])
legal_further ro cs c l f = after_both ro [] cs (c ∷ []) l (f, tt)

-- ---- heads

last_digest-append : (d : List ℕ) (xs : List Committed) (c : Committed) → last_digest d (commits_of (xs ++ c ∷ [])) ≡ commit_digest c.commit
last_digest-append d [] c = refl
last_digest-append d (x ∷ xs) c = last_digest-append (commit_digest x.commit) xs c

pub head_none : (ro : Membership) → head_of ro [] ≡ roster_digest ro
unfolding chain_head
head_none ro = refl

pub head_last : (ro : Membership) (xs : List Committed) (c : Committed) → head_of ro (xs ++ c ∷ []) ≡ commit_digest c.commit
unfolding chain_head
head_last ro xs c = last_digest-append (roster_digest ro) xs c
