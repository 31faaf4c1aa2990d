-- What was asked of a client's view, seen as what was asked of the client.
use Rattle.std.proofs.Common.{◌≡◌, List, [], ◌∷◌, map, subst, ap, sym, ◌∙◌}
use Rattle.std.specs.List.{AllByRecursion}
use Rattle.su_bytes.specs.Membership.{Membership}
use Rattle.su_view.specs.Holding.{HoldingState}
use Rattle.su_client_work.specs.Member.{MemberState, Question, MixesNone, IsClear, OnlyAsks, Stays}

-- nothing was mixed up as the view has it, and as the client has it
pub clear_from : {A : Type 0} (ro : Membership) (f : A → Question) (xs : List A) → AllByRecursion (λ a. MixesNone ro (f a)) xs → AllByRecursion (MixesNone ro) (map f xs)
clear_from ro f [] all = tt
clear_from ro f (x ∷ xs) (here, rest) = (here, clear_from ro f xs rest)

pub clear_to : {A : Type 0} (ro : Membership) (f : A → Question) (xs : List A) → AllByRecursion (MixesNone ro) (map f xs) → AllByRecursion (λ a. MixesNone ro (f a)) xs
clear_to ro f [] all = tt
clear_to ro f (x ∷ xs) (here, rest) = (here, clear_to ro f xs rest)

-- the client's, where this is what its view has
pub clear_held : {A : Type 0} (f : A → Question) (s : MemberState) (v : HoldingState) (xs : List A) → v ≡ s.holding → map f xs ≡ s.asked
    → AllByRecursion (λ a. MixesNone v.roster (f a)) xs → IsClear s
clear_held f s v xs holding asked clear =
    subst (λ (w : HoldingState). AllByRecursion (MixesNone w.roster) s.asked) holding
    (subst (λ (l : List Question). AllByRecursion (MixesNone v.roster) l) asked (clear_from v.roster f xs clear))

-- where nothing was mixed up behind what the view was asked, nothing was before
pub clear_back : {A : Type 0} (f : A → Question) (s : MemberState) (v : HoldingState) (ro : Membership) (xs ys : List A) → v ≡ s.holding → map f xs ≡ s.asked
    → (AllByRecursion (λ a. MixesNone ro (f a)) ys → AllByRecursion (λ a. MixesNone v.roster (f a)) xs) → AllByRecursion (MixesNone ro) (map f ys) → IsClear s
clear_back f s v ro xs ys holding asked back clear = clear_held f s v xs holding asked (back (clear_to ro f ys clear))

-- ---- what stays

pub clear_same : (s t : MemberState) → t.holding ≡ s.holding → t.asked ≡ s.asked → IsClear t → IsClear s
clear_same s t holding asked clear =
    subst (λ (w : HoldingState). AllByRecursion (MixesNone w.roster) s.asked) holding (subst (λ (l : List Question). AllByRecursion (MixesNone t.holding.roster) l) asked clear)

pub asks_stays : (s t : MemberState) → Stays s t → OnlyAsks s t
asks_stays s t p = record { holding = p.holding; clear = clear_same s t p.holding p.asked; signed = p.signed; next = p.next }

pub asks_then : (s t u : MemberState) → OnlyAsks s t → OnlyAsks t u → OnlyAsks s u
asks_then s t u p q = record { holding = q.holding ∙ p.holding; clear = λ clear. p.clear (q.clear clear); signed = q.signed ∙ p.signed; next = q.next ∙ p.next }
