-- Commands that do steps, one for each.
use Rattle.std.proofs.Common.{◌≡◌, refl, ℕ, ◌+◌, ◌<◌, ◌≤◌, cond, List, [], ◌∷◌, ◌++◌, map, take, length, get_or, sym, subst, Option, Some, arith}
use Rattle.std.specs.List.{AllZip}
use Rattle.std.proofs.lemmas.List.{append-nil, map_more}
use Rattle.std.proofs.lemmas.Bool.{lt-ltb, le-ltb}
use Rattle.su_draft.specs.declared.commands.Command.{Command}
use Rattle.su_pieces.specs.Put.{Does, Put, Step, Step.Cuts, cut_of, write_of}
use Rattle.su_pieces.proofs.PieceLemmas.{none_of_same}

-- one more of each
pub zip_push : {A B : Type 0} (R : A → B → Type 0) (xs : List A) (ys : List B) (x : A) (y : B) → AllZip R xs ys → R x y → AllZip R (xs ++ x ∷ []) (ys ++ y ∷ [])
zip_push R [] [] x y all one = (one, tt)
zip_push R [] (w ∷ ys) x y all one = absurd all
zip_push R (v ∷ xs) [] x y all one = absurd all
zip_push R (v ∷ xs) (w ∷ ys) x y (here, rest) one = (here, zip_push R xs ys x y rest one)

-- one element more
pub zip_more : {X A B : Type 0} (R : A → B → Type 0) (f : X → A) (xs : List X) (i : ℕ) (d : X) (ys : List B) (y : B) → i < length xs
    → AllZip R (map f (take i xs)) ys → R (f (get_or xs i d)) y → AllZip R (map f (take (i + 1) xs)) (ys ++ y ∷ [])
zip_more R f xs i d ys y lt all one = subst (λ rs. AllZip R rs (ys ++ y ∷ [])) (sym (map_more f xs i d lt)) (zip_push R (map f (take i xs)) ys (f (get_or xs i d)) y all one)

-- a cut where the new contents are shorter
pub zip_cut : (path old new : List ℕ) (steps : List Step) (commands : List Command) (command : Command) → length new < length old
    → AllZip (Does path) steps commands → Does path (Cuts (length new)) command → AllZip (Does path) (steps ++ cut_of old new) (commands ++ command ∷ [])
zip_cut path old new steps commands command lt all one =
    subst (λ b. AllZip (Does path) (steps ++ cond b (Cuts (length new) ∷ []) []) (commands ++ command ∷ [])) (sym (lt-ltb (length new) (length old) lt))
    (zip_push (Does path) steps commands (Cuts (length new)) command all one)

-- and none where they aren't
pub zip_uncut : (path old new : List ℕ) (steps : List Step) (commands : List Command) → length old ≤ length new
    → AllZip (Does path) steps commands → AllZip (Does path) (steps ++ cut_of old new) commands
zip_uncut path old new steps commands le all =
    subst (λ b. AllZip (Does path) (steps ++ cond b (Cuts (length new) ∷ []) []) commands) (sym (le-ltb (length new) (length old) le))
    (subst (λ ss. AllZip (Does path) ss commands) (sym (append-nil steps)) all)

-- of the contents that stand there already nothing is put
pub put_nothing : (path new : List ℕ) (commands : List Command) → Put path (Some new) new commands → commands ≡ []
put_nothing path new [] put = refl
put_nothing path new (command ∷ commands) put =
    let none : put.pieces ≡ [] = none_of_same new put.pieces put.differing.each in
    let steps : AllZip (Does path) (cut_of new new) (command ∷ commands) =
    subst (λ ps. AllZip (Does path) (map (write_of new) ps ++ cut_of new new) (command ∷ commands)) none put.steps in
    absurd (subst (λ b. AllZip (Does path) (cond b (Cuts (length new) ∷ []) []) (command ∷ commands)) (le-ltb (length new) (length new) (omega arith)) steps)

pub put_same : (path : List ℕ) (old : Option (List ℕ)) (new : List ℕ) (commands : List Command) → Put path old new commands → old ≡ Some new → commands ≡ []
put_same path old new commands put same = put_nothing path new commands (subst (λ o. Put path o new commands) same put)
