-- What comes behind some text.
use Rattle.std.proofs.Common.{◌≡◌, ℕ, List, [], ◌++◌, Option, Some, None, sym, ap, ◌∙◌, append_assoc, append-nil}
use Rattle.std.specs.Io.KnownBytes.{Appends}
use Rattle.su_client_script.specs.Run.{Adds}

pub appends_none : (a b : Option (List ℕ)) → b ≡ a → Appends a b []
appends_none None b same = tt
appends_none (Some xs) None same = absurd cc
appends_none (Some xs) (Some ys) same = let is : ys ≡ xs = cc in is ∙ sym (append-nil xs)

pub appends_then : (a b c : Option (List ℕ)) (first second : List ℕ) → Appends a b first → Appends b c second → Appends a c (first ++ second)
appends_then None b c first second one two = tt
appends_then (Some xs) None c first second one two = absurd one
appends_then (Some xs) (Some ys) None first second one two = absurd two
appends_then (Some xs) (Some ys) (Some zs) first second one two = two ∙ ap (λ l. l ++ second) one ∙ append_assoc xs first second

pub adds_so : (a b : Option (List ℕ)) (text : List ℕ) → Appends a b text → Adds a b
adds_so None b text is before known = absurd cc
adds_so (Some xs) None text is before known = absurd is
adds_so (Some xs) (Some ys) text is before known = let same : xs ≡ before = cc in (text, ap Some (is ∙ ap (λ l. l ++ text) same))

pub adds_none : (a b : Option (List ℕ)) → b ≡ a → Adds a b
adds_none a b same before is = ([], same ∙ is ∙ ap Some (sym (append-nil before)))

pub adds_then : (a b c : Option (List ℕ)) → Adds a b → Adds b c → Adds a c
adds_then a b c first second before is =
    let (one, mid) = first before is in
    let (two, last) = second (before ++ one) mid in
    (one ++ two, last ∙ ap Some (append_assoc before one two))
