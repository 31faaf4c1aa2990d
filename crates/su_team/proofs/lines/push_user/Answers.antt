use Rattle.std.proofs.Common.{◌≡◌, ◌≤◌, ◌-◌, Some, ◌+◌, ◌++◌, ◌∷◌, [], List, ℕ, take, drop, length, sym, ap, ◌∙◌, subst, arith}
use Rattle.std.proofs.lemmas.List.{length-map, length-take-le, map-append, take_rest}
use Rattle.std.specs.Prelude.{All, ◌≢◌, option_map}
use Rattle.std.specs.List.{slice_get}
use Rattle.hex.specs.Hex.{encode_lower}
use Rattle.su_team.specs.declared.lines.TeamUser.{TeamUser}
use Rattle.su_team.specs.Team.{name_at}
use Rattle.su_team.specs.TeamUsers.{told, users_of}
use Rattle.su_team.specs.WrongLine.{GoesOn, TakesUser}
use Rattle.su_team.proofs.NextUsers.{name_taken, no_key, takes_next}
use Rattle.su_team.proofs.TeamUserLemmas.{apart_from, name_at-users_of}
use Rattle.su_team.proofs.lines.push_user.Goals as goal

pub returns-in-Some-place_of-clause-wrong : goal.returns-in-Some-place_of-clause-wrong
returns-in-Some-place_of-clause-wrong c =
    let n = c.in-Some.length in
    let left = c.args.left.now in
    let items = c.args.users.now.items in
    let count = length-map items told in
    let len = c.len-line.ensures in
    let same = c.in-Some-place_of._same in
    let at : name_at (users_of items) same ≡ Some (take n left) =
    name_at-users_of items same ∙ ap (λ (it : List TeamUser). option_map (λ u. (told u).0) (slice_get it same)) (sym c.deref.ensures.value) ∙ c.in-Some-place_of.ensures in (
      omega (arith, count, len),
      λ on. name_taken (users_of items) (take n left) (drop (n + 1) left) same c.in-Some.ensures.0 at (subst (GoesOn (users_of items)) c.in-Some.ensures.2 on),
    )

pub returns-in_default-front_key-clause-wrong : goal.returns-in_default-front_key-clause-wrong
returns-in_default-front_key-clause-wrong c =
    let n = c.in-Some.length in
    let left = c.args.left.now in
    let users = users_of c.args.users.now.items in
    let count = length-map c.args.users.now.items told in
    let len = c.len-line.ensures in
    let rest : take (length left - (n + 1)) (drop (n + 1) left) ≡ drop (n + 1) left = take_rest left (n + 1) in (
      omega (arith, count, len),
      λ on. no_key users (take n left) (drop (n + 1) left) c.in-Some.ensures.0 (λ key behind is e. c.in_default-front_key.ensures key behind is (rest ∙ e))
          (subst (GoesOn users) c.in-Some.ensures.2 on),
    )

pub returns-clause-ok : goal.returns-clause-ok
returns-clause-ok c =
    let n = c.in-Some.length in
    let left = c.args.left.now in
    let items = c.args.users.now.items in
    let name = take n left in
    let key = c.in-Some-front_key.key in
    let count = length-map items told in
    let few : length (users_of items) ≤ 63 = let l = c.if-len-from.false in let f = c.from.ensures in let v = c.number.ensures.value in let m = c.len.ensures in omega (arith, l, f, v, m, count) in
    let apart : All (λ u. (told u).0 ≢ name) items = subst (All (λ u. (told u).0 ≢ name)) c.deref.ensures.value c.in_default-place_of.ensures in
    let rest : take (length left - (n + 1)) (drop (n + 1) left) ≡ drop (n + 1) left = take_rest left (n + 1) in
    let rest_is : drop (n + 1) left ≡ encode_lower key ++ 10 ∷ drop 113 (drop (n + 1) left) =
    subst (λ (it : List ℕ). it ≡ encode_lower key ++ 10 ∷ drop 113 it) rest c.in-Some-front_key.ensures.2 in
    let within = c.in-Some.ensures.1 in
    let long : length name ≡ n = length-take-le n left (omega arith) in
    let pushed : users_of c.push.new.self.items ≡ users_of items ++ (name, key) ∷ [] =
    ap users_of c.in_ok-push.ensures.items ∙ map-append told items (record { name = c.in_ok-name.name; key = key } ∷ []) ∙ ap (λ (it : List ℕ). users_of items ++ (it, key) ∷ []) c.in_ok-name.ensures.items in
    subst (λ (it : List (List ℕ × List ℕ)). TakesUser (users_of items) it left (n + 112 + 2)) (sym pushed)
    (takes_next (users_of items) name key left n c.requires few (apart_from items name apart) c.in-Some.ensures.0 c.in-Some-front_key.ensures.0 long c.in-Some.ensures.2 rest_is)
