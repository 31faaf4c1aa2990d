-- The text of a team has no line that is told as wrong, and tells the team.
use Rattle.std.proofs.Common.{◌≡◌, ℕ, List, [], ◌∷◌, ◌++◌, length, drop, refl, sym, ap, subst, ◌∙◌, arith}
use Rattle.std.proofs.lemmas.List.{append_assoc, append-nil, get_or_append_left, length-append}
use Rattle.std.proofs.Math.Seq.{get_or-append_seam}
use Rattle.su_team.specs.declared.faults.TextFault.{TextFault}
use Rattle.su_team.specs.declared.faults.TextFault.TheVariants.{Line, NoMemory}
use Rattle.su_team.specs.Team.{AreUsers, IsTeam, IsUser, team_text, user_line, user_lines}
use Rattle.su_team.specs.WrongLine.{GoesOn, LinesStop}
use Rattle.su_team.proofs.UserLines.{same_lines, some_line}

-- fewer users
are_fewer : (users more : List (List ℕ × List ℕ)) → AreUsers (users ++ more) → AreUsers users
are_fewer users more are =
    let long = length-append users more in
    record {
      few = let few = are.few in omega (arith, few, long);
      known = λ k d below. rw (get_or_append_left users more d k below) at (are.known k d (omega (arith, long)));
      apart = λ i j d order below.
          rw (get_or_append_left users more d i (omega arith), get_or_append_left users more d j below) at (are.apart i j d order (omega (arith, long)));
    }

known_at : (before : List (List ℕ × List ℕ)) (user : List ℕ × List ℕ) (more : List (List ℕ × List ℕ)) → AreUsers (before ++ user ∷ more) → IsUser user
known_at before user more are =
    let long = length-append before (user ∷ more) in
    rw (get_or-append_seam before user more user) at (are.known (length before) user (omega (arith, long)))

-- the lines of a team don't stop where a further user's line could come
never_stops : (users all before : List (List ℕ × List ℕ)) (rest : List ℕ) → user_lines users ++ rest ≡ user_lines all → AreUsers (before ++ users) → AreUsers (before ++ all)
    → (GoesOn (before ++ users) rest → ⊥) → (rest ≡ [] → ⊥) → ⊥
never_stops [] [] before rest e are are_all stuck more = more e
never_stops [] (v ∷ all) before rest e are are_all stuck more =
    stuck (record {
      user = v;
      behind = user_lines all;
      are_users = rw append-nil (are_fewer (before ++ v ∷ []) all (rw (append_assoc before (v ∷ []) all) are_all));
      line = e;
    })
never_stops (u ∷ users) [] before rest e are are_all stuck more =
    some_line u (user_lines users ++ rest) (sym (append_assoc (user_line u) (user_lines users) rest) ∙ e)
never_stops (u ∷ users) (v ∷ all) before rest e are are_all stuck more =
    let same = same_lines u v (user_lines users ++ rest) (user_lines all) (known_at before u users are) (known_at before v all are_all)
    (sym (append_assoc (user_line u) (user_lines users) rest) ∙ e) in
    let moved = append_assoc before (u ∷ []) users in
    let other : (before ++ u ∷ []) ++ all ≡ before ++ v ∷ all = append_assoc before (u ∷ []) all ∙ ap (λ (it : List ℕ × List ℕ). before ++ it ∷ all) same.0 in
    never_stops users all (before ++ u ∷ []) rest same.1 (subst AreUsers (sym moved) are) (subst AreUsers (sym other) are_all)
    (λ on. stuck (subst (λ (it : List (List ℕ × List ℕ)). GoesOn it rest) moved on)) more

pub only_memory : (e : TextFault) (lines : List ℕ) (users : List (List ℕ × List ℕ)) → IsTeam users → lines ≡ user_lines users → LinesStop lines e → e ≡ NoMemory
only_memory (Line n mistake) lines users team is stops =
    absurd (never_stops stops.users users [] stops.rest (sym stops.lines_are ∙ is) stops.are_users team.are_users stops.stuck stops.goes_on)
only_memory NoMemory lines users team is stops = refl

-- a team has a line
pub some_lines : (users : List (List ℕ × List ℕ)) → IsTeam users → user_lines users ≡ [] → ⊥
some_lines [] team e = let some = team.some_user in omega (arith, some)
some_lines (u ∷ users) team e = some_line u (user_lines users) e

-- ---- the text tells the team

same_users : (before xs ys : List (List ℕ × List ℕ)) → AreUsers (before ++ xs) → AreUsers (before ++ ys) → user_lines xs ≡ user_lines ys → xs ≡ ys
same_users before [] [] are_x are_y e = refl
same_users before [] (y ∷ ys) are_x are_y e = absurd (some_line y (user_lines ys) (sym e))
same_users before (x ∷ xs) [] are_x are_y e = absurd (some_line x (user_lines xs) e)
same_users before (x ∷ xs) (y ∷ ys) are_x are_y e =
    let same = same_lines x y (user_lines xs) (user_lines ys) (known_at before x xs are_x) (known_at before y ys are_y) e in
    let other : (before ++ x ∷ []) ++ ys ≡ before ++ y ∷ ys = append_assoc before (x ∷ []) ys ∙ ap (λ (it : List ℕ × List ℕ). before ++ it ∷ ys) same.0 in
    let behind = same_users (before ++ x ∷ []) xs ys (subst AreUsers (sym (append_assoc before (x ∷ []) xs)) are_x) (subst AreUsers (sym other) are_y) same.1 in
    ap (λ (it : List (List ℕ × List ℕ)). x ∷ it) behind ∙ ap (λ (it : List ℕ × List ℕ). it ∷ ys) same.0

pub same_teams : (a b : List (List ℕ × List ℕ)) → IsTeam a → IsTeam b → team_text a ≡ team_text b → a ≡ b
same_teams a b team_a team_b e = same_users [] a b team_a.are_users team_b.are_users (ap (drop 13) e)
