-- Worked examples of the definitions.
use Rattle.std.proofs.Common.{◌≡◌, ℕ, true, false, List, [], ◌∷◌, Some, None, codes, refl, arith}
use Rattle.std.specs.Prelude.{nat_lt, replicate}
use Rattle.std.proofs.lemmas.Bool.{ltb-true}
use Rattle.std.proofs.lemmas.List.Elements.{All-cons, All-nil}
use Rattle.std.proofs.lemmas.List.Sums.{AllPass-from_list_all}
use Rattle.hex.specs.Hex.{encode_with}
use Rattle.su_team.specs.Group.{groups_of}
use Rattle.su_team.specs.Team.{IsKey, IsTeam, IsUser, is_user_name, name_at, team_text}
use Rattle.su_team.specs.Time.{time_at}

-- ann, with 56 bytes 0xab, and bob, with 56 bytes 1
abbrev ann_and_bob : List (List ℕ × List ℕ)
ann_and_bob = (codes "ann", replicate 56 0xab) ∷ (codes "bob", replicate 56 1) ∷ []

their_text : team_text ann_and_bob ≡ codes "sundr team 1\nann abababababababababababababababababababababababababababababababababababababababababababababababababababababababab\nbob 0101010101010101010101010101010101010101010101010101010101010101010101010101010101010101010101010101010101010101\n"
unfolding encode_with
their_text = refl

user_1_is_bob : name_at ann_and_bob 1 ≡ Some (codes "bob")
user_1_is_bob = refl

there_is_no_user_2 : name_at ann_and_bob 2 ≡ None
there_is_no_user_2 = refl

some_key : IsKey (replicate 56 0xab)
some_key = record { size = refl; bytes = λ k d below. ltb-true _ 256 (AllPass-from_list_all (λ b. nat_lt b 256) (replicate 56 0xab) refl k d below) }

-- ann alone is a team
ann_alone : IsTeam ((codes "ann", replicate 56 0xab) ∷ [])
ann_alone = record {
  some_user = omega arith;
  are_users = record {
    few = omega arith;
    known = All-cons IsUser (codes "ann", replicate 56 0xab) [] (record { name = refl; key = some_key }) (All-nil IsUser);
    apart = λ i j d order below. absurd (omega arith);
  };
}

a_name : is_user_name (codes "Ann-2_b.c") ≡ true
a_name = refl

no_name : is_user_name [] ≡ false
no_name = refl

a_name_with_a_space : is_user_name (codes "ann b") ≡ false
a_name_with_a_space = refl

a_name_of_33_letters : is_user_name (codes "abcdefghijklmnopqrstuvwxyzabcdefg") ≡ false
a_name_of_33_letters = refl

eight_groups : groups_of (0 ∷ 1 ∷ 2 ∷ 3 ∷ 4 ∷ 5 ∷ 6 ∷ 7 ∷ 8 ∷ 9 ∷ 10 ∷ 11 ∷ 12 ∷ 13 ∷ 14 ∷ 15 ∷ 0xf0 ∷ 0xf1 ∷ 0xf2 ∷ 0xf3 ∷ 0xf4 ∷ 0xf5 ∷ 0xf6 ∷ 0xf7 ∷ 0xf8 ∷ 0xf9 ∷ 0xfa ∷ 0xfb ∷ 0xfc ∷ 0xfd ∷ 0xfe ∷ 0xff ∷ [])
    ≡ codes "00010203 04050607 08090a0b 0c0d0e0f f0f1f2f3 f4f5f6f7 f8f9fafb fcfdfeff"
unfolding encode_with
eight_groups = refl

-- two commits, taken in the seconds 1 and 258
second_of_commit_2 : time_at (0 ∷ 0 ∷ 0 ∷ 0 ∷ 0 ∷ 0 ∷ 0 ∷ 1 ∷ 0 ∷ 0 ∷ 0 ∷ 0 ∷ 0 ∷ 0 ∷ 1 ∷ 2 ∷ []) 2 ≡ Some 258
second_of_commit_2 = refl

no_commit_0 : time_at (0 ∷ 0 ∷ 0 ∷ 0 ∷ 0 ∷ 0 ∷ 0 ∷ 1 ∷ []) 0 ≡ None
no_commit_0 = refl

half_a_time : time_at (0 ∷ 0 ∷ 0 ∷ 0 ∷ []) 1 ≡ None
half_a_time = refl
