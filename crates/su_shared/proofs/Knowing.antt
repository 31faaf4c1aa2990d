-- A note that takes the place of another of its cell.
use Rattle.std.proofs.Common.{◌≡◌, ◌≢◌, ℕ, ◌+◌, ◌-◌, ◌<◌, List, [], ◌∷◌, ◌++◌, take, replicate, length, Option, Some, None, get_or, refl, ap, sym, ◌∙◌, subst, arith, inl, inr, slice_get, IfSome, get_or-set_same, get_or-set_other}
use Rattle.std.proofs.Math.ListN.{set}
use Rattle.std.proofs.Math.Seq.{map-set_same}
use Rattle.std.proofs.lemmas.List.{map-set, get_or-map, length-map, map-append, take_more, replicate-append-replicate}
use Rattle.std.proofs.lemmas.Bool.{cases_eq}
use Rattle.std.proofs.lemmas.Bool.Decides.{nat_tests}
use Rattle.std.proofs.lemmas.Grind.{get_or-set_at}
use Rattle.std.proofs.lemmas.Option.{none-some, get_or_from_slice_get, slice_get_within}
use Rattle.once_cell.specs.declared.race.note.Note.{Note}
use Rattle.su_shared.specs.Entry.{Entry}
use Rattle.su_shared.specs.Seats.{AreNotes, names_of, known_of, known_at, Learns}

pub known_at_is : (known : List (Option Entry)) (n : ℕ) → 0 < n → known_at known n ≡ get_or known (n - 1) None
known_at_is known n first = grind (arith, nat_tests)

-- what holds of whatever it may be holds of what it is, and the other way round
pub some_is : (o : Option Entry) (r : Entry) {n : ℕ} → o ≡ Some r → IfSome o (λ x. x.number ≡ n) → r.number ≡ n
some_is o r {n} is some = subst (λ k. IfSome k (λ (x : Entry). x.number ≡ n)) is some

pub if_some : (o : Option Entry) (n : ℕ) → ((r : Entry) → o ≡ Some r → r.number ≡ n) → IfSome o (λ x. x.number ≡ n)
if_some None n all = tt
if_some (Some r) n all = all r refl

pub notes_put : (cells : List ℕ) (notes : List (Note Entry)) (i : ℕ) (n : Note Entry) → AreNotes cells notes → slice_get cells i ≡ Some n.cell → IfSome n.known (λ r. r.number ≡ i + 1) → AreNotes cells (set notes i n)
notes_put cells notes i n are stands number =
    let within : i < length notes =
    let w = slice_get_within cells i n.cell stands in omega (arith, ap length are.named, length-map notes (λ (m : Note Entry). m.cell)) in
    let same : n.cell ≡ (get_or notes i n).cell =
    sym (get_or_from_slice_get cells i n.cell n.cell stands) ∙ (ap (λ (l : List ℕ). get_or l i n.cell) (sym are.named) ∙ get_or-map (λ (m : Note Entry). m.cell) notes i n n.cell within) in
    record {
      named = map-set_same (λ (m : Note Entry). m.cell) notes i n n same ∙ are.named;
      numbered = λ k r is.
          let at : get_or (set (known_of notes) i n.known) k None ≡ Some r = subst (λ (l : List (Option Entry)). get_or l k None ≡ Some r) (map-set (λ (m : Note Entry). m.known) notes i n) is in
          elim (cases_eq k i) [
            | inl e ↦ some_is n.known r (sym (get_or-set_at (known_of notes) i k n.known None e (simp length-map within)) ∙ at) number ∙ ap (λ (m : ℕ). m + 1) (sym e)
            | inr ne ↦ are.numbered k r (sym (get_or-set_other (known_of notes) i k n.known None ne) ∙ at)
          ];
    }

pub names_push : (ys : List ℕ) (i : ℕ) (ns : List (Note Entry)) (n : Note Entry) → names_of ns ≡ take i ys → i < length ys → n.cell ≡ get_or ys i 0 → names_of (ns ++ n ∷ []) ≡ take (i + 1) ys
names_push ys i ns n is lt at =
    map-append (λ (m : Note Entry). m.cell) ns (n ∷ [])
    ∙ (ap (λ (l : List ℕ). l ++ n.cell ∷ []) is ∙ (ap (λ (c : ℕ). take i ys ++ c ∷ []) at ∙ sym (take_more ys i 0 lt)))

pub known_push : (i : ℕ) (ns : List (Note Entry)) (n : Note Entry) → known_of ns ≡ replicate i None → n.known ≡ None → known_of (ns ++ n ∷ []) ≡ replicate (i + 1) None
known_push i ns n is at =
    map-append (λ (m : Note Entry). m.known) ns (n ∷ [])
    ∙ (ap (λ (l : List (Option Entry)). l ++ n.known ∷ []) is ∙ (ap (λ (k : Option Entry). replicate i None ++ k ∷ []) at ∙ replicate-append-replicate i 1 None))

pub learns_set : (known : List (Option Entry)) (n : ℕ) (r : Entry) → 0 < n → n - 1 < length known → r.number ≡ n → IfSome (known_at known n) (λ x. x ≡ r) → Learns known r (set known (n - 1) (Some r))
learns_set known n r first within number agrees =
    record {
      knows = ap (known_at (set known (n - 1) (Some r))) number ∙ (known_at_is (set known (n - 1) (Some r)) n first ∙ get_or-set_same known (n - 1) (Some r) None within);
      keeps = λ m x is. elim (cases_eq m 0) [
        | inl zero ↦ absurd (none-some x (sym (ap (known_at known) zero) ∙ is))
        | inr some ↦ elim (cases_eq m n) [
          | inl same ↦
              let e : x ≡ r = subst (λ (o : Option Entry). IfSome o (λ y. y ≡ r)) (ap (known_at known) (sym same) ∙ is) agrees in
              ap (known_at (set known (n - 1) (Some r))) same ∙ (known_at_is (set known (n - 1) (Some r)) n first ∙ (get_or-set_same known (n - 1) (Some r) None within ∙ ap (λ (y : Entry). Some y) (sym e)))
          | inr apart ↦
              let ne : m - 1 ≢ n - 1 = λ e. some (omega (arith, apart)) in
              let more : 0 < m = omega (arith, some) in
              known_at_is (set known (n - 1) (Some r)) m more ∙ (get_or-set_other known (n - 1) (m - 1) (Some r) None ne ∙ (sym (known_at_is known m more) ∙ is))
        ]
      ];
    }
