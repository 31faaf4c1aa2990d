-- What keepers hold of which each was told.
use Rattle.std.proofs.Common.{◌≡◌, ◌⊎◌, ◌∙◌, sym, refl, ℕ, zero, suc, ◌+◌, ◌<◌, ◌≤◌, Bool, false, List, [], ◌∷◌, ◌++◌, length, Some, None, inl, inr, arith}
use Rattle.std.specs.Prelude.{slice_get}
use Rattle.std.specs.Global.{Vec}
use Rattle.std.proofs.lemmas.Option.{slice_get_within}
use Rattle.su_keeper.specs.Kept.{KeptRecord}
use Rattle.su_engine_keeper.specs.Keys.{record_key}
use Rattle.su_engine_keeper.specs.Kept.{Keeps}
use Rattle.su_engine_keeper.specs.Machine.{Event, lacks, begun, held_after, leader_after, IsRun, IsTold, KeepsLead, IsAsked}
use Rattle.su_engine_keeper.proofs.MachineLemmas.{one_value, told_before, told_from, parts, lacks_before, leader_adds}

got : {X : Type 0} (xs : List X) (i : ℕ) → i < length xs → (x : X) × (slice_get xs i ≡ Some x)
got [] i within = absurd (omega arith)
got (x ∷ xs) zero within = (x, refl)
got (x ∷ xs) (suc i) within = got xs i (omega arith)

pub one_record : (events : List Event) (run : IsRun events) (halted halted' : Bool) (count count' : ℕ) (found found' : List (Vec ℕ)) (records records' : List KeptRecord)
    → Keeps (IsTold events) halted count found records → Keeps (IsTold events) halted' count' found' records'
    → (i : ℕ) (r r' : KeptRecord) → slice_get records i ≡ Some r → slice_get records' i ≡ Some r' → r.commit ≡ r'.commit
one_record events run halted halted' count count' found found' records records' kept kept' i r r' at at' =
    one_value events (record_key (i + 1)) r.commit r'.commit run (kept.each i r at) (kept'.each i r' at')

-- one of a list is in the other, or the other ends before it
abbrev Ends : List KeptRecord → ℕ → KeptRecord → Type 0
Ends records i r' = (r : KeptRecord) × (slice_get records i ≡ Some r) × (r.commit ≡ r'.commit)

within_or_not : (i n : ℕ) → (i < n) ⊎ (n ≤ i)
within_or_not zero zero = inr (omega arith)
within_or_not zero (suc n) = inl (omega arith)
within_or_not (suc i) zero = inr (omega arith)
within_or_not (suc i) (suc n) = elim (within_or_not i n) [ inl less ↦ inl (omega arith) | inr more ↦ inr (omega arith) ]

module _ (before after : List Event) (ended : ℕ) (run : IsRun (before ++ (lacks (record_key (ended + 1)) ∷ after))) where
  abbrev all : List Event
  all = before ++ (lacks (record_key (ended + 1)) ∷ after)

  had : (has : List ℕ → List ℕ → Type 0) (halted : Bool) (count count' : ℕ) (found found' : List (Vec ℕ)) (records records' : List KeptRecord)
      → ((k v : List ℕ) → has k v → IsTold all k v) → Keeps (IsTold all) false count found records → ended ≤ count → Keeps has halted count' found' records'
      → (i : ℕ) (r' : KeptRecord) → slice_get records' i ≡ Some r'
      → Ends records i r' ⊎ ((r : KeptRecord) × has (record_key (ended + 1)) r.commit)
  had has halted count count' found found' records records' told kept ends kept' i r' at =
      elim (within_or_not i (length records)) [
        | inl less ↦ inl (let it = got records i less in
            (it.0, it.1, one_value all (record_key (i + 1)) it.0.commit r'.commit run (kept.each i it.0 it.1) (told (record_key (i + 1)) r'.commit (kept'.each i r' at))))
        | inr more ↦ inr (let far : i < length records' = slice_get_within records' i r' at in
            let same : count ≡ length records = kept.counted refl in
            let it = got records' ended (omega arith) in
            (it.0, kept'.each ended it.0 it.1))
      ]

  pub begins : (halted : Bool) (count count' : ℕ) (found found' : List (Vec ℕ)) (records records' : List KeptRecord)
      → Keeps (IsTold all) false count found records → ended ≤ count → Keeps (IsTold before) halted count' found' records'
      → (i : ℕ) (r' : KeptRecord) → slice_get records' i ≡ Some r' → Ends records i r'
  begins halted count count' found found' records records' kept ends kept' i r' at =
      elim (had (IsTold before) halted count count' found found' records records' (λ k v told. told_before before (lacks (record_key (ended + 1)) ∷ after) k v told) kept ends kept' i r' at) [
        | inl is ↦ is
        | inr more ↦ absurd (
            let run' = (parts begun before (lacks (record_key (ended + 1)) ∷ after) run).0 in
            let was : held_after before (record_key (ended + 1)) ≡ Some more.0.commit = told_from begun before (record_key (ended + 1)) more.0.commit run' more.1 in
            let none : held_after before (record_key (ended + 1)) ≡ None = lacks_before before after (record_key (ended + 1)) run in
            let bad : None ≡ Some more.0.commit = sym none ∙ was in
            cc)
      ]

  pub nothing_behind : (token : ℕ) → leader_after before ≡ Some token → KeepsLead after
      → (halted : Bool) (count count' : ℕ) (found found' : List (Vec ℕ)) (records records' : List KeptRecord)
      → Keeps (IsTold all) false count found records → ended ≤ count → Keeps (IsTold all) halted count' found' records'
      → (i : ℕ) (r' : KeptRecord) → slice_get records' i ≡ Some r'
      → Ends records i r' ⊎ ((value : List ℕ) × IsAsked token (record_key (ended + 1)) value after)
  nothing_behind token by keeps halted count count' found found' records records' kept ends kept' i r' at =
      elim (had (IsTold all) halted count count' found found' records records' (λ k v told. told) kept ends kept' i r' at) [
        | inl is ↦ inl is
        | inr more ↦ inr (
          more.0.commit,
          leader_adds before after token (record_key (ended + 1)) more.0.commit run by keeps
              (told_from begun all (record_key (ended + 1)) more.0.commit run more.1),
        )
      ]
