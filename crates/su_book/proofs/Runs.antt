-- One more step at the end of a run.
use Rattle.std.proofs.Common.{◌≡◌, ℕ, ◌≤◌, ◌<◌, List, [], ◌∷◌, ◌++◌, length, Option, None, refl, ap, sym, ◌∙◌, subst, arith, append_assoc, append-nil, length-append}
use Rattle.su_bytes.specs.Membership.{Membership}
use Rattle.su_bytes.specs.Order.{Line, demand}
use Rattle.su_bytes.specs.declared.refusals.Refusal.{Refusal}
use Rattle.su_bytes.specs.declared.refusals.Refusal.TheVariants.{BookFull}
use Rattle.su_bytes.proofs.Public.{passes_first, passes_later}
use Rattle.su_version.specs.Commit.{Commit}
use Rattle.su_version.specs.Chain.{tip, next_order, MayBeNext, ChainAfter, IsChain}
use Rattle.su_chain.proofs.Public.{chain_further}
use Rattle.su_book.specs.declared.steps.Act.{Act}
use Rattle.su_book.specs.declared.steps.Act.TheVariants.{Granted, Stored, Given}
use Rattle.su_book.specs.declared.steps.Step.{Step}
use Rattle.su_book.specs.Machine.{BookState, MayBeStored, turn_after, holder_from, holder_of, stored_by, records_of, count_of, MayAct, MayFollow, with_step, RunsFrom, IsRun}
use Rattle.su_book.specs.Kept.{StoresNext}

-- the same with these steps more
abbrev pub with_steps : BookState → List Step → BookState
with_steps b steps = record b { journal = b.journal ++ steps }

one_and_more : (b : BookState) (s : Step) (steps : List Step) → with_steps (with_step b s) steps ≡ with_steps b (s ∷ steps)
one_and_more b s steps = ap (λ (l : List Step). record b { journal = l }) (append_assoc b.journal (s ∷ []) steps)

none_more : (b : BookState) → with_steps b [] ≡ b
none_more b = ap (λ (l : List Step). record b { journal = l }) (append-nil b.journal)

runs_further : (b : BookState) (steps : List Step) (s : Step) → RunsFrom b steps → MayFollow (with_steps b steps) s → RunsFrom b (steps ++ s ∷ [])
runs_further b [] s runs may = (subst (λ v. MayFollow v s) (none_more b) may, tt)
runs_further b (x ∷ xs) s runs may =
    (runs.0, runs_further (with_step b x) xs s runs.1 (subst (λ v. MayFollow v s) (sym (one_and_more b x xs)) may))

pub run_push : (b : BookState) (s : Step) → IsRun b → MayFollow b s → IsRun (with_step b s)
run_push b s run may = runs_further (record b { journal = [] }) b.journal s run may

pub records_push : (steps : List Step) (s : Step) → records_of (steps ++ s ∷ []) ≡ records_of steps ++ stored_by s.act
records_push [] s = append-nil (stored_by s.act)
records_push (x ∷ xs) s =
    ap (λ l. stored_by x.act ++ l) (records_push xs s) ∙ sym (append_assoc (stored_by x.act) (records_of xs) (stored_by s.act))

holder_further : (h : Option ℕ) (steps : List Step) (s : Step) → holder_from h (steps ++ s ∷ []) ≡ turn_after s.seat s.act
holder_further h [] s = refl
holder_further h (x ∷ xs) s = holder_further (turn_after x.seat x.act) xs s

pub holder_push : (steps : List Step) (s : Step) → holder_of (steps ++ s ∷ []) ≡ turn_after s.seat s.act
holder_push steps s = holder_further None steps s

-- what the next commit after the records of a book has to meet
abbrev next_of : BookState → Commit → List (Line Refusal)
next_of b c = next_order b.roster (tip b.roster (records_of b.journal) c.version.author) c

-- what may be stored may be next, and has room
pub stored_next : (b : BookState) (seat n : ℕ) (c : Commit) → MayBeStored b seat n c → MayBeNext b.roster (records_of b.journal) c
stored_next b seat n c may = record { spelled = may.spelled; follows = passes_first (next_of b c) (demand (count_of b.journal < b.capacity) BookFull ∷ []) may.fits }

pub stored_room : (b : BookState) (seat n : ℕ) (c : Commit) → MayBeStored b seat n c → count_of b.journal < b.capacity
stored_room b seat n c may = (passes_later (next_of b c) (demand (count_of b.journal < b.capacity) BookFull ∷ []) may.fits).0

pub stores_next : (b : BookState) (seat : ℕ) (act : Act) → MayAct b seat act → StoresNext b.roster (records_of b.journal) act
stores_next b seat (Granted n) may = tt
stores_next b seat (Stored n c) may = (stored_next b seat n c may, may.number)
stores_next b seat Given may = tt

-- an act that leaves the turn with its seat stores nothing
pub stores_nothing : (seat : ℕ) (act : Act) → (turn_after seat act ≡ None → ⊥) → stored_by act ≡ []
stores_nothing seat (Granted n) some = refl
stores_nothing seat (Stored n c) some = absurd (some refl)
stores_nothing seat Given some = absurd (some refl)

-- the records with what is stored are within the capacity
pub within_further : (b : BookState) (seat : ℕ) (act : Act) → MayAct b seat act → count_of b.journal ≤ b.capacity
    → length (records_of b.journal ++ stored_by act) ≤ b.capacity
within_further b seat (Granted n) may le = omega (arith, length-append (records_of b.journal) [])
within_further b seat (Stored n c) may le = omega (arith, length-append (records_of b.journal) (c ∷ []), stored_room b seat n c may)
within_further b seat Given may le = omega (arith, length-append (records_of b.journal) [])

along_from : (P : BookState → Type 0) → ((b : BookState) (s : Step) → P b → MayFollow b s → P (with_step b s))
    → (b : BookState) (steps : List Step) → P b → RunsFrom b steps → P (with_steps b steps)
along_from P more b [] here runs = subst P (sym (none_more b)) here
along_from P more b (s ∷ ss) here runs =
    subst P (one_and_more b s ss) (along_from P more (with_step b s) ss (more b s here runs.0) runs.1)

-- What holds of the empty journal, and with one step more where it holds, holds of each run.
pub along : (P : BookState → Type 0) → ((b : BookState) (s : Step) → P b → MayFollow b s → P (with_step b s))
    → (b : BookState) → P (record b { journal = [] }) → IsRun b → P b
along P more b here run = along_from P more (record b { journal = [] }) b.journal here run

-- ---- what holds of each run

chain_stored : (ro : Membership) (cs : List Commit) (act : Act) → IsChain ro cs → StoresNext ro cs act → IsChain ro (cs ++ stored_by act)
chain_stored ro cs (Granted n) chain next = subst (IsChain ro) (sym (append-nil cs)) chain
chain_stored ro cs (Stored n c) chain next = chain_further ro cs c chain next.0
chain_stored ro cs Given chain next = subst (IsChain ro) (sym (append-nil cs)) chain

-- the records of a run are a chain
pub chain_of : (b : BookState) → IsRun b → IsChain b.roster (records_of b.journal)
chain_of b run =
    along (λ v. IsChain v.roster (records_of v.journal))
    (λ v s chain may. subst (IsChain v.roster) (sym (records_push v.journal s)) (chain_stored v.roster (records_of v.journal) s.act chain (stores_next v s.seat s.act may)))
    b tt run

-- each commit of a chain may be next after those before it
pub chain_at : (ro : Membership) (front before after : List Commit) (c : Commit) → ChainAfter ro front (before ++ c ∷ after) → MayBeNext ro (front ++ before) c
chain_at ro front [] after c chain = subst (λ l. MayBeNext ro l c) (sym (append-nil front)) chain.0
chain_at ro front (x ∷ xs) after c chain =
    subst (λ l. MayBeNext ro l c) (append_assoc front (x ∷ []) xs) (chain_at ro (front ++ x ∷ []) xs after c chain.1)

-- a run has no more records than the book may store
pub within : (b : BookState) → IsRun b → count_of b.journal ≤ b.capacity
within b run =
    along (λ v. count_of v.journal ≤ v.capacity)
    (λ v s le may. subst (λ (l : List Commit). length l ≤ v.capacity) (sym (records_push v.journal s)) (within_further v s.seat s.act may le))
    b (omega arith) run
