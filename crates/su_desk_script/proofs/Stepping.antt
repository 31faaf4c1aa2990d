-- Steps one after another print the transcript of the whole.
use Rattle.std.proofs.Common.{◌≡◌, ◌∙◌, sym, refl, ap, subst, inl, inr, ℕ, ◌<◌, true, cond, List, [], ◌∷◌, ◌++◌, length, append_assoc, append-nil, nat_lt, Option, Some, None, arith}
use Rattle.std.proofs.lemmas.Bool.Decides.{nat_tests}
use Rattle.su_desk_script.specs.Session.{SessionState}
use Rattle.su_desk_script.specs.declared.desk.Status.{Status}
use Rattle.su_desk_script.specs.declared.desk.Status.TheVariants.{Finished, Fault, BadLine}
use Rattle.su_desk_script.specs.declared.desk.Ending.TheVariants as ending
use Rattle.su_desk_script.specs.declared.desk.Step.{Step}
use Rattle.su_desk_script.specs.declared.desk.Step.TheVariants.{GoesOn, Ends}
use Rattle.su_desk_lines.specs.declared.lines.NextLine.{NextLine}
use Rattle.su_desk_lines.specs.Desk.{line_said, words_said}
use Rattle.su_desk_lines.specs.Script.{lines_of, words_of, longest_line}
use Rattle.su_desk_lines.specs.Lines.{Reads, ReadsOf}
use Rattle.su_desk_script.specs.Transcript.{Transcript, PrintsFrom}
use Rattle.su_desk_script.specs.Answer.{bad_text}
use Rattle.su_desk_script.specs.Step.{Continues, Steps, LineSteps, EndsBadly}

-- what is read of bytes that are known
pub reads_at : (next : NextLine) (known new : Option (List ℕ)) (input : List ℕ) → Reads next known new → known ≡ Some input → ReadsOf next input new
reads_at next None new input r e = absurd (let bad : None ≡ Some input = e in cc)
reads_at next (Some bytes) new input r e = let same : bytes ≡ input = cc in subst (λ xs. ReadsOf next xs new) same r

-- a line that is not empty
pub steps_line : (d : SessionState) (k : ℕ) (input before : List ℕ) (d' : SessionState) (line rest : List ℕ) (known contents : Option (List ℕ)) (t : Step) → lines_of input ≡ line ∷ lines_of rest → known ≡ Some rest → (line ≡ [] → ⊥)
    → LineSteps d k line before d' contents t → Steps d k input before d' known contents t
steps_line d k input before d' [] rest known contents t is left some step = absurd (some refl)
steps_line d k input before d' (b ∷ bs) rest known contents (Ends (ending.Failed fault)) is left some step = tt
steps_line d k input before d' (b ∷ bs) rest known contents (Ends ending.Finished) is left some step = absurd (let bad : Finished ≡ BadLine = step.2 in cc)
steps_line d k input before d' (b ∷ bs) rest known contents (Ends (ending.BadLine n m)) is left some step =
    (bad_text k, step.1, subst (λ ls. Transcript d k ls (bad_text k) BadLine) (sym is) (inl (step.0, refl, refl)))
steps_line d k input before d' (b ∷ bs) rest known contents GoesOn is left some (first, says, written) =
    (first, rest, left, written, λ out status more. subst (λ ls. Transcript d k ls (first ++ out) status) (sym is) (inr (first, out, d', says, refl, more)))

too_long : (line : List ℕ) → longest_line < length line → line_said line ≡ None
too_long line long = let over : nat_lt longest_line (length line) ≡ true = grind (arith, nat_tests) in ap (λ b. cond b None (words_said (words_of line))) over

-- a line that is too long
pub steps_too_long : (d : SessionState) (k : ℕ) (input before line : List ℕ) (lines : List (List ℕ)) (contents : Option (List ℕ)) (status : Status) → lines_of input ≡ line ∷ lines → longest_line < length line
    → EndsBadly k before contents status → PrintsFrom d k input before contents status
steps_too_long d k input before [] lines contents status is long ends = absurd (omega arith)
steps_too_long d k input before (b ∷ bs) lines contents Fault is long ends = tt
steps_too_long d k input before (b ∷ bs) lines contents Finished is long ends = absurd (let bad : Finished ≡ BadLine = ends.1 in cc)
steps_too_long d k input before (b ∷ bs) lines contents BadLine is long ends =
    (bad_text k, ends.0, subst (λ ls. Transcript d k ls (bad_text k) BadLine) (sym is) (inl (too_long (b ∷ bs) long, refl, refl)))

-- ---- runs

pub continues_none : (d : SessionState) (k : ℕ) (input before : List ℕ) (known contents : Option (List ℕ)) → known ≡ Some input → contents ≡ Some before → Continues d k input before d k known contents
continues_none d k input before known contents e w = ([], input, e, w ∙ ap Some (sym (append-nil before)), λ out status t. t)

pub continues_further : (d d1 d2 : SessionState) (k k1 k2 : ℕ) (input before : List ℕ) (known1 contents1 known2 contents2 : Option (List ℕ)) → Continues d k input before d1 k1 known1 contents1
    → ((input1 before1 : List ℕ) → known1 ≡ Some input1 → contents1 ≡ Some before1 → Continues d1 k1 input1 before1 d2 k2 known2 contents2) → Continues d k input before d2 k2 known2 contents2
continues_further d d1 d2 k k1 k2 input before known1 contents1 known2 contents2 (f1, r1, e1, c1, t1) next =
    let (f2, r2, e2, c2, t2) = next r1 (before ++ f1) e1 c1 in
    (f1 ++ f2, r2, e2, c2 ∙ ap Some (append_assoc before f1 f2), λ out status t. subst (λ xs. Transcript d k (lines_of input) xs status) (sym (append_assoc f1 f2 out)) (t1 (f2 ++ out) status (t2 out status t)))

pub continues_end : (d d1 : SessionState) (k k1 : ℕ) (input before : List ℕ) (known1 contents1 contents2 : Option (List ℕ)) (status : Status) → Continues d k input before d1 k1 known1 contents1
    → ((input1 before1 : List ℕ) → known1 ≡ Some input1 → contents1 ≡ Some before1 → PrintsFrom d1 k1 input1 before1 contents2 status) → PrintsFrom d k input before contents2 status
continues_end d d1 k k1 input before known1 contents1 contents2 Fault so_far end = tt
continues_end d d1 k k1 input before known1 contents1 contents2 Finished (f1, r1, e1, c1, t1) end =
    let (out, w, t) = end r1 (before ++ f1) e1 c1 in (f1 ++ out, w ∙ ap Some (append_assoc before f1 out), t1 out Finished t)
continues_end d d1 k k1 input before known1 contents1 contents2 BadLine (f1, r1, e1, c1, t1) end =
    let (out, w, t) = end r1 (before ++ f1) e1 c1 in (f1 ++ out, w ∙ ap Some (append_assoc before f1 out), t1 out BadLine t)
