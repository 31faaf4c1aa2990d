use Rattle.std.proofs.Common.{refl, ◌≡◌, ◌∙◌, ◌+◌, ◌-◌, Result, Ok, Err, IfOk, length, ap, arith}
use Rattle.std.proofs.lemmas.Result.{IfOk-weaker}
use Rattle.su_bytes.specs.declared.refusals.Refusal.{Refusal}
use Rattle.su_op.specs.declared.footprints.Footprint.{Footprint}
use Rattle.su_desk.specs.Desk.{DeskState}
use Rattle.su_stored_desk.specs.Joined.{all_read, all_written, live_from}
use Rattle.su_stored_desk.proofs.JoinedLemmas.{cells_joined, few_entries, kept_seen}
use Rattle.su_stored_desk.proofs.desks.Desk.joined.Goals as goal
use Rattle.su_desk.specs.Trial.{tree_of}
use Rattle.su_stored_desk.specs.Right.{state_of}

both : (r : Result Footprint Refusal) (P Q : Footprint → Type 0) → IfOk r P → IfOk r Q → IfOk r (λ f. P f × Q f)
both (Ok f) P Q p q = (p, q)
both (Err e) P Q p q = tt

pub returns-clause-joined : goal.returns-clause-joined
returns-clause-joined g c right =
    let s = c.args.self.now in
    let ks = s.kept in
    let T = tree_of (state_of s) in
    let last = c.len-last.result in
    let first = c.saturating_sub.result in
    IfOk-weaker c.footprint_of.result _ _
    (λ fp p d a f ops each long.
    let cells = cells_joined d a f ops ks T (kept_seen s.roster s.entries.items ks T (state_of s) d a f ops right.keeps refl each) in
    let all = few_entries d a f ops s.entries.items (ap (λ (x : DeskState). x.history) each) in
    let from : first + 1 ≡ length d.history + 1 = omega (arith, c.saturating_sub.ensures, c.len-last.ensures, s.entries.ok.0, all, long) in
    let count : last - first ≡ length ops = omega (arith, c.saturating_sub.ensures, c.len-last.ensures, s.entries.ok.0, all, long) in
    record {
      reads = p.0 ∙ (λ i. all_read (live_from (from i) (count i) ks)) ∙ cells.0;
      writes = p.1 ∙ (λ i. all_written (live_from (from i) (count i) ks)) ∙ cells.1;
    })
    (both c.footprint_of.result _ _ c.footprint_of.ensures.reads c.footprint_of.ensures.writes)
