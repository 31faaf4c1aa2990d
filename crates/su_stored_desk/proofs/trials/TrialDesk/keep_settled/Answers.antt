use Rattle.std.proofs.Common.{◌≡◌, ℕ, None, List, Result, Ok, Err, refl, sym, ap, subst, true}
use Rattle.std.specs.Prelude.{IfOk}
use Rattle.std.proofs.lemmas.Result.{IfErr-weaker}
use Rattle.su_bytes.specs.declared.refusals.Refusal.{Refusal}
use Rattle.su_op.specs.declared.areas.Area.{Area}
use Rattle.su_op.specs.declared.footprints.Footprint.{Footprint}
use Rattle.su_op.specs.declared.operations.Op.{Op}
use Rattle.su_op.specs.declared.operations.Change.TheVariants.{Do}
use Rattle.su_op.specs.Action.{is_many}
use Rattle.su_op.specs.Area.{has}
use Rattle.su_op.specs.Batch.{Action, first_refusal, why, writes}
use Rattle.su_table.specs.Cell.{Cell}
use Rattle.su_bytes.specs.declared.formats.Format.{Format}
use Rattle.su_part_inverse.specs.Kept.{inverse_areas, IsKeptOf}
use Rattle.su_part_inverse.specs.declared.inverses.Inverse.{Inverse}
use Rattle.su_desk.specs.Desk.{DeskState}
use Rattle.su_desk.specs.Trial.{tree_of}
use Rattle.su_stored_desk.specs.Joined.{IsJoined, IsKeptBefore}
use Rattle.su_stored_desk.specs.Right.{state_of, HasNumbers}
use Rattle.su_stored_desk.proofs.Clearness.{known, known_refused, noted, trusted, was_sure, asks_seen}
use Rattle.su_stored_desk.proofs.JoinedLemmas.{kept_before}
use Rattle.su_stored_desk.proofs.StandingReady.{alone}
use Rattle.su_stored_desk.proofs.trials.TrialDesk.keep_settled.Goals as goal

-- what is kept of the cells of a batch
kept_so : (s d : DeskState) (a : ℕ) (f : Format) (ops : List Op) (w : List Area) (fp : Footprint) (r : Result Inverse Refusal) → s ≡ d → is_many (Do ops) ≡ true → first_refusal d.roster (tree_of d) a f ops ≡ None → IsJoined d a f ops fp → w ≡ fp.writes.items
    → IfOk r (λ i. (x : Action) → why s.roster (tree_of s) x ≡ None → w ≡ writes s.roster (tree_of s) x → (c : Cell) → has (inverse_areas i) c ≡ has w c) → IfOk r (λ i. IsKeptOf i (tree_of s)) → IfOk r (IsKeptBefore d fp)
kept_so s d a f ops w fp (Ok i) same many none joined is exact kept = kept_before s d a f ops w fp i same many none joined is exact kept
kept_so s d a f ops w fp (Err e) same many none joined is exact kept = tt

pub invariant_of-self : goal.invariant_of-self
invariant_of-self g c =
    let s = c.self.inside in
    let v = c.args.self.now.state in
    let m = g.S.BlockSource.may_give in
    trusted m c.keep_whole.new.self s.tried.items c.and-self-inside.result.items v
    (known_refused m s.desk c.keep_whole.new.self s.tried.items s.tried.items s.asked.items c.and-self-inside.result.items v
    (known m s.desk s.tried.items s.asked.items v (ap (λ t. t.state) c.self.view_is) c.self.invariant) refl
    (noted m s.desk c.source.result.now c.and-self-inside.result.items s.asked.items c.and-self-inside.ensures c.source.ensures)
    (ap state_of c.keep_whole.ensures.same) (λ has. subst (λ d. HasNumbers d.roster d.counters.items) (sym c.keep_whole.ensures.same) has) (λ sure. (c.keep_whole.ensures.sure sure).right))

pub returns-clause-kept : goal.returns-clause-kept
returns-clause-kept g c a f ops clear many none joined =
    let s = c.self.inside in
    let v = c.args.self.now.state in
    let m = g.S.BlockSource.may_give in
    let k = known m s.desk s.tried.items s.asked.items v (ap (λ t. t.state) c.self.view_is) c.self.invariant in
    let sure = was_sure m s.desk c.keep_whole.new.self s.tried.items s.asked.items c.and-self-inside.result.items v k
    (noted m s.desk c.source.result.now c.and-self-inside.result.items s.asked.items c.and-self-inside.ensures c.source.ensures)
    (ap (λ d. d.roster) c.keep_whole.ensures.same) clear in
    kept_so (state_of s.desk) v.settled a f ops c.as_slice.result.now c.args.footprint.now c.keep_whole.result (alone (state_of s.desk) s.tried.items v k.seen c.requires) many none joined c.as_slice.ensures.value
    (c.keep_whole.ensures.exact sure) (c.keep_whole.ensures.kept sure)

pub returns-clause-refused : goal.returns-clause-refused
returns-clause-refused g c clear =
    let s = c.self.inside in
    let v = c.args.self.now.state in
    let m = g.S.BlockSource.may_give in
    let k = known m s.desk s.tried.items s.asked.items v (ap (λ t. t.state) c.self.view_is) c.self.invariant in
    let sure = was_sure m s.desk c.keep_whole.new.self s.tried.items s.asked.items c.and-self-inside.result.items v k
    (noted m s.desk c.source.result.now c.and-self-inside.result.items s.asked.items c.and-self-inside.ensures c.source.ensures)
    (ap (λ d. d.roster) c.keep_whole.ensures.same) clear in
    IfErr-weaker c.keep_whole.result _ _ (λ e fails. fails.0) (c.keep_whole.ensures.refused sure)

pub returns-clause-asks : goal.returns-clause-asks
returns-clause-asks g c =
    let s = c.self.inside in
    let m = g.S.BlockSource.may_give in
    asks_seen m s.desk c.keep_whole.new.self s.tried.items s.tried.items s.asked.items c.and-self-inside.result.items c.args.self.now c.self.view_is
    (noted m s.desk c.source.result.now c.and-self-inside.result.items s.asked.items c.and-self-inside.ensures c.source.ensures)
    (ap (λ d. d.roster) c.keep_whole.ensures.same) c.keep_whole.ensures.source
