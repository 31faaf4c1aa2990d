use Rattle.std.proofs.Common.{◌≡◌, ◌∙◌, ℕ, zero, suc, ◌+◌, ◌-◌, ◌≤◌, List, [], ◌∷◌, ◌++◌, Option, None, Some, sym, ap, arith, append_assoc, append-nil}
use Rattle.su_live.specs.Live.{find_live}
use Rattle.su_stored_desk.specs.Keeping.{KeptOperation}
use Rattle.su_stored_desk.specs.Joined.{all_read, all_written, live_from, option_list}
use Rattle.su_stored_desk.proofs.desks.joining.footprint_of.Goals as goal
use Rattle.su_stored_desk.proofs.desks.joining.footprint_of.Goals.{in-Some+in_ok-more+in_ok-append+in_ok-append-2, in_default}

read_more : (ks : List KeptOperation) (k : KeptOperation) → all_read (ks ++ k ∷ []) ≡ all_read ks ++ k.footprint.reads.items
read_more [] k = append-nil k.footprint.reads.items
read_more (l ∷ ks) k = ap (λ v. l.footprint.reads.items ++ v) (read_more ks k) ∙ sym (append_assoc l.footprint.reads.items (all_read ks) k.footprint.reads.items)

written_more : (ks : List KeptOperation) (k : KeptOperation) → all_written (ks ++ k ∷ []) ≡ all_written ks ++ k.footprint.writes.items
written_more [] k = append-nil k.footprint.writes.items
written_more (l ∷ ks) k = ap (λ v. l.footprint.writes.items ++ v) (written_more ks k) ∙ sym (append_assoc l.footprint.writes.items (all_written ks) k.footprint.writes.items)

-- those of one number more
from_more : (n count : ℕ) (ks : List KeptOperation) → live_from n (suc count) ks ≡ live_from n count ks ++ option_list (find_live (n + count) ks)
from_more n zero ks = let same : n ≡ n + zero = omega arith in append-nil (option_list (find_live n ks)) ∙ ap (λ m. option_list (find_live m ks)) same
from_more n (suc count) ks =
    let same : n + 1 + count ≡ n + suc count = omega arith in
    ap (λ xs. option_list (find_live n ks) ++ xs) (from_more (n + 1) count ks)
    ∙ sym (append_assoc (option_list (find_live n ks)) (live_from (n + 1) count ks) (option_list (find_live (n + 1 + count) ks)))
    ∙ ap (λ m. live_from n (suc count) ks ++ option_list (find_live m ks)) same

-- so of the next number
further : (before earlier : ℕ) (ks : List KeptOperation) (o : Option KeptOperation) → before ≤ earlier → o ≡ find_live (earlier + 1) ks → live_from (before + 1) (earlier + 1 - before) ks ≡ live_from (before + 1) (earlier - before) ks ++ option_list o
further before earlier ks o le is =
    let count : earlier + 1 - before ≡ suc (earlier - before) = omega (arith, le) in
    let next : before + 1 + (earlier - before) ≡ earlier + 1 = omega (arith, le) in
    ap (λ m. live_from (before + 1) m ks) count ∙ from_more (before + 1) (earlier - before) ks
    ∙ ap (λ p. live_from (before + 1) (earlier - before) ks ++ option_list p) (ap (λ m. find_live m ks) next ∙ sym is)

pub loop-earlier-preserved : goal.loop-earlier-preserved
loop-earlier-preserved c =
    let l = c.loop-earlier in
    let ks = c.args.kept.now in
    let b = c.args.before in
    let le : b ≤ l.earlier = omega (arith, l.auto.earlier) in
    let so_far = live_from (b + 1) (l.earlier - b) ks in
    elim c.match-find.branch [
      | in-Some+in_ok-more+in_ok-append+in_ok-append-2 w ↦
          let k = w.in-Some.operation.now in
          let more = further b l.earlier ks (Some k) le w.in-Some.ensures in
          record {
            read = ap (λ v. v.items) w.reads-is ∙ w.in_ok-append.ensures.items ∙ ap (λ v. l.reads.items ++ v) w.in_ok-more.ensures.reads ∙ ap (λ v. v ++ k.footprint.reads.items) l.invariant.read ∙ sym (read_more so_far k) ∙ ap all_read (sym more);
            written = ap (λ v. v.items) w.writes-is ∙ w.in_ok-append-2.ensures.items ∙ ap (λ v. l.writes.items ++ v) w.in_ok-more.ensures.writes ∙ ap (λ v. v ++ k.footprint.writes.items) l.invariant.written ∙ sym (written_more so_far k) ∙ ap all_written (sym more);
          }
      | in_default w ↦
          let none = further b l.earlier ks None le w.in_default.ensures ∙ append-nil so_far in
          record {
            read = ap (λ v. v.items) w.reads-is ∙ l.invariant.read ∙ ap all_read (sym none);
            written = ap (λ v. v.items) w.writes-is ∙ l.invariant.written ∙ ap all_written (sym none);
          }
    ]

pub returns-clause-reads : goal.returns-clause-reads
returns-clause-reads c =
    let l = c.loop-earlier in
    let same : l.earlier - c.args.before ≡ c.args.last - c.args.before = omega (arith, c.loop-earlier-test.false, l.auto.earlier, l.auto.earlier-end c.requires) in
    l.invariant.read ∙ ap (λ m. all_read (live_from (c.args.before + 1) m c.args.kept.now)) same

pub returns-clause-writes : goal.returns-clause-writes
returns-clause-writes c =
    let l = c.loop-earlier in
    let same : l.earlier - c.args.before ≡ c.args.last - c.args.before = omega (arith, c.loop-earlier-test.false, l.auto.earlier, l.auto.earlier-end c.requires) in
    l.invariant.written ∙ ap (λ m. all_written (live_from (c.args.before + 1) m c.args.kept.now)) same
