use Rattle.std.proofs.Common.{◌≡◌, ◌≤◌, ◌-◌, ℕ, List, Some, None, vec_len}
use Rattle.std.specs.Prelude.{vec_capacity}
use Rattle.std.specs.List.{AllByRecursion}
use Rattle.su_log.specs.Record.{IsRead}
use Rattle.su_log_ahead.specs.Ahead.{IsLeft}
use Rattle.su_log.specs.declared.records.Record.{Record}
use Rattle.su_log_ahead.specs.declared.ahead.TheConstants.{MOST_RECORDS}
use Rattle.su_log_ahead.proofs.AheadLemmas.{ahead}
use Rattle.su_log_ahead.proofs.ahead.read_records.Given as goal

abbrev pub invariant-loop-alloc : goal.invariant-loop-alloc
invariant-loop-alloc g l = record {
  room : MOST_RECORDS ≤ vec_capacity l.records;
  some : vec_len l.records ≡ 0 → l.bytes ≡ 0;
  read : AllByRecursion (λ (r : Record). IsRead r.bytes.items r.commit) l.records.items;
  left : (input : List ℕ) → g.R.Read.remaining l.fn.log.reader ≡ Some input
      → IsLeft (ahead l.records.items None l.log.place (g.R.Read.remaining l.log.reader)) l.fn.log.place input;
}

abbrev pub decreases-loop-alloc : goal.decreases-loop-alloc
decreases-loop-alloc g l = MOST_RECORDS - vec_len l.records
