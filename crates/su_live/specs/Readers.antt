-- An index of who reads which cells, by their marks.
use Rattle.std.specs.Prelude.{◌≡◌, ℕ, Bool, false, not, ◌&&◌, ◌||◌, nat_eq, nat_lt}
use Rattle.std.specs.declared.cmp.Ordering.{Ordering}
use Rattle.std.specs.Ordering.{nat_cmp, on, then_cmp}
use Rattle.std.specs.BTreeSet.{BTreeSet, contains}
use Rattle.su_op.specs.declared.footprints.Footprint.{Footprint}
use Rattle.su_kept_areas.specs.Marks.{has_mark, read_marks}
use Rattle.su_live.specs.declared.readers.Reader.{Reader}

-- by marks, and then by numbers
abbrev pub reader_cmp : Reader → Reader → Ordering
reader_cmp = then_cmp (on (λ (r : Reader). r.mark) nat_cmp) (on (λ (r : Reader). r.number) nat_cmp)

-- operation n is entered under mark m
abbrev pub has_reader : BTreeSet Reader → ℕ → ℕ → Bool
has_reader s m n = contains reader_cmp s (record { mark = m; number = n })

-- m is a mark of what the footprint reads, which is that of operation k; and n is k
abbrev pub reads_by : ℕ → Footprint → ℕ → ℕ → Bool
reads_by k f m n = nat_eq n k && has_mark (read_marks f.reads.items) m

-- the same operations are entered under the same marks
abbrev pub HasSame : BTreeSet Reader → BTreeSet Reader → Type 0
HasSame s t = (m n : ℕ) → has_reader t m n ≡ has_reader s m n

-- t is s with operation k under each mark of what the footprint reads
abbrev pub Enters : ℕ → Footprint → BTreeSet Reader → BTreeSet Reader → Type 0
Enters k f s t = (m n : ℕ) → has_reader t m n ≡ (has_reader s m n || reads_by k f m n)

-- t is s without these
abbrev pub Leaves : ℕ → Footprint → BTreeSet Reader → BTreeSet Reader → Type 0
Leaves k f s t = (m n : ℕ) → has_reader t m n ≡ (has_reader s m n && not (reads_by k f m n))

-- operation k is entered under no mark
abbrev pub IsMissing : ℕ → BTreeSet Reader → Type 0
IsMissing k s = (m : ℕ) → has_reader s m k ≡ false

-- operation k is entered under the marks of what the footprint reads, and under no other
abbrev pub IsEnteredBy : ℕ → Footprint → BTreeSet Reader → Type 0
IsEnteredBy k f s = (m : ℕ) → has_reader s m k ≡ has_mark (read_marks f.reads.items) m

-- t is s without operation k under marks of what the footprint reads, but those that the other one has too
abbrev pub LeavesBut : ℕ → Footprint → Footprint → BTreeSet Reader → BTreeSet Reader → Type 0
LeavesBut k f other s t = (m n : ℕ) → has_reader t m n ≡ (has_reader s m n
    && not (nat_eq n k && (has_mark (read_marks f.reads.items) m && not (has_mark (read_marks other.reads.items) m))))

-- ---- those that are entered only above a number

-- t is s with operation k under each mark of what the footprint reads, if k is above n
abbrev pub EntersAbove : ℕ → ℕ → Footprint → BTreeSet Reader → BTreeSet Reader → Type 0
EntersAbove n k f s t = (m q : ℕ) → has_reader t m q ≡ (has_reader s m q || (nat_lt n k && reads_by k f m q))

-- t is s with operation k under the marks of what the footprint reads, in the place of those of the other
-- one, if k is above n
abbrev pub PutsAbove : ℕ → ℕ → Footprint → Footprint → BTreeSet Reader → BTreeSet Reader → Type 0
PutsAbove n k f other s t = (m q : ℕ) → has_reader t m q
    ≡ ((has_reader s m q && not (nat_lt n k && reads_by k other m q)) || (nat_lt n k && reads_by k f m q))
