use Rattle.std.proofs.Common.{ap, ◌∙◌}
use Rattle.std.specs.Prelude.{Some}
use Rattle.su_block_cache.proofs.Keeping.{within-promoted, seen_under, newest-after_get, same-after_get}
use Rattle.su_block_cache.proofs.kept.KeptItems.copy.Goals as goal
use Rattle.su_block_cache.proofs.kept.KeptItems.copy.Goals.{in-Some+in_ok-copy-in-Some, in-None}

pub invariant_of-self : goal.invariant_of-self
invariant_of-self c =
    rw c.get.follows.holds-at-none (within-promoted c.self.inside.items.cap c.as_bytes.result.now c.self.inside.items.entries c.self.invariant)

pub returns-in_err-copy-in-Some-clause-newest : goal.returns-in_err-copy-in-Some-clause-newest
returns-in_err-copy-in-Some-clause-newest c =
    newest-after_get c.as_bytes.result.now c.args.digest.now c.self.inside.items c.get.follows.lender-at-none c.args.self.now c.self.invariant c.self.view_is c.as_bytes.ensures c.get.follows.holds-at-none

pub returns-in_err-copy-in-Some-clause-none : goal.returns-in_err-copy-in-Some-clause-none
returns-in_err-copy-in-Some-clause-none c =
    same-after_get c.as_bytes.result.now c.args.digest.now c.self.inside.items c.get.follows.lender-at-none c.args.self.now c.self.invariant c.self.view_is c.as_bytes.ensures c.get.follows.holds-at-none

pub invariant_of-self-2 : goal.invariant_of-self-2
invariant_of-self-2 c = elim c.match-get.branch [
  | in-Some+in_ok-copy-in-Some w ↦ rw w.self-inside-is (rw c.get.follows.holds-at-none (within-promoted c.self.inside.items.cap c.as_bytes.result.now c.self.inside.items.entries c.self.invariant))
  | in-None w ↦ rw w.self-inside-is (rw c.get.follows.holds-at-none (within-promoted c.self.inside.items.cap c.as_bytes.result.now c.self.inside.items.entries c.self.invariant))
]

pub returns-clause-value : goal.returns-clause-value
returns-clause-value c =
    let under = seen_under c.as_bytes.result.now c.args.digest.now c.self.inside.items c.get.follows.lender-at-none c.args.self.now c.self.invariant c.self.view_is c.as_bytes.ensures in
    elim c.match-get.branch [
      | in-Some+in_ok-copy-in-Some w ↦ rw w.result-is (ap Some w.in_ok-copy-in-Some.ensures.bytes ∙ w.in-Some.ensures.value ∙ under)
      | in-None w ↦ rw w.result-is (w.in-None.ensures.value ∙ under)
    ]

pub returns-clause-newest : goal.returns-clause-newest
returns-clause-newest c = λ item found.
    let newest = newest-after_get c.as_bytes.result.now c.args.digest.now c.self.inside.items c.get.follows.lender-at-none c.args.self.now c.self.invariant c.self.view_is c.as_bytes.ensures c.get.follows.holds-at-none item found in
    elim c.match-get.branch [
      | in-Some+in_ok-copy-in-Some w ↦ rw w.self-inside-is newest
      | in-None w ↦ rw w.self-inside-is newest
    ]

pub returns-clause-none : goal.returns-clause-none
returns-clause-none c = λ none.
    let same = same-after_get c.as_bytes.result.now c.args.digest.now c.self.inside.items c.get.follows.lender-at-none c.args.self.now c.self.invariant c.self.view_is c.as_bytes.ensures c.get.follows.holds-at-none none in
    elim c.match-get.branch [
      | in-Some+in_ok-copy-in-Some w ↦ rw w.self-inside-is same
      | in-None w ↦ rw w.self-inside-is same
    ]
