use Rattle.su_client_work.specs.Work.{Works}
use Rattle.su_person.proofs.PutLemmas.{RoundsNoted}
use Rattle.su_person.proofs.putting.put.Given as goal

abbrev pub invariant-loop : goal.invariant-loop
invariant-loop g l = record {
  works : Works l.fn.member l.member;
  rounds : RoundsNoted l.fn.new.seen l.fn.new.over l.fn.new.path.now l.fn.new.bytes.now l.fn.member l.fn.numbers.items l.member l.numbers.items;
}
