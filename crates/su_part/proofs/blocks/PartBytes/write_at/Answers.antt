use Rattle.std.proofs.Common.{◌≡◌, ◌∙◌, ap, subst, sym, arith, IsTrue, ℕ, ◌+◌, ◌/◌, ◌<◌, ◌≤◌, ◌^◌, length, min}
use Rattle.su_tree.specs.Number.{number_bits}
use Rattle.su_part_tree.specs.Part.{reaches}
use Rattle.su_node.specs.Digest.{block_count}
use Rattle.su_node.specs.InodeChange.{with_bytes_at}
use Rattle.su_part.proofs.WriteLemmas.{begun, written_on, finished, places_stand, places_some, on_err}
use Rattle.su_part.proofs.KnownLemmas.{known_grown}
use Rattle.su_part.proofs.blocks.PartBytes.write_at.Goals as goal

pub returns-in_err-ready-clause-err : goal.returns-in_err-ready-clause-err
returns-in_err-ready-clause-err c bs h = on_err c.from_residual.result (places_stand c.args.self.now c.make_ready.new.self bs c.make_ready.ensures.same h)

pub loop-number-init : goal.loop-number-init
loop-number-init c = record {
  writing = λ bs h.
      let size = h.size in
      record {
        midway = begun c.make_ready.new.self c.args.off c.args.bytes.now bs (c.min.result / 4096) (places_stand c.args.self.now c.make_ready.new.self bs c.make_ready.ensures.same h)
            (ap (λ m. m / 4096) (c.min.ensures ∙ ap (min c.args.off) (sym c.make_ready.ensures.same.size)));
        places = c.in_ok-ready.ensures.places;
        ready = c.in_ok-ready.ensures.ready bs h (omega (arith, size));
      };
  paths = λ n h. h;
  loaded = λ n h. h;
}

pub put_ready-requires : goal.put_ready-requires
put_ready-requires c =
    let n = c.loop-number.number in
    let low : min c.args.off c.args.self.now.size / 4096 ≤ n = omega (arith, c.min.ensures) in
    let high : n < block_count (c.args.off + length c.args.bytes.now) = omega (arith, c.loop-number-test.true, c.count_for-until.ensures) in
    c.loop-number.invariant.paths n (subst (λ t. IsTrue (reaches number_bits n t)) (sym c.make_ready.ensures.same.digests) (c.requires.there n low high).path)

pub loop-number-preserved : goal.loop-number-preserved
loop-number-preserved c =
    let n = c.loop-number.number in
    let high : n < block_count (c.args.off + length c.args.bytes.now) = omega (arith, c.loop-number-test.true, c.count_for-until.ensures) in
    let small : n < 2 ^ 32 = omega (arith, high, c.requires.small) in
    record {
      writing = λ bs h. written_on bs (with_bytes_at c.args.off c.args.bytes.now bs) n c.count_for-until.result c.loop-number.self c.put_ready.new.self c.loop-number.ready.entries c.put_ready.new.all.entries
          (c.loop-number.invariant.writing bs h) c.loop-number-test.true small c.put_ready.ensures.put c.put_ready.ensures.others;
      paths = λ k r. c.put_ready.ensures.paths k (c.loop-number.invariant.paths k r);
      loaded = λ k s. c.put_ready.ensures.loaded k (c.loop-number.invariant.loaded k s);
    }

pub returns-clause-ok : goal.returns-clause-ok
returns-clause-ok c bs h =
    let size = h.size in
    let first : c.min.result / 4096 ≤ c.count_for-until.result = omega (arith, c.min.ensures, c.count_for-until.ensures) in
    let last : c.loop-number.number ≤ c.count_for-until.result = c.loop-number.auto.number-end first in
    let k_is : c.loop-number.number ≡ block_count (c.args.off + length c.args.bytes.now) = omega (arith, last, c.loop-number-test.false, c.count_for-until.ensures) in
    finished c.loop-number.self c.args.off c.args.bytes.now bs c.loop-number.number (c.args.off + length c.args.bytes.now) (c.loop-number.invariant.writing bs h).midway k_is (omega (arith, size))

pub returns-clause-known : goal.returns-clause-known
returns-clause-known c bs h =
    let size = h.size in
    let same = c.make_ready.ensures.same in
    let inv = c.loop-number.invariant in
    let path = λ (n : ℕ) (r : IsTrue (reaches number_bits n c.args.self.now.digests)). inv.paths n (subst (λ t. IsTrue (reaches number_bits n t)) (sym same.digests) r) in
    known_grown c.args.self.now (record c.loop-number.self { size = c.args.off + length c.args.bytes.now }) c.args.off c.args.bytes.now bs path (λ n s. inv.loaded n (places_some c.args.self.now c.make_ready.new.self same n s))
    (λ n low high.
    let low' : min c.args.off c.args.self.now.size / 4096 ≤ n = omega (arith, low, size) in (
      path n (c.requires.there n low' high).path,
      inv.loaded n (c.in_ok-ready.ensures.places n (omega (arith, low, size, c.min.ensures)) (omega (arith, high, c.count_for-until.ensures))),
    ))
