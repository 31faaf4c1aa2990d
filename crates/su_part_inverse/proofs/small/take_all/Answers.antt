use Rattle.std.proofs.Common.{◌≡◌, ◌∙◌, ◌+◌, ◌<◌, List, [], ◌∷◌, length, sym, ap, subst, length-append, arith, IfErr}
use Rattle.su_bytes.specs.declared.refusals.Refusal.TheVariants.{NoMemory}
use Rattle.su_format.proofs.Public.{handed_on_to}
use Rattle.su_part_inverse.proofs.SmallReads.{AreTaken, none_taken, one_refused, one_taken, all_taken}
use Rattle.su_part_inverse.proofs.small.take_all.Goals as goal

pub loop-taken-init : goal.loop-taken-init
loop-taken-init g c =
    let old = c.args.reader.now.left in
    record {
      number = ap length c.in_ok-all.ensures.items;
      taken = subst (λ (xs : List g.row.K.Denot). AreTaken g.K.Small.IsMeant g.K.Small.spelling c.args.count old xs old) (sym c.in_ok-all.ensures.items) none_taken;
    }

pub loop-taken-preserved : goal.loop-taken-preserved
loop-taken-preserved g c =
    let xs = c.loop-taken.all.items in
    let few : length xs < c.args.count = omega (arith, c.loop-taken.invariant.number, c.loop-taken-test.true) in
    let one = one_taken xs c.loop-taken.reader.left c.take.new.reader.left c.in_ok-take.field-0 c.loop-taken.invariant.taken few c.in_ok-take.ensures in
    let long : length c.push.new.self.items ≡ length xs + 1 = ap length c.in_ok-push.ensures.items ∙ length-append xs (c.in_ok-take.field-0 ∷ []) in
    record {
      number = omega (arith, long, c.loop-taken.invariant.number);
      taken = subst (λ (ys : List g.row.K.Denot). AreTaken g.K.Small.IsMeant g.K.Small.spelling c.args.count c.args.reader.now.left ys c.take.new.reader.left) (sym c.in_ok-push.ensures.items) one;
    }

pub returns-in_err-take-clause-refused : goal.returns-in_err-take-clause-refused
returns-in_err-take-clause-refused g c ks rest at =
    let xs = c.loop-taken.all.items in
    let few : length xs < c.args.count = omega (arith, c.loop-taken.invariant.number, c.loop-taken-test.true) in
    handed_on_to (λ r. IfErr r (λ e. e ≡ NoMemory)) _ _ c.from_residual-in_err-take.ensures.1
    (one_refused xs c.loop-taken.reader.left c.take.new.reader.left _ c.loop-taken.invariant.taken few c.in_err-take.ensures ks rest at)

pub returns-clause-value : goal.returns-clause-value
returns-clause-value g c ks rest at =
    let full : length c.loop-taken.all.items ≡ c.args.count = omega (arith, c.loop-taken.invariant.number) in
    all_taken c.loop-taken.all.items c.loop-taken.reader.left c.loop-taken.invariant.taken full ks rest at
