use Rattle.std.specs.Prelude.{◌≡◌, false, true}
use Rattle.std.proofs.Common.{sym, arith}
use Rattle.std.proofs.lemmas.Result.{err_from_is_err_and}
use Rattle.su_chain.proofs.ends.key_of.Goals as goal

pub returns-in_err-parse-in-Some-clause-refused : goal.returns-in_err-parse-in-Some-clause-refused
returns-in_err-parse-in-Some-clause-refused c =
    let p = err_from_is_err_and c.from_residual.result c.from_residual.ensures.1 in
    rw (p.1, p.2) (
      c.in_err-parse-in-Some.ensures.refused,
      record {
        user = c.args.user;
        number = grind (arith, c.number-number.ensures.range);
        key = c.in-Some.bytes.now;
        listed = sym c.in-Some.ensures;
        bad = λ is. let clash : false ≡ true = c.in_err-parse-in-Some.ensures.accepted.1 is in cc;
      },
    )
