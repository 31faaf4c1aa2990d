use Rattle.std.proofs.Common.{◌≡◌, ◌∙◌, ◌||◌, refl, ap, sym, None, true, false, cond, is_some}
use Rattle.su_table.specs.Query.{body}
use Rattle.su_part_forest.specs.Seen.{seen}
use Rattle.su_table.proofs.Public.{file_eq-derived}
use Rattle.su_op.specs.Rename.{stays}
use Rattle.su_perform.proofs.rename.moved.Goals as goal

pub returns-then-eq-clause-value : goal.returns-then-eq-clause-value
returns-then-eq-clause-value c sound =
    let same : stays c.args.rename.now ≡ true = sym (file_eq-derived c.args.rename.now.from_ c.args.rename.now.to_) ∙ sym c.eq.ensures ∙ c.if-eq.true in
    sym (ap (λ b. cond b None (body (seen c.args.forest.now) c.args.rename.now.file)) same)

pub returns-then-eq-clause-found : goal.returns-then-eq-clause-found
returns-then-eq-clause-found c sound =
    let same : stays c.args.rename.now ≡ true = sym (file_eq-derived c.args.rename.now.from_ c.args.rename.now.to_) ∙ sym c.eq.ensures ∙ c.if-eq.true in
    ap (λ b. b || is_some (cond b None (body (seen c.args.forest.now) c.args.rename.now.file))) same

pub returns-in-Some-clause-value : goal.returns-in-Some-clause-value
returns-in-Some-clause-value c sound =
    let differs : stays c.args.rename.now ≡ false = sym (file_eq-derived c.args.rename.now.from_ c.args.rename.now.to_) ∙ sym c.eq.ensures ∙ c.if-eq.false in
    sym c.in-Some.is ∙ (c.body.ensures sound) ∙ sym (ap (λ b. cond b None (body (seen c.args.forest.now) c.args.rename.now.file)) differs)

pub returns-in-None-clause-refused : goal.returns-in-None-clause-refused
returns-in-None-clause-refused c sound =
    let differs : stays c.args.rename.now ≡ false = sym (file_eq-derived c.args.rename.now.from_ c.args.rename.now.to_) ∙ sym c.eq.ensures ∙ c.if-eq.false in
    (refl, ap (λ b. b || is_some (cond b None (body (seen c.args.forest.now) c.args.rename.now.file))) differs ∙ ap is_some (sym (c.body.ensures sound) ∙ c.in-None.is))
