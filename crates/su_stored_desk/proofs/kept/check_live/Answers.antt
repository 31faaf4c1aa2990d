use Rattle.std.proofs.Common.{◌≡◌, None, IsSome, rules}
use Rattle.su_desk.specs.Answer.{live_refusal}
use Rattle.su_live.specs.Live.{find_live}
use Rattle.su_stored_desk.proofs.ByNumber.{found_live, none_kept_live}
use Rattle.su_stored_desk.proofs.kept.check_live.Goals as goal

pub returns-then-is_some-clause-live : goal.returns-then-is_some-clause-live
returns-then-is_some-clause-live c ro kept =
    let there : IsSome (find_live c.args.number c.args.kept.now) = search rules in
    found_live _ _ _ _ c.args.number kept.1 there

pub returns-in-None-clause-refused : goal.returns-in-None-clause-refused
returns-in-None-clause-refused c ro kept =
    let stands : live_refusal c.args.entries.now c.args.number ≡ None = search rules in
    let none : find_live c.args.number c.args.kept.now ≡ None = search rules in
    none_kept_live _ _ _ _ c.args.number kept.1 stands none
