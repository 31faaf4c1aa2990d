use Rattle.std.proofs.Common.{inl, inr, refl}
use Rattle.su_client_work.proofs.Public.{works_same}
use Rattle.su_person.proofs.keys.move_on.Goals as goal

pub returns-in_default : goal.returns-in_default
returns-in_default g c = record {
  works = works_same c.args.member.now c.args.member.now refl;
  moves = inl refl;
  same = λ _. refl;
}

pub returns-in_default-open_key : goal.returns-in_default-open_key
returns-in_default-open_key g c = record {
  works = works_same c.args.member.now c.args.member.now refl;
  moves = inl refl;
  same = λ _. refl;
}

pub returns-clause-moves : goal.returns-clause-moves
returns-clause-moves g c = inr (_, _, _, c.rekey-rekeyed.ensures.signs)
