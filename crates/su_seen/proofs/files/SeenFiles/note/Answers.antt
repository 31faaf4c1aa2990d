use Rattle.su_seen.proofs.KeptMap.{kept_insert, kept_sorted}
use Rattle.su_seen.proofs.files.SeenFiles.note.Goals as goal

pub invariant_of-self-2 : goal.invariant_of-self-2
invariant_of-self-2 c =
    kept_sorted c.self.inside.numbers.entries c.insert.new.self.entries c.in_ok-path.path c.args.number c.self.invariant c.in_ok-insert.ensures.entries

pub returns-clause-ok : goal.returns-clause-ok
returns-clause-ok c =
    kept_insert c.self.inside.numbers.entries c.insert.new.self.entries c.in_ok-path.path c.args.path.now c.args.number c.args.self.now
    c.self.invariant c.in_ok-insert.ensures.entries c.in_ok-path.ensures.items c.self.view_is
