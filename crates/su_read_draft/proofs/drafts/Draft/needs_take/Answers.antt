use Rattle.std.proofs.Common.{ap, sym, refl, false}
use Rattle.su_reading.proofs.Public.{ends_ok, ok_at_once}
use Rattle.su_draft.specs.Draft.{needs_take}
use Rattle.su_op.specs.Take.{is_group_file}
use Rattle.su_read_draft.proofs.drafts.Draft.needs_take.Goals as goal

pub returns-in_default : goal.returns-in_default
unfolding needs_take
returns-in_default g c = record {
  works_out = ok_at_once false refl (g.met.R.TreeReader.follows_itself c.args.reader.now)
      (λ T. rw c.in_default.is refl);
}

pub returns-then-is_others : goal.returns-then-is_others
unfolding needs_take
returns-then-is_others g c = record {
  works_out = ends_ok c.in_ok-body.body _ c.in_ok-body.was refl c.body.ensures.finds
      (λ T is. rw (ap is_group_file c.in-Group.is, sym is, c.takes.ensures, sym c.if-is_others.ensures) refl);
}

pub returns-else-is_others : goal.returns-else-is_others
unfolding needs_take
returns-else-is_others g c = record {
  works_out = ends_ok c.in_ok-body.body false c.in_ok-body.was refl c.body.ensures.finds
      (λ T is. rw (ap is_group_file c.in-Group.is, sym is, sym c.if-is_others.ensures) refl);
}
