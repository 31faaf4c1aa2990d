use Rattle.std.proofs.Common.{sym, refl, inr}
use Rattle.su_reading.proofs.Public.{ends}
use Rattle.su_draft.specs.Command.{draft}
use Rattle.su_read_draft.proofs.commands.draft_of_member.Goals as goal

pub returns-in-Mkdir : goal.returns-in-Mkdir
unfolding draft
returns-in-Mkdir g c = record { works_out = λ ro has. ends c.make.ensures.works_out (λ T b is. rw (has, c.in-Mkdir.is, sym c.as_slice.ensures.value) is) (λ T e is. rw (has, c.in-Mkdir.is, sym c.as_slice.ensures.value) is) }

pub returns-in-Create : goal.returns-in-Create
unfolding draft
returns-in-Create g c = record { works_out = λ ro has. ends c.make-in-Create.ensures.works_out (λ T b is. rw (has, c.in-Create.is, sym c.as_slice-in-Create.ensures.value) is) (λ T e is. rw (has, c.in-Create.is, sym c.as_slice-in-Create.ensures.value) is) }

pub returns-in-Write : goal.returns-in-Write
unfolding draft
returns-in-Write g c = record { works_out = λ ro has. ends c.write.ensures.works_out (λ T b is. rw (has, c.in-Write.is, sym c.as_slice-in-Write.ensures.value, sym c.as_slice-in-Write-2.ensures.value) is) (λ T e is. rw (has, c.in-Write.is, sym c.as_slice-in-Write.ensures.value, sym c.as_slice-in-Write-2.ensures.value) is) }

pub returns-in-Truncate : goal.returns-in-Truncate
unfolding draft
returns-in-Truncate g c = record { works_out = λ ro has. ends c.truncate.ensures.works_out (λ T b is. rw (has, c.in-Truncate.is, sym c.as_slice-in-Truncate.ensures.value) is) (λ T e is. rw (has, c.in-Truncate.is, sym c.as_slice-in-Truncate.ensures.value) is) }

pub returns-in-Link : goal.returns-in-Link
unfolding draft
returns-in-Link g c = record { works_out = λ ro has. ends c.link.ensures.works_out (λ T b is. rw (has, c.in-Link.is, sym c.as_slice-in-Link.ensures.value, sym c.as_slice-in-Link-2.ensures.value) is) (λ T e is. rw (has, c.in-Link.is, sym c.as_slice-in-Link.ensures.value, sym c.as_slice-in-Link-2.ensures.value) is) }

pub returns-in-Rename : goal.returns-in-Rename
unfolding draft
returns-in-Rename g c = record { works_out = λ ro has. ends c.rename.ensures.works_out (λ T b is. rw (has, c.in-Rename.is, sym c.as_slice-in-Rename.ensures.value, sym c.as_slice-in-Rename-2.ensures.value) is) (λ T e is. rw (has, c.in-Rename.is, sym c.as_slice-in-Rename.ensures.value, sym c.as_slice-in-Rename-2.ensures.value) is) }

pub returns-in-Remove : goal.returns-in-Remove
unfolding draft
returns-in-Remove g c = record { works_out = λ ro has. ends c.remove.ensures.works_out (λ T b is. rw (has, c.in-Remove.is, sym c.as_slice-in-Remove.ensures.value) is) (λ T e is. rw (has, c.in-Remove.is, sym c.as_slice-in-Remove.ensures.value) is) }

pub returns-in-Tidy : goal.returns-in-Tidy
unfolding draft
returns-in-Tidy g c = record { works_out = λ ro has. ends c.tidy.ensures.works_out (λ T b is. rw (has, c.in-Tidy.is) is) (λ T e is. rw (has, c.in-Tidy.is) is) }
