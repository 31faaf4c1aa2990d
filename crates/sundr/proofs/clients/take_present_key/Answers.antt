use Rattle.std.proofs.Common.{refl}
use Rattle.su_client_work.proofs.Public.{works_replaced, works_same, works_takes, works_then}
use Rattle.sundr.proofs.clients.take_present_key.Goals as goal

pub returns-then-is_none : goal.returns-then-is_none
returns-then-is_none g c = works_same c.args.member.now c.args.member.now refl

pub returns-then-is_err : goal.returns-then-is_err
returns-then-is_err g c = works_takes c.args.member.now c.look.new.self c.look.ensures.takes

pub returns-in_err-open_present-in-Some : goal.returns-in_err-open_present-in-Some
returns-in_err-open_present-in-Some g c = works_takes c.args.member.now c.look.new.self c.look.ensures.takes

pub returns-in_ok-open_present-in-Some : goal.returns-in_ok-open_present-in-Some
returns-in_ok-open_present-in-Some g c =
    works_then c.args.member.now c.look.new.self c.replace_key.new.self (works_takes c.args.member.now c.look.new.self c.look.ensures.takes)
    (works_replaced c.look.new.self c.replace_key.new.self c.in_ok-open_present-in-Some.field-0.next c.replace_key.ensures)

pub returns-in_default : goal.returns-in_default
returns-in_default g c = works_takes c.args.member.now c.look.new.self c.look.ensures.takes
