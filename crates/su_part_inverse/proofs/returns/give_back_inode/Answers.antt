use Rattle.std.proofs.Common.{sym, subst}
use Rattle.std.specs.FinMap.{get}
use Rattle.su_table.specs.Edit.{Edit.Inodes, edit, restoring}
use Rattle.su_part.specs.Part.{MeantAt, StandsJust}
use Rattle.su_part_forest.specs.Forest.{Stands}
use Rattle.su_part_forest.specs.Known.{StaysKnownBeside}
use Rattle.su_part_inverse.proofs.Answering.{ok_of}
use Rattle.su_part_inverse.proofs.Reading.{just_there}
use Rattle.su_part_inverse.proofs.returns.give_back_inode.Goals as goal

pub returns-in-Some-clause-stands : goal.returns-in-Some-clause-stands
returns-in-Some-clause-stands c F G h known was meant taken =
    let p = c.args.place in
    let (i, is, stands) = just_there c.in-Some.inode (get F.inodes p) (subst (λ o. StandsJust o (get F.inodes p)) c.in-Some.is was) in
    let m = subst MeantAt is meant in
    subst (λ o. Stands c.exchange_inode-done.new.self (edit G (Inodes p (restoring o)))) (sym is)
    (ok_of c.exchange_inode-done.result (c.exchange_inode-done.ensures.succeeds G h known taken) (c.exchange_inode-done.ensures.ok G i h stands m))

pub returns-in-Some-clause-known : goal.returns-in-Some-clause-known
returns-in-Some-clause-known c F G h known was meant taken =
    let p = c.args.place in
    let (i, is, stands) = just_there c.in-Some.inode (get F.inodes p) (subst (λ o. StandsJust o (get F.inodes p)) c.in-Some.is was) in
    let m = subst MeantAt is meant in
    subst (λ o. StaysKnownBeside p G (edit G (Inodes p (restoring o))) c.args.forest.now c.exchange_inode-done.new.self) (sym is)
    (ok_of c.exchange_inode-done.result (c.exchange_inode-done.ensures.succeeds G h known taken) (c.exchange_inode-done.ensures.known G i h stands m))

pub returns-in-None-clause-stands : goal.returns-in-None-clause-stands
returns-in-None-clause-stands c F G h known was meant taken =
    subst (λ o. Stands c.remove_inode.new.self (edit G (Inodes c.args.place (restoring o)))) (sym (subst (λ o. StandsJust o (get F.inodes c.args.place)) c.in-None.is was)) (c.remove_inode.ensures.stands G h known)

pub returns-in-None-clause-known : goal.returns-in-None-clause-known
returns-in-None-clause-known c F G h known was meant taken w beside =
    subst (λ o. StaysKnownBeside c.args.place G (edit G (Inodes c.args.place (restoring o))) c.args.forest.now c.remove_inode.new.self) (sym (subst (λ o. StandsJust o (get F.inodes c.args.place)) c.in-None.is was)) (λ v b. c.remove_inode.ensures.known G h known v) w beside
