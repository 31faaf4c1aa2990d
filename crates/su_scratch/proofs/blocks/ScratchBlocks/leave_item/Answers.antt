use Rattle.su_scratch.proofs.Sound.{sound_on, sound_grown, sound_noted, on_ok}
use Rattle.su_scratch.proofs.Held.{noted_there}
use Rattle.su_scratch.proofs.blocks.ScratchBlocks.leave_item.Goals as goal

pub returns-clause-left : goal.returns-clause-left
returns-clause-left g c = λ sound.
    on_ok c.add.result _ _ (noted_there c.args.self.now.places.noted c.add.new.self.noted c.args.digest _) c.add.ensures.added

pub returns-clause-sound : goal.returns-clause-sound
returns-clause-sound g c = λ sound.
    let F = g.F.Scratch in
    let places = c.args.self.now.places in
    let found = sound_on F.keeps F.written c.args.self.now.scratch c.find.new.scratch places c.find.ensures.keeps c.find.ensures.unchanged sound in
    let grown = sound_grown F.keeps F.written c.find.new.scratch c.append.new.self places c.args.item.now c.append.ensures.keeps c.in_ok-append.ensures.appended found in
    sound_noted F.keeps F.written c.append.new.self c.add.new.scratch places c.add.new.self c.add.ensures.keeps c.add.ensures.held grown
