use Rattle.std.proofs.Common.{◌∙◌, sym}
use Rattle.su_scratch.specs.Places.{place_under}
use Rattle.su_scratch.proofs.Sound.{sound_on, not_none}
use Rattle.su_scratch.proofs.blocks.ScratchBlocks.ask.Goals as goal

pub returns-in_err-place-clause-sound : goal.returns-in_err-place-clause-sound
returns-in_err-place-clause-sound g c =
    sound_on g.F.Scratch.keeps g.F.Scratch.written c.args.self.now.scratch c.find.new.scratch c.args.self.now.places c.find.ensures.keeps c.find.ensures.unchanged

pub returns-in-Some-clause-sound : goal.returns-in-Some-clause-sound
returns-in-Some-clause-sound g c = λ s.
    sound_on g.F.Scratch.keeps g.F.Scratch.written c.find.new.scratch c.read.new.self c.args.self.now.places c.read.ensures.keeps c.read.ensures.unchanged
    (sound_on g.F.Scratch.keeps g.F.Scratch.written c.args.self.now.scratch c.find.new.scratch c.args.self.now.places c.find.ensures.keeps c.find.ensures.unchanged s)

pub returns-in-None-clause-sound : goal.returns-in-None-clause-sound
returns-in-None-clause-sound g c =
    sound_on g.F.Scratch.keeps g.F.Scratch.written c.args.self.now.scratch c.find.new.scratch c.args.self.now.places c.find.ensures.keeps c.find.ensures.unchanged

pub returns-in-None-clause-left : goal.returns-in-None-clause-left
returns-in-None-clause-left g c = λ sound is.
    absurd (not_none (place_under c.args.self.now.places.noted c.args.digest) (sym c.in-None.is ∙ c.in_ok-place.ensures.found sound.0 sound.1) is)
