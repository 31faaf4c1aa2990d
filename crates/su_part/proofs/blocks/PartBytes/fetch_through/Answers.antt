use Rattle.std.specs.Prelude.{Ok}
use Rattle.su_part.proofs.BytesLemmas.{all_blocks_itself}
use Rattle.su_part.proofs.LoadLemmas.{nothing_asked}
use Rattle.su_part.proofs.blocks.PartBytes.fetch_through.Goals as goal

pub returns-then-self-size-clause-loads : goal.returns-then-self-size-clause-loads
returns-then-self-size-clause-loads g c = nothing_asked c.args.self.now c.args.self.now c.args.source.now (Ok tt) tt (all_blocks_itself c.args.self.now) (λ bs h. h) (g.met.S.BlockSource.follows_itself c.args.source.now)
