use Rattle.su_table.proofs.ByteCosts.{a_byte_makes}
use Rattle.su_table.proofs.laws.a_byte_makes_few_hashes.Goals as goal

pub returns-clause-each : goal.returns-clause-each
returns-clause-each c = a_byte_makes

pub returns-clause-of_256_blocks : goal.returns-clause-of_256_blocks
returns-clause-of_256_blocks c = a_byte_makes 8

pub returns-clause-of_4096_blocks : goal.returns-clause-of_4096_blocks
returns-clause-of_4096_blocks c = a_byte_makes 12
