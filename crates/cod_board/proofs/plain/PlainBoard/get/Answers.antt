use Rattle.std.proofs.Common.{arith}
use Rattle.std.proofs.lemmas.Grind.{common_steps}
use Rattle.cod_board.proofs.Known.{line_of}
use Rattle.cod_board.proofs.plain.PlainBoard.get.Goals as goal

pub returns-clause-line : goal.returns-clause-line
returns-clause-line c = line_of c.self.inside.kills.items c.args.node.0 _ c.self.invariant (grind (arith, common_steps))
