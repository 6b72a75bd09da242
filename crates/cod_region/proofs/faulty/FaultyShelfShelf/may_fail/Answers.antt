use Rattle.std.proofs.Common.{◌∙◌}
use Rattle.cod_region.proofs.Listed.{any_listed}
use Rattle.cod_region.proofs.faulty.FaultyShelfShelf.may_fail.Goals as goal

pub returns : goal.returns
returns c = c.has_fault.ensures ∙ any_listed c.args.self.now c.args.node
