use Rattle.std.proofs.Common.{◌≡◌}
use Rattle.cod_layout.specs.Parts.{parts_among}
use Rattle.cod_layout.proofs.split.split_range.Given as goal

abbrev pub invariant-loop-block : goal.invariant-loop-block
invariant-loop-block l = l.parts ≡ parts_among l.g.block l.fn.off l.fn.len 0 l.block
