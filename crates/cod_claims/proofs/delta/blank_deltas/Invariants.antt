use Rattle.std.proofs.Common.{◌≡◌, map, take}
use Rattle.std.specs.Arc.{arc_value}
use Rattle.cod_claims.specs.Changes.{blank}
use Rattle.cod_claims.proofs.delta.blank_deltas.Given as goal

abbrev pub invariant-loop-part : goal.invariant-loop-part
invariant-loop-part l = l.deltas.items ≡ map (blank (arc_value l.shared) l.g.block l.off) (take l.part-index l.parts)
