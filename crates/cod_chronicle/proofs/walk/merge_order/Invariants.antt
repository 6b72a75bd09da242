use Rattle.std.proofs.Common.{◌≡◌, length, map, take}
use Rattle.std.specs.List.{AllByRecursion}
use Rattle.cod_chronicle.specs.Said.{StampsRise}
use Rattle.cod_chronicle.specs.Walk.{lists_of}
use Rattle.cod_chronicle.proofs.walk.merge_order.Given as goal

abbrev pub invariant-loop-value : goal.invariant-loop-value
invariant-loop-value g l = (lists_of l.rests.items ≡ map g.T.Stands.entries (take l.value-index l.all)) × AllByRecursion StampsRise (lists_of l.rests.items) × (length l.rests.items ≡ l.value-index)
