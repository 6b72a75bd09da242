use Rattle.std.proofs.Common.{◌≡◌, ◌==◌, ℕ, take}
use Rattle.std.specs.List.{list_any}
use Rattle.cod_place.specs.Spares.{is_in}
use Rattle.cod_seg.specs.Seg.{Col}
use Rattle.cod_repair.proofs.sources.taken.Given as goal

abbrev pub invariant-loop-i : goal.invariant-loop-i
invariant-loop-i g l = (node : ℕ) → is_in l.nodes node ≡ list_any (λ (c : Col). c.room.node.0 == node) (take l.i l.columns)
