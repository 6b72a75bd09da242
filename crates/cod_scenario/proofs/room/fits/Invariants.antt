use Rattle.std.proofs.Common.{◌≡◌, ◌+◌, true}
use Rattle.std.specs.Prelude.{nat_le}
use Rattle.std.specs.List.{list_all, range_with_len}
use Rattle.cod_script.specs.Room.{taken_on}
use Rattle.cod_scenario.specs.Lines.{shape_of}
use Rattle.cod_scenario.proofs.room.fits.Given as goal

abbrev pub invariant-loop-x : goal.invariant-loop-x
invariant-loop-x l = list_all (λ y. nat_le (taken_on (shape_of l.h) l.h.nodes (l.s + 1) y) l.h.capacity) (range_with_len 0 l.x) ≡ true
