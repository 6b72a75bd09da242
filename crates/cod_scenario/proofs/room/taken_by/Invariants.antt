use Rattle.std.proofs.Common.{◌≡◌, ◌*◌, ◌≤◌, ◌^◌}
use Rattle.std.specs.List.{sum_by, range_with_len}
use Rattle.cod_script.specs.Room.{column_on}
use Rattle.cod_scenario.specs.Lines.{shape_of}
use Rattle.cod_scenario.proofs.room.taken_by.Given as goal

abbrev pub invariant-loop-i : goal.invariant-loop-i
invariant-loop-i l = record { total : l.sum ≡ sum_by (column_on (shape_of l.h) l.h.nodes l.x l.s) (range_with_len 0 l.i); small : l.sum ≤ l.i * 2 ^ 33 }
