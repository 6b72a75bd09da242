use Rattle.std.proofs.Common.{◌≡◌, ◌+◌, ◌<◌, ◌≤◌, ℕ, length}
use Rattle.std.specs.Prelude.{slice_index}
use Rattle.cod_script.specs.Room.{taken_on}
use Rattle.cod_scenario.specs.Lines.{shape_of}
use Rattle.cod_scenario.proofs.room.take_room.Given as goal

abbrev pub invariant-loop-x : goal.invariant-loop-x
invariant-loop-x l = record {
  done : (y : ℕ) → y < l.x → slice_index l.taken y ≡ taken_on (shape_of l.h) l.h.nodes (l.s + 1) y;
  left : (y : ℕ) → l.x ≤ y → y < l.h.nodes → slice_index l.taken y ≡ taken_on (shape_of l.h) l.h.nodes l.s y;
  same : length l.taken ≡ length l.initial.taken;
}
