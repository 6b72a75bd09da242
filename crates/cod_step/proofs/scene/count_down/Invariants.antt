use Rattle.std.proofs.Common.{◌≡◌, ◌+◌, ◌-◌, ◌≤◌, length}
use Rattle.std.specs.Prelude.{not}
use Rattle.std.specs.List.{filter, range_with_len}
use Rattle.cod_step.specs.Live.{count_down, is_live}
use Rattle.cod_step.proofs.scene.count_down.Given as goal

abbrev pub invariant-loop-i : goal.invariant-loop-i
invariant-loop-i l = record {
  few : l.count ≤ l.i;
  rest : l.count + length (filter (λ m. not (is_live l.live m)) (range_with_len l.i (l.n - l.i))) ≡ count_down l.live l.n;
}
