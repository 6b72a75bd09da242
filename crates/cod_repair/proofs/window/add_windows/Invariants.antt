use Rattle.std.proofs.Common.{◌≡◌, ℕ, List, Bor, length, map, take}
use Rattle.std.specs.List.{range_with_len}
use Rattle.cod_repair.proofs.Encoding.{part}
use Rattle.cod_repair.proofs.window.add_windows.Given as goal

abbrev pub invariant-loop-j : goal.invariant-loop-j
invariant-loop-j l = record {
  wide : length l.sources ≡ 4;
  each : map (λ (s : Bor (List ℕ)). s.now) (take l.j l.sources) ≡ map (part l.len l.windows) (range_with_len 0 l.j);
}
