use Rattle.std.proofs.Common.{◌≡◌, ◌≤◌, ◌<◌, ◌-◌, ◌+◌, ℕ, List, length, get_or, bit_xor}
use Rattle.std.specs.List.{flat_map, AllByRecursion}
use Rattle.cod_types.specs.Limits.{Shape}
use Rattle.cod_parity.specs.Log.{Logged, IsIn, text, change}
use Rattle.cod_parity.proofs.Scan.{Scan}
use Rattle.cod_parity.proofs.log.add_log.Given as goal

abbrev pub invariant-records : goal.invariant-records
invariant-records l = record {
  wide : length l.window ≡ length l.initial.window;
  within : l.at ≤ length l.log;
  sum : (g : Shape) (records : List Logged) → g.k ≤ 16 → AllByRecursion (IsIn g) records → l.log ≡ flat_map text records
      → Scan g l.log l.at (λ ls. (x : ℕ) → x < length l.initial.window
      → bit_xor (get_or l.window x 0) (change l.cuts ls (l.off + x)) ≡ bit_xor (get_or l.initial.window x 0) (change l.cuts records (l.off + x)));
}

abbrev pub decreases-records : goal.decreases-records
decreases-records l = length l.log - l.at
