use Rattle.std.proofs.Common.{◌≡◌, ◌≤◌, ◌<◌, ◌-◌, ◌++◌, ℕ, List, length, take, get_or, bit_xor}
use Rattle.std.specs.List.{flat_map, filter, AllByRecursion}
use Rattle.cod_types.specs.Limits.{Shape}
use Rattle.cod_parity.specs.Log.{IsDue, Logged, IsIn, text, is_past, no_lowest, lowest_from, change}
use Rattle.cod_parity.proofs.Scan.{Scan}
use Rattle.cod_parity.proofs.log.fold.Given as goal

abbrev pub invariant-records : goal.invariant-records
invariant-records l = record {
  behind : l.to ≤ l.at;
  long : length l.log ≡ length l.initial.log;
  wide : length l.base ≡ length l.initial.base;
  within : l.at ≤ length l.log;
  due : IsDue l.lowest l.cuts → IsDue no_lowest l.cuts;
  lowest : (g : Shape) (records : List Logged) → g.k ≤ 16 → AllByRecursion (IsIn g) records → l.initial.log ≡ flat_map text records
      → Scan g l.log l.at (λ ls. lowest_from l.lowest (filter (is_past l.cuts) ls) ≡ lowest_from no_lowest (filter (is_past l.cuts) records));
  kept : (g : Shape) (records : List Logged) → g.k ≤ 16 → AllByRecursion (IsIn g) records → l.initial.log ≡ flat_map text records
      → Scan g l.log l.at (λ ls. take l.to l.log ++ flat_map text (filter (is_past l.cuts) ls) ≡ flat_map text (filter (is_past l.cuts) records));
  sum : (g : Shape) (records : List Logged) → g.k ≤ 16 → AllByRecursion (IsIn g) records → l.initial.log ≡ flat_map text records
      → Scan g l.log l.at (λ ls. (x : ℕ) → x < length l.initial.base → bit_xor (get_or l.base x 0) (change l.cuts ls x) ≡ bit_xor (get_or l.initial.base x 0) (change l.cuts records x));
}

abbrev pub decreases-records : goal.decreases-records
decreases-records l = length l.log - l.at
