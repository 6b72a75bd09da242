-- What every scenario has.
use Rattle.std.proofs.Common.{◌≡◌, subst, take, zero, suc, ℕ, ◌+◌, ◌≤◌, Option, Some, None, List, [], ◌∷◌, length, arith}
use Rattle.std.specs.Prelude.{slice_index_or}
use Rattle.std.specs.List.{cons_option, range_with_len, sum_by}
use Rattle.cod_script.specs.declared.line.Line.{Line}
use Rattle.cod_script.specs.Script.{Script, Ask, Client, ask_of, asks, nobody}
use Rattle.cod_script.specs.Sound.{IsScenario}
use Rattle.std.proofs.lemmas.List.Sums.{sum_by_more, sum_by-take-le}
use Rattle.cod_tool.proofs.Sums.{sums_more}
use Rattle.cod_tool.specs.Fit.{IsFit}

option_short : (o : Option Ask) (l : List Ask) → length (cons_option o l) ≤ 1 + length l
option_short None l = omega arith
option_short (Some a) l = omega arith

-- a line asks one call at most
asks_short : (ls : List Line) → length (asks ls) ≤ length ls
asks_short [] = omega arith
asks_short (l ∷ ls) = let rest = asks_short ls in let one = option_short (ask_of l.what) (asks ls) in omega arith

-- the calls of the first clients are at most their lines
calls_within : (cs : List Client) (i : ℕ) → i ≤ length cs
    → sum_by (λ who. length (asks (slice_index_or cs who nobody).lines)) (range_with_len 0 i) ≤ sum_by (λ c. length c.lines) (take i cs)
calls_within cs zero le = omega arith
calls_within cs (suc i) le =
    let f : ℕ → ℕ = λ who. length (asks (slice_index_or cs who nobody).lines) in
    let size : Client → ℕ = λ c. length c.lines in
    let before = calls_within cs i (omega arith) in
    let e : i + 1 ≡ suc i = omega arith in
    let more = sums_more f i in
    let lines : sum_by size (take (i + 1) cs) ≡ sum_by size (take i cs) + size (slice_index_or cs i nobody) = sum_by_more size cs i nobody (omega arith) in
    let here = asks_short (slice_index_or cs i nobody).lines in
    let next : sum_by f (range_with_len 0 (i + 1)) ≤ sum_by size (take (i + 1) cs) = omega arith in
    subst (λ (k : ℕ). sum_by f (range_with_len 0 k) ≤ sum_by size (take k cs)) e next

-- what every scenario has is enough
pub fit_of : (x : Script) → IsScenario x → IsFit x
fit_of x s =
    let n : ℕ = length x.clients in
    let calls = calls_within x.clients n (omega arith) in
    let all = sum_by-take-le (λ (c : Client). length c.lines) x.clients n in
    record {
      within = s.shape;
      some_nodes = s.some_nodes;
      columns = s.columns;
      few_calls = omega (arith, calls, all, s.few_lines);
    }
