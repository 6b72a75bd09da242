use Rattle.std.proofs.Common.{◌≡◌, ◌≤◌, ℕ, get_or, length}
use Rattle.cod_seg.specs.Steps.{raised_to}
use Rattle.cod_step.proofs.beside.raise_cuts.Given as goal

abbrev pub invariant-loop-j : goal.invariant-loop-j
invariant-loop-j l = record {
  raised : l.cuts ≡ raised_to l.j l.caller.0 l.claims l.initial.cuts;
  long : length l.cuts ≡ 16;
  rest : (m : ℕ) → l.j ≤ m → get_or l.cuts m 0 ≡ get_or l.initial.cuts m 0;
}
