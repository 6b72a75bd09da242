-- Counts that rise.
use Rattle.std.proofs.Common.{◌≡◌, ℕ, zero, suc, ◌+◌, ◌≤◌, sym, ap, ◌∙◌, arith}
use Rattle.cod_types.specs.Faults.{bump, grown, Rose}

-- a count after m and then n more
pub grown-grown : (n m count : ℕ) → grown n (grown m count) ≡ grown (n + m) count
grown-grown zero m count = let z : zero + m ≡ m = omega arith in ap (λ k. grown k count) (sym z)
grown-grown (suc n) m count = let s : suc n + m ≡ suc (n + m) = omega arith in ap bump (grown-grown n m count) ∙ ap (λ k. grown k count) (sym s)

-- a count that rose early has risen
pub rose_before : (before middle now : ℕ) → Rose before middle → middle ≤ now → Rose before now
rose_before before middle now first later = omega arith

-- a count that rose late has risen
pub rose_after : (before middle now : ℕ) → before ≤ middle → Rose middle now → Rose before now
rose_after before middle now first later = omega arith
