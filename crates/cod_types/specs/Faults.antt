-- Counts of calls and of faults, which stop at the end of their type.
use Rattle.std.specs.Prelude.{◌≡◌, ℕ, zero, suc, ◌+◌, ◌-◌, ◌≤◌, ◌^◌, min, Result, OnOk, OnErr}

-- a count after one more, or at its type's end
abbrev pub bump : ℕ → ℕ
bump n = min (n + 1) (2 ^ 64 - 1)

-- a count after n more
abbrev pub grown : (n count : ℕ) → ℕ
grown zero count = count
grown (suc n) count = bump (grown n count)

-- a count rose, or stands at its type's end
abbrev pub Rose : (before now : ℕ) → Type 0
Rose before now = bump before ≤ now

-- a call's failure has its cause in a count of faults, which never falls and stays where the call succeeds
pub record HasCause {T E : Type 0} (before now : ℕ) (result : Result T E) : Type 0 where
  pub later : before ≤ now
  pub failed : OnErr result (Rose before now)
  pub kept : OnOk result (now ≡ before)
