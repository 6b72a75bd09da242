-- Numbers drawn from a number: each state follows from the one before it, and its upper bits are what is drawn.
use Rattle.std.specs.Prelude.{ℕ, zero, suc, ◌+◌, ◌*◌, ◌/◌, ◌%◌, ◌^◌}

abbrev pub next_state : ℕ → ℕ
next_state x = (x * 6364136223846793005 + 1442695040888963407) % 2 ^ 64

-- the state that comes so many draws after a state
unfoldable pub after : (draws : ℕ) → ℕ → ℕ
after zero x = x
after (suc n) x = next_state (after n x)

-- a number below m, drawn where the state was x: 31 bits of the next state, divided by m
abbrev pub drawn : (m : ℕ) → ℕ → ℕ
drawn m x = (next_state x / 2 ^ 33) % m
