-- A source and a sink in memory.
use Rattle.std.specs.Prelude.{ℕ, List, Bool, nat_eq}
use Rattle.std.specs.List.{list_any}

-- A source: the bytes that are left, the most that one call hands out, the calls that fail by their numbers from 0 on,
-- and how many calls there were and how many of them failed.
pub record Supply : Type 0 where
  pub left : List ℕ
  pub step : ℕ
  pub fails : List ℕ
  pub calls : ℕ
  pub faults : ℕ

-- A sink: the bytes that it took, how many it has room for, the calls that fail by their numbers from 0 on, and how many
-- calls there were and how many of them failed.
pub record Store : Type 0 where
  pub taken : List ℕ
  pub room : ℕ
  pub fails : List ℕ
  pub calls : ℕ
  pub faults : ℕ

-- whether the call of this number is to fail
abbrev pub is_listed : (fails : List ℕ) (call : ℕ) → Bool
is_listed fails call = list_any (λ listed. nat_eq listed call) fails
