-- The free bytes that a reply tells of were seen.
use Rattle.std.specs.Prelude.{ℕ, All, Option, Some, None}
use Rattle.cod_types.specs.declared.call.Reply.{Reply}
use Rattle.cod_types.specs.declared.call.Reply.TheVariants.{NoSpare}
use Rattle.cod_types.specs.declared.reasons.Why.{Why}
use Rattle.cod_types.specs.declared.reasons.Why.TheVariants as why

-- a number of free bytes among the reasons for no spare was seen: `Seen` says which numbers were seen of which node
abbrev pub IsLooked : (Seen : ℕ → ℕ → Type 0) → ℕ → Why → Type 0
IsLooked Seen node (why.Free bytes) = Seen node bytes
IsLooked Seen node _ = Unit {0}

abbrev pub AreLooked : (Seen : ℕ → ℕ → Type 0) → Reply → Type 0
AreLooked Seen (NoSpare reasons) = All (λ r. IsLooked Seen r.node.0 r.why) reasons
AreLooked Seen _ = Unit {0}

-- where a reply is there, each was seen
abbrev pub HasLooked : (Seen : ℕ → ℕ → Type 0) → Option Reply → Type 0
HasLooked Seen None = Unit {0}
HasLooked Seen (Some reply) = AreLooked Seen reply
