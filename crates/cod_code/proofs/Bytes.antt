-- Lists of bytes, one after the other.
use Rattle.std.proofs.Common.{ℕ, zero, suc, ◌<◌, arith, List, [], ◌∷◌}
use Rattle.cod_code.specs.Codewords.{AreBytes}

-- `AreBytes` by recursion
abbrev pub EachByte : List ℕ → Type 0
EachByte [] = Unit {0}
EachByte (x ∷ xs) = (x < 256) × EachByte xs

pub each_byte : (xs : List ℕ) → AreBytes xs → EachByte xs
each_byte [] h = tt
each_byte (x ∷ xs) h = (h 0, each_byte xs (λ i. h (suc i)))

pub are_bytes : (xs : List ℕ) → EachByte xs → AreBytes xs
are_bytes [] b i = omega arith
are_bytes (x ∷ xs) b zero = b.0
are_bytes (x ∷ xs) b (suc i) = are_bytes xs b.1 i
