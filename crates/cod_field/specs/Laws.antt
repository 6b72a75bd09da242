-- The laws of the field. A sum of bytes is `bit_xor`, and each byte is its own negative.
use Rattle.std.specs.Prelude.{◌≡◌, ◌≢◌, ◌⊎◌, ℕ, ◌<◌, bit_xor}
use Rattle.cod_field.specs.Field.{product}

pub record IsField : Type 0 where
  pub closed : (a b : ℕ) → a < 256 → b < 256 → product a b < 256
  pub commutative : (a b : ℕ) → a < 256 → b < 256 → product a b ≡ product b a
  pub associative : (a b c : ℕ) → a < 256 → b < 256 → c < 256 → product (product a b) c ≡ product a (product b c)
  pub distributive : (a b c : ℕ) → a < 256 → b < 256 → c < 256 → product a (bit_xor b c) ≡ bit_xor (product a b) (product a c)
  pub one : (a : ℕ) → a < 256 → product a 1 ≡ a
  pub inverses : (a : ℕ) → a < 256 → a ≢ 0 → (b : ℕ) × (b < 256) × (product a b ≡ 1)
  pub no_zero_divisors : (a b : ℕ) → a < 256 → b < 256 → product a b ≡ 0 → (a ≡ 0) ⊎ (b ≡ 0)
